use Rattle.std.proofs.Common.{◌≢◌, [], None}
use Rattle.mc_read.specs.Administering.{lines_spoken}
use Rattle.mc_conn.proofs.Readings.{held_after_look, most_looked, none_by, read_by, read_looked}
use Rattle.mc_conn.proofs.conn.Conn.look.Goals as goal

pub returns-in_ok-self-clause-read : goal.returns-in_ok-self-clause-read
returns-in_ok-self-clause-read c =
    let old = c.args.self.now.reader in
    read_by old.speaker c.next.new.self.speaker c.next.ensures.speaker c.args.self.now.waiting c.in_ok-self.field-0 old.held c.next.new.self.held [] []
    (read_looked (lines_spoken old.speaker) c.args.self.now.waiting c.in_ok-self.field-0 old.held c.next.new.self.held c.if-is_none.ensures c.in_ok-self.ensures.answer)

pub returns-in_ok-self-clause-found : goal.returns-in_ok-self-clause-found
returns-in_ok-self-clause-found c =
    let old = c.args.self.now.reader in
    none_by old.speaker c.next.new.self.speaker c.next.ensures.speaker c.in_ok-self.field-0 c.next.new.self.held (c.in_ok-self.field-0 ≢ None)
    (held_after_look (lines_spoken old.speaker) old.held c.next.new.self.held c.in_ok-self.field-0 c.in_ok-self.ensures.answer)

pub returns-in_ok-self-clause-most : goal.returns-in_ok-self-clause-most
returns-in_ok-self-clause-most c =
    let old = c.args.self.now.reader in
    most_looked (lines_spoken old.speaker) c.args.self.now.waiting c.in_ok-self.field-0 old.held c.next.new.self.held c.if-is_none.ensures c.in_ok-self.ensures.answer
