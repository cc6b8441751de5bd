use Rattle.std.proofs.Common.{ap, ◌∙◌, arith}
use Rattle.std.specs.Hash.DefaultHasher.{write_byte}
use Rattle.mc_tables.proofs.Bytes.{whole_word, within_word}
use Rattle.mc_tables.proofs.sip.SipHasher.write_byte.Goals as goal

pub returns-then-self-eq0 : goal.returns-then-self-eq0
returns-then-self-eq0 c =
    let s = c.self.inside in
    c.compress.ensures
    ∙ whole_word s.v0 s.v1 s.v2 s.v3 s.latest s.written c.args.byte (omega arith) c.ranges.byte.fits c.if-self-eq0.true
    ∙ ap (λ hasher. write_byte hasher c.args.byte) c.self.view_is

pub returns-else-self-eq0 : goal.returns-else-self-eq0
returns-else-self-eq0 c =
    let s = c.self.inside in
    within_word s.v0 s.v1 s.v2 s.v3 s.latest s.written c.args.byte (omega arith) c.ranges.byte.fits c.if-self-eq0.false
    ∙ ap (λ hasher. write_byte hasher c.args.byte) c.self.view_is
