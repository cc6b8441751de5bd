use Rattle.std.proofs.Common.{[], take, refl, sym, ap, subst, ◌∙◌, inr, append-nil, arith}
use Rattle.std.proofs.lemmas.List.{length-take-le}
use Rattle.std.proofs.KnownBytes.{Consumes-nil}
use Rattle.std.proofs.lemmas.Result.{err_from_is_err_and}
use Rattle.mc_conn.specs.ConnFault.{InputFailed, OutOfMemory}
use Rattle.mc_stream.specs.Event.{ends, failures, has_ended, moved}
use Rattle.mc_conn.proofs.Breakings.{fails_pulling}
use Rattle.mc_read.specs.Administering.{lines_spoken}
use Rattle.mc_read.specs.Pulling.{IsFedByPull}
use Rattle.mc_conn.proofs.Readings.{read_by, read_fed_at}
use Rattle.mc_conn.proofs.Takings.{does_fed, does_waited, remembers_open}
use Rattle.mc_conn.proofs.conn.Conn.pull.Goals as goal

pub returns-in_err-pull-clause-outcome : goal.returns-in_err-pull-clause-outcome
returns-in_err-pull-clause-outcome g c =
    let out = err_from_is_err_and c.from_residual.result c.from_residual.ensures.1 in
    let before = g.I.Input.tells c.args.input.now in
    rw (out.1, out.2, c.in_err-pull.ensures.memory, c.in_err-pull.ensures.unchanged.1) (λ until worker output.
    fails_pulling until OutOfMemory c.args.self.now _ worker before before output [] refl refl refl (sym (append-nil (moved before.events))) (Consumes-nil before.left) (refl, refl))

pub returns-in-Bytes-clause-outcome : goal.returns-in-Bytes-clause-outcome
returns-in-Bytes-clause-outcome g c until left worker output =
    let pulls = subst (λ pull. IsFedByPull (g.I.Input.tells c.args.input.now) (g.I.Input.tells c.pull.new.input) c.clamp.result c.args.self.now.reader c.pull.new.self pull) c.in-Bytes.is c.in_ok-pull.ensures.pulls in
    let said = pulls.is in
    let piece = take c.in-Bytes.field-0 pulls.memory in
    let waiting = c.args.self.now.waiting in
    let old = c.args.self.now.reader in
    let new = c.pull.new.self in
    does_fed c.args.self.now _ worker _ _ output piece
    (read_by old.speaker new.speaker c.pull.ensures.speaker waiting waiting old.held new.held piece []
    (read_fed_at (lines_spoken old.speaker) waiting waiting old.held new.held piece c.requires.waiting refl pulls.readings))
    refl refl refl refl (ap moved said.event) said.rest (ap failures said.event) (remembers_open c.args.self.now.has_ended _ _ c.requires.going (ap ends said.event)) refl until
    (let taken = length-take-le c.in-Bytes.field-0 pulls.memory said.count.1 in let some = said.count.0 in omega arith)

pub returns-in-Empty-clause-outcome : goal.returns-in-Empty-clause-outcome
returns-in-Empty-clause-outcome g c until left worker output =
    let pulls = subst (λ pull. IsFedByPull (g.I.Input.tells c.args.input.now) (g.I.Input.tells c.pull.new.input) c.clamp.result c.args.self.now.reader c.pull.new.self pull) c.in-Empty.is c.in_ok-pull.ensures.pulls in
    let said = pulls.is in
    let waiting = c.args.self.now.waiting in
    let old = c.args.self.now.reader in
    let new = c.pull.new.self in
    does_waited c.args.self.now _ worker _ _ output []
    (read_by old.speaker new.speaker c.pull.ensures.speaker waiting waiting old.held new.held [] []
    (read_fed_at (lines_spoken old.speaker) waiting waiting old.held new.held [] c.requires.waiting refl pulls.readings))
    refl refl refl refl (ap moved said.event ∙ sym (append-nil _)) said.rest (ap failures said.event)
    (remembers_open c.args.self.now.has_ended _ _ c.requires.going (ap ends said.event)) refl until refl

pub returns-in-Ended-clause-outcome : goal.returns-in-Ended-clause-outcome
returns-in-Ended-clause-outcome g c until left worker output =
    let pulls = subst (λ pull. IsFedByPull (g.I.Input.tells c.args.input.now) (g.I.Input.tells c.pull.new.input) c.clamp.result c.args.self.now.reader c.pull.new.self pull) c.in-Ended.is c.in_ok-pull.ensures.pulls in
    let said = pulls.is in
    let waiting = c.args.self.now.waiting in
    let old = c.args.self.now.reader in
    let new = c.pull.new.self in
    does_waited c.args.self.now _ worker _ _ output []
    (read_by old.speaker new.speaker c.pull.ensures.speaker waiting waiting old.held new.held [] []
    (read_fed_at (lines_spoken old.speaker) waiting waiting old.held new.held [] c.requires.waiting refl pulls.readings))
    refl refl refl refl (ap moved said.event ∙ sym (append-nil _)) said.rest (ap failures said.event)
    (inr (ap has_ended said.event, said.no_more refl)) refl until refl

pub returns-in-Failed-clause-outcome : goal.returns-in-Failed-clause-outcome
returns-in-Failed-clause-outcome g c until worker output =
    let said = (subst (λ pull. IsFedByPull (g.I.Input.tells c.args.input.now) (g.I.Input.tells c.pull.new.input) c.clamp.result c.args.self.now.reader c.pull.new.self pull) c.in-Failed.is c.in_ok-pull.ensures.pulls).is in
    fails_pulling until InputFailed c.args.self.now _ worker _ _ output [] refl refl refl (ap moved said.event ∙ sym (append-nil _)) said.rest (ap failures said.event, refl)
