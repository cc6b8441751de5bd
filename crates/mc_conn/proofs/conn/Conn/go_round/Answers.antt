use Rattle.std.proofs.Common.{[], refl, sym, inl, append-nil, arith}
use Rattle.std.proofs.lemmas.Result.{err_from_is_err_and}
use Rattle.mc_stream.specs.Stream.{both}
use Rattle.mc_conn.specs.Turn.{scene}
use Rattle.uc_worker.specs.contracts.laws.WorkerGoesOn.TheImpl.{continues_self-value}
use Rattle.mc_conn.proofs.Breakings.{fails_later}
use Rattle.mc_conn.proofs.Endings.{goes_round, pulls_within}
use Rattle.mc_conn.proofs.Takings.{does_trans}
use Rattle.mc_conn.proofs.Countings.{tallies_same, tallies_trans, tallies_within}
use Rattle.mc_conn.proofs.conn.Conn.go_round.Goals as goal

pub returns-in_err-first-clause-outcome : goal.returns-in_err-first-clause-outcome
returns-in_err-first-clause-outcome g c =
    let out = err_from_is_err_and c.from_residual.result c.from_residual.ensures.1 in
    rw (out.1, out.2) (c.in_err-first.ensures.outcome c.args.until_done _ _)

pub returns-in_err-taken-clause-outcome : goal.returns-in_err-taken-clause-outcome
returns-in_err-taken-clause-outcome g c =
    let out = err_from_is_err_and c.from_residual-in_err-taken.result c.from_residual-in_err-taken.ensures.1 in
    rw (out.1, out.2) (fails_later c.args.until_done c.in_err-taken.field-0.0 _ _ _ _ (c.in_ok-first.ensures.outcome c.args.until_done 0 _ _) (c.in_err-taken.ensures.outcome _))

pub returns-in_err-pulled-clause-outcome : goal.returns-in_err-pulled-clause-outcome
returns-in_err-pulled-clause-outcome g c =
    let out = err_from_is_err_and c.from_residual-in_err-pulled.result c.from_residual-in_err-pulled.ensures.1 in
    rw (out.1, out.2)
    (fails_later c.args.until_done c.in_err-pulled.field-0.0 _ _ _ _ (does_trans _ _ _ _ _ _ (c.in_ok-first.ensures.outcome c.args.until_done _ _ _) (c.in_ok-taken.ensures.outcome _)) c.in_err-pulled.ensures.outcome)

pub returns-in_err-last-clause-outcome : goal.returns-in_err-last-clause-outcome
returns-in_err-last-clause-outcome g c =
    let out = err_from_is_err_and c.from_residual-in_err-last.result c.from_residual-in_err-last.ensures.1 in
    rw (out.1, out.2)
    (fails_later c.args.until_done c.in_err-last.field-0.0 _ _ _ _
    (does_trans _ _ _ _ _ _ (does_trans _ _ _ _ _ _ (c.in_ok-first.ensures.outcome c.args.until_done _ _ _) (c.in_ok-taken.ensures.outcome _)) c.in_ok-pulled.ensures.outcome) (c.in_err-last.ensures.outcome c.args.until_done _ _))

pub returns-clause-outcome : goal.returns-clause-outcome
returns-clause-outcome g c =
    goes_round _ _ _ _ _ _ _ _ (does_trans _ _ _ _ _ _ (c.in_ok-first.ensures.outcome c.args.until_done _ _ _) (c.in_ok-taken.ensures.outcome _)) c.in_ok-pulled.ensures.outcome (c.in_ok-last.ensures.outcome c.args.until_done _ _ _)
    c.in_ok-pulled.ensures.held refl c.in_ok-last.ensures.same.role c.in_ok-last.ensures.same.holding c.in_ok-last.ensures.same.has_ended c.in_ok-last.ensures.same.over c.in_ok-pulled.ensures.stuck refl refl c.in_ok-last.ensures.left _ c.state.ensures

pub returns-in_err-first-clause-pulls : goal.returns-in_err-first-clause-pulls
returns-in_err-first-clause-pulls g c = record { once = inl refl; late = inl refl }

pub returns-in_err-taken-clause-pulls : goal.returns-in_err-taken-clause-pulls
returns-in_err-taken-clause-pulls g c = record { once = inl refl; late = inl refl }

pub returns-in_err-pulled-clause-pulls : goal.returns-in_err-pulled-clause-pulls
returns-in_err-pulled-clause-pulls g c =
    pulls_within _ _ _ _ (does_trans _ _ _ _ _ _ (c.in_ok-first.ensures.outcome c.args.until_done _ _ _) (c.in_ok-taken.ensures.outcome _)).takes refl c.pull_and_take.ensures.pulls (continues_self-value.it _) refl [] (sym (append-nil _)) (omega arith)

pub returns-in_err-last-clause-pulls : goal.returns-in_err-last-clause-pulls
returns-in_err-last-clause-pulls g c =
    let input = g.I.Input.tells c.pull_and_take.new.input in
    let broken = (c.in_err-last.ensures.outcome c.args.until_done c.pull_and_take.new.worker input).breaks.taken in
    pulls_within _ _ (scene c.pull_and_take.new.self c.pull_and_take.new.worker (both input (g.O.Output.tells c.pull_and_take.new.output))) _
    (does_trans _ _ _ _ _ _ (c.in_ok-first.ensures.outcome c.args.until_done _ _ _) (c.in_ok-taken.ensures.outcome _)).takes refl c.pull_and_take.ensures.pulls broken.onward refl broken.sent broken.pushed broken.waited

pub returns-clause-pulls : goal.returns-clause-pulls
returns-clause-pulls g c =
    let input = g.I.Input.tells c.pull_and_take.new.input in
    let last = (c.in_ok-last.ensures.outcome c.args.until_done 0 c.pull_and_take.new.worker input).takes.taken in
    pulls_within _ _ (scene c.pull_and_take.new.self c.pull_and_take.new.worker (both input (g.O.Output.tells c.pull_and_take.new.output))) _
    (does_trans _ _ _ _ _ _ (c.in_ok-first.ensures.outcome c.args.until_done _ _ _) (c.in_ok-taken.ensures.outcome _)).takes refl c.pull_and_take.ensures.pulls last.onward refl last.sent last.pushed last.waited

pub returns-in_err-first-clause-tally : goal.returns-in_err-first-clause-tally
returns-in_err-first-clause-tally g c = tallies_same _ _ _ c.in_err-first.ensures.same.past

pub returns-in_err-taken-clause-tally : goal.returns-in_err-taken-clause-tally
returns-in_err-taken-clause-tally g c = tallies_within _ _ _ _ _ _ c.in_ok-first.ensures.same.past c.in_err-taken.ensures.tally refl

pub returns-in_err-pulled-clause-tally : goal.returns-in_err-pulled-clause-tally
returns-in_err-pulled-clause-tally g c =
    tallies_within _ _ _ _ _ _ c.in_ok-first.ensures.same.past (tallies_trans _ _ _ _ _ _ c.in_ok-taken.ensures.tally c.in_err-pulled.ensures.tally) refl

pub returns-in_err-last-clause-tally : goal.returns-in_err-last-clause-tally
returns-in_err-last-clause-tally g c =
    tallies_within _ _ _ _ _ _ c.in_ok-first.ensures.same.past (tallies_trans _ _ _ _ _ _ c.in_ok-taken.ensures.tally c.in_ok-pulled.ensures.tally)
    c.in_err-last.ensures.same.past

pub returns-clause-tally : goal.returns-clause-tally
returns-clause-tally g c =
    tallies_within _ _ _ _ _ _ c.in_ok-first.ensures.same.past (tallies_trans _ _ _ _ _ _ c.in_ok-taken.ensures.tally c.in_ok-pulled.ensures.tally)
    c.in_ok-last.ensures.same.past
