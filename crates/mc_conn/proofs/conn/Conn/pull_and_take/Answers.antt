use Rattle.std.proofs.Common.{refl, ◌∙◌}
use Rattle.std.proofs.lemmas.Result.{err_from_is_err_and}
use Rattle.mc_stream.specs.Stream.{both}
use Rattle.mc_conn.specs.Turn.{queue_of, scene}
use Rattle.uc_worker.specs.contracts.laws.WorkerGoesOn.TheImpl.{continues_self-value}
use Rattle.mc_conn.proofs.Breakings.{fails_later}
use Rattle.mc_conn.proofs.Endings.{none_held, pulls_once, still_on, within_bound}
use Rattle.mc_conn.proofs.Takings.{does_nothing, does_trans}
use Rattle.mc_conn.proofs.Countings.{tallies_same, tallies_self, tallies_within}
use Rattle.mc_conn.proofs.conn.Conn.pull_and_take.Goals as goal

pub returns-in_err-pushed-clause-outcome : goal.returns-in_err-pushed-clause-outcome
returns-in_err-pushed-clause-outcome g c =
    let out = err_from_is_err_and c.from_residual.result c.from_residual.ensures.1 in
    rw (out.1, out.2) (c.in_err-pushed.ensures.outcome c.args.until_done _ _)

pub returns-then-is_some-len-clause-outcome : goal.returns-then-is_some-len-clause-outcome
returns-then-is_some-len-clause-outcome g c = does_nothing _ _

pub returns-in_err-pulled-clause-outcome : goal.returns-in_err-pulled-clause-outcome
returns-in_err-pulled-clause-outcome g c =
    let out = err_from_is_err_and c.from_residual-in_err-pulled.result c.from_residual-in_err-pulled.ensures.1 in
    rw (out.1, out.2) (fails_later c.args.until_done c.in_err-pulled.field-0.0 _ _ _ _ (c.in_ok-pushed.ensures.outcome c.args.until_done 0 _ _) (c.in_err-pulled.ensures.outcome c.args.until_done _ _))

pub returns-in_err-taken-clause-outcome : goal.returns-in_err-taken-clause-outcome
returns-in_err-taken-clause-outcome g c =
    let out = err_from_is_err_and c.from_residual-in_err-taken.result c.from_residual-in_err-taken.ensures.1 in
    rw (out.1, out.2)
    (fails_later c.args.until_done c.in_err-taken.field-0.0 _ _ _ _ (does_trans _ _ _ _ _ _ (c.in_ok-pushed.ensures.outcome c.args.until_done 0 _ _) (c.in_ok-pulled.ensures.outcome c.args.until_done 0 _ _)) (c.in_err-taken.ensures.outcome _))

pub returns-clause-outcome : goal.returns-clause-outcome
returns-clause-outcome g c =
    does_trans _ _ _ _ _ _ (does_trans _ _ _ _ _ _ (c.in_ok-pushed.ensures.outcome c.args.until_done _ _ _) (c.in_ok-pulled.ensures.outcome c.args.until_done _ _ _)) (c.in_ok-taken.ensures.outcome _)

pub returns-then-self-is_empty-clause-outcome : goal.returns-then-self-is_empty-clause-outcome
returns-then-self-is_empty-clause-outcome g c = c.in_ok-pushed.ensures.outcome c.args.until_done _ _ _

pub returns-in_err-pulled-clause-pulls : goal.returns-in_err-pulled-clause-pulls
returns-in_err-pulled-clause-pulls g c =
    let none =
    none_held c.args.until_done c.args.worker.now c.args.self.now c.push.new.self c.is_some.result _ c.args.self.now.has_ended c.in_ok-pushed.ensures.same.holding c.requires.held c.is_some.ensures c.if-is_some-len.false
    in
    let within = within_bound (queue_of c.args.self.now) (queue_of c.push.new.self) c.len.result _ _ c.len.ensures c.if-is_some-len.false c.push.ensures.within in
    let left = still_on (queue_of c.push.new.self) c.push.new.self.is_over c.is_empty.result _ c.is_empty.ensures c.if-self-is_empty.false c.in_ok-pushed.ensures.left in
    pulls_once _ (scene c.push.new.self c.args.worker.now (both (g.I.Input.tells c.args.input.now) (g.O.Output.tells c.push.new.output))) _ (c.in_ok-pushed.ensures.outcome c.args.until_done 0 _ _).takes
    (continues_self-value.it _) refl none within left c.pull.ensures.once refl

pub returns-in_err-taken-clause-pulls : goal.returns-in_err-taken-clause-pulls
returns-in_err-taken-clause-pulls g c =
    let none =
    none_held c.args.until_done c.args.worker.now c.args.self.now c.push.new.self c.is_some.result _ c.args.self.now.has_ended c.in_ok-pushed.ensures.same.holding c.requires.held c.is_some.ensures c.if-is_some-len.false
    in
    let within = within_bound (queue_of c.args.self.now) (queue_of c.push.new.self) c.len.result _ _ c.len.ensures c.if-is_some-len.false c.push.ensures.within in
    let left = still_on (queue_of c.push.new.self) c.push.new.self.is_over c.is_empty.result _ c.is_empty.ensures c.if-self-is_empty.false c.in_ok-pushed.ensures.left in
    pulls_once _ (scene c.push.new.self c.args.worker.now (both (g.I.Input.tells c.args.input.now) (g.O.Output.tells c.push.new.output))) _ (c.in_ok-pushed.ensures.outcome c.args.until_done 0 _ _).takes
    c.in_err-taken.ensures.keeps.onward refl none within left c.pull.ensures.once refl

pub returns-clause-pulls : goal.returns-clause-pulls
returns-clause-pulls g c =
    let none =
    none_held c.args.until_done c.args.worker.now c.args.self.now c.push.new.self c.is_some.result _ c.args.self.now.has_ended c.in_ok-pushed.ensures.same.holding c.requires.held c.is_some.ensures c.if-is_some-len.false
    in
    let within = within_bound (queue_of c.args.self.now) (queue_of c.push.new.self) c.len.result _ _ c.len.ensures c.if-is_some-len.false c.push.ensures.within in
    let left = still_on (queue_of c.push.new.self) c.push.new.self.is_over c.is_empty.result _ c.is_empty.ensures c.if-self-is_empty.false c.in_ok-pushed.ensures.left in
    pulls_once _ (scene c.push.new.self c.args.worker.now (both (g.I.Input.tells c.args.input.now) (g.O.Output.tells c.push.new.output))) _ (c.in_ok-pushed.ensures.outcome c.args.until_done 0 _ _).takes
    c.in_ok-taken.ensures.keeps.onward refl none within left c.pull.ensures.once refl

pub returns-then-is_some-len-clause-tally : goal.returns-then-is_some-len-clause-tally
returns-then-is_some-len-clause-tally g c = tallies_self _ _

pub returns-in_err-pushed-clause-tally : goal.returns-in_err-pushed-clause-tally
returns-in_err-pushed-clause-tally g c = tallies_same _ _ _ c.in_err-pushed.ensures.same.past

pub returns-then-self-is_empty-clause-tally : goal.returns-then-self-is_empty-clause-tally
returns-then-self-is_empty-clause-tally g c = tallies_same _ _ _ c.in_ok-pushed.ensures.same.past

pub returns-in_err-pulled-clause-tally : goal.returns-in_err-pulled-clause-tally
returns-in_err-pulled-clause-tally g c = tallies_same _ _ _ (c.in_err-pulled.ensures.past ∙ c.in_ok-pushed.ensures.same.past)

pub returns-in_err-taken-clause-tally : goal.returns-in_err-taken-clause-tally
returns-in_err-taken-clause-tally g c =
    tallies_within _ _ _ _ _ _ (c.in_ok-pulled.ensures.past ∙ c.in_ok-pushed.ensures.same.past) c.in_err-taken.ensures.tally refl

pub returns-clause-tally : goal.returns-clause-tally
returns-clause-tally g c = tallies_within _ _ _ _ _ _ (c.in_ok-pulled.ensures.past ∙ c.in_ok-pushed.ensures.same.past) c.in_ok-taken.ensures.tally refl
