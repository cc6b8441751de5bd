use Rattle.std.proofs.Common.{◌∙◌, inl, refl}
use Rattle.std.proofs.lemmas.Result.{err_from_is_err_and}
use Rattle.mc_conn.proofs.Endings.{late_later, serves, stops_later, stops_push}
use Rattle.mc_conn.proofs.Takings.{takes_self, takes_trans}
use Rattle.mc_conn.proofs.pumping.pump.Goals as goal

pub loop-init : goal.loop-init
loop-init g c = record { begun = c.if-conn.false; going = c.if-conn.false; takes = takes_self _; late = inl refl }

pub returns-in_err-turn-clause-outcome : goal.returns-in_err-turn-clause-outcome
returns-in_err-turn-clause-outcome g c =
    let out = err_from_is_err_and c.from_residual.result c.from_residual.ensures.1 in
    rw (out.1, out.2) (λ begun. stops_later c.in_err-turn.field-0.0 _ _ _ c.loop.invariant.takes (c.in_err-turn.ensures.outcome c.loop.invariant.going))

pub returns-in-Closed-clause-outcome : goal.returns-in-Closed-clause-outcome
returns-in-Closed-clause-outcome g c begun = serves _ _ _ _ c.loop.invariant.takes (c.in_ok-turn.ensures.outcome c.loop.invariant.going) c.in-Closed.is

pub loop-preserved-in-Idle : goal.loop-preserved-in-Idle
loop-preserved-in-Idle g c =
    let takes = (c.in_ok-turn.ensures.outcome c.loop.invariant.going).takes in
    record {
      begun = c.loop.invariant.begun;
      going = takes.shut ∙ c.loop.invariant.going;
      takes = takes_trans _ _ _ c.loop.invariant.takes takes;
      late = late_later _ _ _ c.loop.invariant.takes c.loop.invariant.late c.turn.ensures.pulls.late takes.taken.onward _ takes.taken.pushed takes.taken.waited;
    }

pub loop-preserved : goal.loop-preserved
loop-preserved g c =
    let takes = (c.in_ok-turn.ensures.outcome c.loop.invariant.going).takes in
    record {
      begun = c.loop.invariant.begun;
      going = takes.shut ∙ c.loop.invariant.going;
      takes = takes_trans _ _ _ c.loop.invariant.takes takes;
      late = late_later _ _ _ c.loop.invariant.takes c.loop.invariant.late c.turn.ensures.pulls.late takes.taken.onward _ takes.taken.pushed takes.taken.waited;
    }

pub returns-in_err-turn-clause-late : goal.returns-in_err-turn-clause-late
returns-in_err-turn-clause-late g c =
    let stopped = c.in_err-turn.ensures.outcome c.loop.invariant.going in
    let more = stops_push c.in_err-turn.field-0.0 _ _ stopped in
    late_later _ _ _ c.loop.invariant.takes c.loop.invariant.late c.turn.ensures.pulls.late stopped.breaks.taken.onward more.0 more.1 more.2

pub returns-in-Closed-clause-late : goal.returns-in-Closed-clause-late
returns-in-Closed-clause-late g c =
    let taken = (c.in_ok-turn.ensures.outcome c.loop.invariant.going).takes.taken in
    late_later _ _ _ c.loop.invariant.takes c.loop.invariant.late c.turn.ensures.pulls.late taken.onward _ taken.pushed taken.waited
