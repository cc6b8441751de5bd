use Rattle.std.proofs.Common.{◌∙◌, inl, refl}
use Rattle.std.proofs.lemmas.Result.{err_from_is_err_and}
use Rattle.mc_conn.proofs.Endings.{late_later, serves_closed, serves_full, stops_push, stops_until_later}
use Rattle.mc_conn.proofs.Takings.{in_time_self, in_time_trans, takes_self, takes_trans}
use Rattle.mc_conn.proofs.pumping.pump_until.Goals as goal

pub loop-init : goal.loop-init
loop-init g c = record { begun = c.if-conn.false; going = c.if-conn.false; takes = takes_self _; in_time = in_time_self _; late = inl refl }

pub returns-in_err-turn_until-clause-outcome : goal.returns-in_err-turn_until-clause-outcome
returns-in_err-turn_until-clause-outcome g c =
    let out = err_from_is_err_and c.from_residual.result c.from_residual.ensures.1 in
    rw (out.1, out.2) (λ begun. stops_until_later c.in_err-turn_until.field-0.0 _ _ _ c.loop.invariant.takes c.loop.invariant.in_time (c.in_err-turn_until.ensures.outcome c.loop.invariant.going))

pub returns-in-Closed-clause-outcome : goal.returns-in-Closed-clause-outcome
returns-in-Closed-clause-outcome g c begun = serves_closed _ _ _ _ c.loop.invariant.takes c.loop.invariant.in_time (c.in_ok-turn_until.ensures.outcome c.loop.invariant.going) c.in-Closed.is

pub returns-in-Full-clause-outcome : goal.returns-in-Full-clause-outcome
returns-in-Full-clause-outcome g c begun = serves_full _ _ _ _ c.loop.invariant.takes c.loop.invariant.in_time (c.in_ok-turn_until.ensures.outcome c.loop.invariant.going) c.in-Full.is

pub returns-in-Full-clause-late : goal.returns-in-Full-clause-late
returns-in-Full-clause-late g c =
    let taken = (c.in_ok-turn_until.ensures.outcome c.loop.invariant.going).takes.taken in
    late_later _ _ _ c.loop.invariant.takes c.loop.invariant.late c.turn_until.ensures.pulls.late taken.onward _ taken.pushed taken.waited

pub loop-preserved-in-Idle : goal.loop-preserved-in-Idle
loop-preserved-in-Idle g c =
    let turned = c.in_ok-turn_until.ensures.outcome c.loop.invariant.going in
    let takes = turned.takes in
    record {
      begun = c.loop.invariant.begun;
      going = takes.shut ∙ c.loop.invariant.going;
      takes = takes_trans _ _ _ c.loop.invariant.takes takes;
      in_time = in_time_trans _ _ _ c.loop.invariant.takes takes c.loop.invariant.in_time turned.in_time;
      late = late_later _ _ _ c.loop.invariant.takes c.loop.invariant.late c.turn_until.ensures.pulls.late takes.taken.onward _ takes.taken.pushed takes.taken.waited;
    }

pub loop-preserved : goal.loop-preserved
loop-preserved g c =
    let turned = c.in_ok-turn_until.ensures.outcome c.loop.invariant.going in
    let takes = turned.takes in
    record {
      begun = c.loop.invariant.begun;
      going = takes.shut ∙ c.loop.invariant.going;
      takes = takes_trans _ _ _ c.loop.invariant.takes takes;
      in_time = in_time_trans _ _ _ c.loop.invariant.takes takes c.loop.invariant.in_time turned.in_time;
      late = late_later _ _ _ c.loop.invariant.takes c.loop.invariant.late c.turn_until.ensures.pulls.late takes.taken.onward _ takes.taken.pushed takes.taken.waited;
    }

pub returns-in_err-turn_until-clause-late : goal.returns-in_err-turn_until-clause-late
returns-in_err-turn_until-clause-late g c =
    let stopped = (c.in_err-turn_until.ensures.outcome c.loop.invariant.going).stops in
    let more = stops_push c.in_err-turn_until.field-0.0 _ _ stopped in
    late_later _ _ _ c.loop.invariant.takes c.loop.invariant.late c.turn_until.ensures.pulls.late stopped.breaks.taken.onward more.0 more.1 more.2

pub returns-in-Closed-clause-late : goal.returns-in-Closed-clause-late
returns-in-Closed-clause-late g c =
    let taken = (c.in_ok-turn_until.ensures.outcome c.loop.invariant.going).takes.taken in
    late_later _ _ _ c.loop.invariant.takes c.loop.invariant.late c.turn_until.ensures.pulls.late taken.onward _ taken.pushed taken.waited
