-- The pass that is taken from the end is new, and those before it stay so.
use Rattle.std.proofs.Common.{ap}
use Rattle.uc_places.specs.declared.view.View.{View}
use Rattle.benches.proofs.New.{fewer_new, last_new}
use Rattle.benches.proofs.submits.jobs_of.Goals as goal

pub open-requires-clause-of : goal.open-requires-clause-of
open-requires-clause-of c = (last_new c.args.log.now _ _ c.in-Some.pass c.in-Some.ensures.items c.loop-number.invariant).0

pub open-requires-clause-idle : goal.open-requires-clause-idle
open-requires-clause-idle c = ap (λ (view : View). view.state.phase) (last_new c.args.log.now _ _ c.in-Some.pass c.in-Some.ensures.items c.loop-number.invariant).1

pub open-requires-clause-new : goal.open-requires-clause-new
open-requires-clause-new c = ap (λ (view : View). view.state.learned) (last_new c.args.log.now _ _ c.in-Some.pass c.in-Some.ensures.items c.loop-number.invariant).1

pub loop-number-preserved : goal.loop-number-preserved
loop-number-preserved c = fewer_new c.args.log.now _ _ c.in-Some.pass c.in-Some.ensures.items c.loop-number.invariant
