use Rattle.mc_schedules.specs.Needed.{most_needed}
use Rattle.mc_schedules.proofs.Onward.{Finishing}
use Rattle.mc_schedules.proofs.running.finish.Given as goal

abbrev pub invariant-loop-event : goal.invariant-loop-event
invariant-loop-event g l = Finishing l.line l.worker l.fn.core l.core l.fn.replies.items l.replies.items

abbrev pub decreases-loop-event : goal.decreases-loop-event
decreases-loop-event g l = most_needed l.core l.worker
