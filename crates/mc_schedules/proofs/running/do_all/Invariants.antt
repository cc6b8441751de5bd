use Rattle.mc_schedules.proofs.Onward.{Doings}
use Rattle.mc_schedules.proofs.running.do_all.Given as goal

abbrev pub invariant-loop-line : goal.invariant-loop-line
invariant-loop-line g l = Doings l.fn.items.items l.line-iterator.rest.items l.fn.core l.core l.fn.replies.items l.replies.items
