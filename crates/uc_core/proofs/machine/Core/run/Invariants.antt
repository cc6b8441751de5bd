use Rattle.std.proofs.Common.{take}
use Rattle.uc_core.proofs.Followed.{Ran}
use Rattle.uc_core.proofs.machine.Core.run.Given as goal

abbrev pub invariant-loop-at : goal.invariant-loop-at
invariant-loop-at l = Ran l.fn.self (take l.at l.events) l.self l.fn.replies.items l.replies.items
