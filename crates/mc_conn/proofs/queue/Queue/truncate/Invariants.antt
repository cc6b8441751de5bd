use Rattle.std.proofs.Common.{◌≡◌, ◌+◌, length, take}
use Rattle.mc_conn.proofs.queue.Queue.truncate.Given as goal

abbrev pub invariant-loop-over : goal.invariant-loop-over
invariant-loop-over l = (length l.self ≡ l.count + l.over) × (take l.count l.self ≡ take l.count l.fn.self)

abbrev pub decreases-loop-over : goal.decreases-loop-over
decreases-loop-over l = l.over
