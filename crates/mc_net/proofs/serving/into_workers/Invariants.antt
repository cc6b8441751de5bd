-- The workers so far and those that are left are all the workers.
use Rattle.std.proofs.Common.{◌≡◌, ◌++◌, map}
use Rattle.mc_net.specs.Returning.{returned_worker}
use Rattle.mc_net.proofs.serving.into_workers.Given as goal

abbrev pub invariant-loop-worker : goal.invariant-loop-worker
invariant-loop-worker l = l.workers.items ++ map returned_worker l.worker-iterator.rest.items ≡ map returned_worker l.fn.back.items
