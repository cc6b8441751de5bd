-- What came back so far, and those that are left with their event loops, are all.
use Rattle.std.proofs.Common.{◌≡◌, ◌++◌, length}
use Rattle.mc_net.specs.Returning.{returned_of}
use Rattle.mc_net.proofs.front.Front.into_returned.Given as goal

abbrev pub invariant-loop-worker : goal.invariant-loop-worker
invariant-loop-worker l = record {
  back : l.back.items ++ returned_of l.worker-iterator.rest.items l.event_loops.rest.items ≡ returned_of l.fn.workers.items l.fn.self.event_loops.items;
  long : length l.event_loops.rest.items ≡ length l.worker-iterator.rest.items;
}
