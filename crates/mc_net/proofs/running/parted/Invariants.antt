-- The workers and the event loops of the threads so far and those that are left are all, and how the
-- threads so far have ended.
use Rattle.std.proofs.Common.{◌≡◌, ◌++◌, All}
use Rattle.mc_net.specs.Running.{EndsWith, event_loops_of, workers_of}
use Rattle.mc_net.specs.declared.ended.Ended.{Ended}
use Rattle.mc_net.specs.declared.ended.Ended.TheVariants.{Full}
use Rattle.mc_net.proofs.running.parted.Given as goal

abbrev pub invariant-loop-worker_thread : goal.invariant-loop-worker_thread
invariant-loop-worker_thread g l = record {
  workers : l.workers.items ++ workers_of l.worker_thread-iterator.rest.items ≡ workers_of l.fn.worker_threads.items;
  event_loops : l.event_loops.items ++ event_loops_of l.worker_thread-iterator.rest.items ≡ event_loops_of l.fn.worker_threads.items;
  ended : (last : Ended) → (l.ended ≡ Full → last ≡ Full) → All (EndsWith last) l.worker_thread-iterator.rest.items → All (EndsWith last) l.fn.worker_threads.items;
}
