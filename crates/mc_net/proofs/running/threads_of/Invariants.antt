-- The workers and the event loops of the threads so far and those that are left are all, and those
-- that are left have what they need.
use Rattle.std.proofs.Common.{◌≡◌, ◌++◌}
use Rattle.mc_net.specs.Running.{FitTogether, event_loops_of, workers_of}
use Rattle.mc_net.proofs.running.threads_of.Given as goal

abbrev pub invariant-loop-worker : goal.invariant-loop-worker
invariant-loop-worker g l = record {
  workers : workers_of l.worker_threads.items ++ l.worker-iterator.rest.items ≡ l.fn.workers.items;
  event_loops : event_loops_of l.worker_threads.items ++ l.event_loops.rest.items ≡ l.fn.event_loops.items;
  fits : FitTogether l.fn.log l.worker-iterator.rest.items l.gates.rest.items l.event_loops.rest.items;
}
