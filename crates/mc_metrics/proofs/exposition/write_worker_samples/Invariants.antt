use Rattle.std.proofs.Common.{◌≡◌, ◌++◌, flat_map, take}
use Rattle.mc_metrics.specs.Metrics.{worker_sample}
use Rattle.mc_metrics.proofs.exposition.write_worker_samples.Given as goal

abbrev pub invariant-loop-worker : goal.invariant-loop-worker
invariant-loop-worker l = l.out.items ≡ l.initial.out.items ++ flat_map (worker_sample l.metric) (take l.worker-index l.workers)
