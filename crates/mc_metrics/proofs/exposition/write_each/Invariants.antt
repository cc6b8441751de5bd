use Rattle.std.proofs.Common.{◌≡◌, ◌++◌, flat_map, take}
use Rattle.mc_metrics.specs.Metrics.{metric_text}
use Rattle.mc_metrics.proofs.exposition.write_each.Given as goal

abbrev pub invariant-loop-metric : goal.invariant-loop-metric
invariant-loop-metric l = l.out.items ≡ l.initial.out.items ++ flat_map (metric_text l.snapshot) (take l.metric-index l.metrics)
