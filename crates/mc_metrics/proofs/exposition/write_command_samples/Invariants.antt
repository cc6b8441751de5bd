use Rattle.std.proofs.Common.{◌≡◌, ◌++◌, flat_map, take}
use Rattle.mc_metrics.specs.Metrics.{command_sample}
use Rattle.mc_metrics.proofs.exposition.write_command_samples.Given as goal

abbrev pub invariant-loop-kind : goal.invariant-loop-kind
invariant-loop-kind l = l.out.items ≡ l.initial.out.items ++ flat_map (command_sample l.tenant) (take l.kind-index l.kinds)
