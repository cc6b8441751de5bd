use Rattle.std.proofs.Common.{◌≡◌, ◌++◌, flat_map, take}
use Rattle.mc_metrics.specs.Metrics.{refusal_sample}
use Rattle.mc_metrics.proofs.exposition.write_refusal_samples.Given as goal

abbrev pub invariant-loop-refusal : goal.invariant-loop-refusal
invariant-loop-refusal l = l.out.items ≡ l.initial.out.items ++ flat_map (refusal_sample l.tenant) (take l.refusal-index l.refusals)
