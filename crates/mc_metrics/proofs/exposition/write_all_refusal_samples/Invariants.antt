use Rattle.std.proofs.Common.{◌≡◌, ◌++◌, flat_map, take}
use Rattle.mc_metrics.specs.Metrics.{refusal_sample}
use Rattle.mc_metrics.proofs.exposition.write_all_refusal_samples.Given as goal

abbrev pub invariant-loop-tenant : goal.invariant-loop-tenant
invariant-loop-tenant l = l.out.items ≡ l.initial.out.items ++ flat_map (λ tenant. flat_map (refusal_sample tenant) l.refusals) (take l.tenant-index l.tenants)
