use Rattle.std.proofs.Common.{◌≡◌, ◌++◌, flat_map, take}
use Rattle.mc_metrics.specs.Metrics.{tenant_sample}
use Rattle.mc_metrics.proofs.exposition.write_tenant_samples.Given as goal

abbrev pub invariant-loop-tenant : goal.invariant-loop-tenant
invariant-loop-tenant l = l.out.items ≡ l.initial.out.items ++ flat_map (tenant_sample l.metric) (take l.tenant-index l.tenants)
