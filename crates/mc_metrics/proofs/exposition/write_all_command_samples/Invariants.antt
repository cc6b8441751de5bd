use Rattle.std.proofs.Common.{◌≡◌, ◌++◌, flat_map, take}
use Rattle.mc_metrics.specs.Metrics.{command_sample}
use Rattle.mc_metrics.proofs.exposition.write_all_command_samples.Given as goal

abbrev pub invariant-loop-tenant : goal.invariant-loop-tenant
invariant-loop-tenant l = l.out.items ≡ l.initial.out.items ++ flat_map (λ tenant. flat_map (command_sample tenant) l.kinds) (take l.tenant-index l.tenants)
