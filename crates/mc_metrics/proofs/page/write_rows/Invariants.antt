use Rattle.std.proofs.Common.{◌≡◌, ◌++◌, flat_map, take}
use Rattle.mc_metrics.specs.Page.{tenant_row}
use Rattle.mc_metrics.proofs.page.write_rows.Given as goal

abbrev pub invariant-loop-tenant : goal.invariant-loop-tenant
invariant-loop-tenant l = l.out.items ≡ l.initial.out.items ++ flat_map tenant_row (take l.tenant-index l.tenants)
