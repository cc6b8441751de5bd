use Rattle.std.proofs.Common.{◌≡◌, map, take}
use Rattle.mc_server.proofs.wanted.names_of.Given as goal

abbrev pub invariant-loop-tenant : goal.invariant-loop-tenant
invariant-loop-tenant l = l.names.items ≡ map (λ tenant. tenant.name.now) (take l.tenant-index l.tenants)
