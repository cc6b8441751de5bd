use Rattle.std.proofs.Common.{◌≡◌, map, take}
use Rattle.mc_server.specs.Listeners.{asked_at, listener_of, roles_from}
use Rattle.mc_server.specs.TenantWord.{asked_of}
use Rattle.mc_server.proofs.wanted.of_tenants.Given as goal

abbrev pub invariant-loop-number : goal.invariant-loop-number
invariant-loop-number l = record {
  listeners : map asked_at l.wanted.items ≡ map listener_of (map asked_of (take l.number l.tenants));
  roles : map (λ one. one.role) l.wanted.items ≡ roles_from 0 (map asked_of (take l.number l.tenants));
}
