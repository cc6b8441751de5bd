use Rattle.std.proofs.Common.{◌≡◌, ℕ, ◌≤◌, Bool, true, false, min, refl}
use Rattle.std.proofs.Math.Nat.{min-eq_left}
use Rattle.std.specs.Prelude.{◌==◌, if◌then◌else◌}
use Rattle.mc_server.proofs.OwnListeners.{admins_client, admins_role, client_at, mapped_at, own_role_at}
use Rattle.mc_server.proofs.laws.each_tenant_has_what_its_word_says.Goals as goal

either : (is : Bool) (workers places : ℕ) → workers ≤ places → (if is then workers else (min workers places)) ≡ workers
either true workers places few = refl
either false workers places few = min-eq_left few

pub returns-clause-tenant : goal.returns-clause-tenant
returns-clause-tenant c asked number tenant at =
    (client_at asked number tenant at, own_role_at asked number tenant at, mapped_at (λ tenant. tenant.limits) asked.tenants number tenant at)

pub returns-clause-admin : goal.returns-clause-admin
returns-clause-admin c asked address is = (admins_client asked address is, admins_role asked address is)

pub returns-clause-workers : goal.returns-clause-workers
returns-clause-workers c given few = either (given.generations == 1) given.workers given.places few
