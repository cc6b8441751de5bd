-- What stands at a tenant's number: its listener, its role and its quotas.
use Rattle.std.proofs.Common.{◌≡◌, ◌∙◌, ◌+◌, ◌++◌, ◌∷◌, ℕ, zero, suc, List, [], Option, Some, length, map, slice_get, ap, arith, refl, sym}
use Rattle.std.proofs.lemmas.List.{length-map}
use Rattle.std.proofs.lemmas.Option.{none-some, slice_get-map}
use Rattle.std.specs.Option.{option_map}
use Rattle.std.specs.declared.net.socket_addr.SocketAddrV4.{SocketAddrV4}
use Rattle.lists.proofs.Public.{at_longer, at_seam}
use Rattle.mc_conn.specs.declared.conn.Role.TheVariants.{Admin as Chief, Tenant as Own}
use Rattle.mc_server.specs.Listeners.{admin_role, clients_asked, listener_if, listener_of, roles_asked, roles_from}
use Rattle.mc_server.specs.NetworkWords.{NetworkAsked, admin_name}
use Rattle.mc_server.specs.TenantWord.{TenantAsked}

pub mapped_at : {A B : Type 0} (f : A → B) (list : List A) (place : ℕ) (x : A) → slice_get list place ≡ Some x → slice_get (map f list) place ≡ Some (f x)
mapped_at f list place x at = slice_get-map f list place ∙ ap (option_map f) at

role_at : (first : ℕ) (tenants : List TenantAsked) (number : ℕ) (tenant : TenantAsked) → slice_get tenants number ≡ Some tenant →
    slice_get (roles_from first tenants) number ≡ Some (Own (first + number))
role_at first [] number tenant at = absurd (none-some tenant at)
role_at first (x ∷ tenants) zero tenant at = let same : first ≡ first + 0 = omega arith in ap (λ (number : ℕ). Some (Own number)) same
role_at first (x ∷ tenants) (suc number) tenant at =
    let same : (first + 1) + number ≡ first + suc number = omega arith in role_at (first + 1) tenants number tenant at ∙ ap (λ (number : ℕ). Some (Own number)) same

roles_long : (first : ℕ) (tenants : List TenantAsked) → length (roles_from first tenants) ≡ length tenants
roles_long first [] = refl
roles_long first (x ∷ tenants) = ap suc (roles_long (first + 1) tenants)

pub client_at : (asked : NetworkAsked) (number : ℕ) (tenant : TenantAsked) → slice_get asked.tenants number ≡ Some tenant →
    slice_get (clients_asked asked) number ≡ Some (listener_of tenant)
client_at asked number tenant at =
    at_longer (map listener_of asked.tenants) (listener_if admin_name asked.admin) number (listener_of tenant) (mapped_at listener_of asked.tenants number tenant at)

pub own_role_at : (asked : NetworkAsked) (number : ℕ) (tenant : TenantAsked) → slice_get asked.tenants number ≡ Some tenant → slice_get (roles_asked asked) number ≡ Some (Own number)
own_role_at asked number tenant at =
    let same : 0 + number ≡ number = omega arith in
    at_longer (roles_from 0 asked.tenants) (admin_role asked.admin (map (λ tenant. tenant.name) asked.tenants)) number (Own number)
    (role_at 0 asked.tenants number tenant at ∙ ap (λ (it : ℕ). Some (Own it)) same)

-- the administrators come after the tenants
pub admins_client : (asked : NetworkAsked) (address : SocketAddrV4) → asked.admin ≡ Some address →
    slice_get (clients_asked asked) (length asked.tenants) ≡ Some (record { name = admin_name; address = address })
admins_client asked address is =
    let front = map listener_of asked.tenants in
    ap (λ (place : ℕ). slice_get (clients_asked asked) place) (sym (length-map asked.tenants listener_of))
    ∙ (ap (λ (admin : Option SocketAddrV4). slice_get (front ++ listener_if admin_name admin) (length front)) is ∙ at_seam front (record { name = admin_name; address = address }) [])

pub admins_role : (asked : NetworkAsked) (address : SocketAddrV4) → asked.admin ≡ Some address →
    slice_get (roles_asked asked) (length asked.tenants) ≡ Some (Chief (map (λ tenant. tenant.name) asked.tenants))
admins_role asked address is =
    let front = roles_from 0 asked.tenants in
    let names = map (λ (tenant : TenantAsked). tenant.name) asked.tenants in
    ap (λ (place : ℕ). slice_get (roles_asked asked) place) (sym (roles_long 0 asked.tenants))
    ∙ (ap (λ (admin : Option SocketAddrV4). slice_get (front ++ admin_role admin names) (length front)) is ∙ at_seam front (Chief names) [])
