-- Listeners one after another, and tenants' roles under numbers that go up by one.
use Rattle.std.proofs.Common.{◌≡◌, ◌∙◌, ℕ, ◌+◌, ◌<◌, ◌≤◌, List, [], ◌∷◌, ◌++◌, Some, None, length, map, take, get_or, All, ap, append-nil, arith, length-append, refl, suc, sym}
use Rattle.std.proofs.lemmas.List.{length-map, length-take-le, map-append, take_more}
use Rattle.std.proofs.lemmas.List.Elements.{All-append, All-cons, All-nil}
use Rattle.std.proofs.lemmas.Slice.Zip.{all_zipped_more}
use Rattle.std.specs.List.{AllZip}
use Rattle.std.specs.declared.net.socket_addr.SocketAddrV4.{SocketAddrV4}
use Rattle.mc_conn.specs.Owed.{IsAmong}
use Rattle.mc_conn.specs.declared.conn.Role.{Role}
use Rattle.mc_conn.specs.declared.conn.Role.TheVariants.{Admin as Chief, Tenant as Own}
use Rattle.mc_server.specs.Listeners.{AreAsked, AreOfTenants, IsListeningFor, admin_role, asked_at, listener_if, listener_of, roles_asked, roles_from}
use Rattle.mc_server.specs.NetworkWords.{NetworkAsked, admin_name}
use Rattle.mc_server.specs.TenantWord.{TenantAsked, asked_of}
use Rattle.mc_server.specs.declared.network_texts.Listening.{Listening}
use Rattle.mc_server.specs.declared.tenant_word.Tenant.{Tenant}
use Rattle.mc_server.specs.declared.wanted.Wanted.{Wanted}

-- what is mapped, with one more
pub map_more : {A B C : Type 0} (f : A → C) (g : B → C) (list more : List A) (x : A) (all : List B) (place : ℕ) (some : B) → place < length all
    → map f list ≡ map g (take place all) → f x ≡ g (get_or all place some) → more ≡ list ++ x ∷ [] → map f more ≡ map g (take (place + 1) all)
map_more f g list more x all place some low h e is =
    ap (map f) is ∙ map-append f list (x ∷ []) ∙ (λ i. h i ++ e i ∷ []) ∙ sym (ap (map g) (take_more all place some low) ∙ map-append g (take place all) (get_or all place some ∷ []))

-- one more is printed
pub one_more_told : (wanted : List Wanted) (place : ℕ) (some : Wanted) (told more : List Listening) (one : Listening) → place < length wanted
    → AllZip IsListeningFor (map asked_at (take place wanted)) told → IsListeningFor (asked_at (get_or wanted place some)) one → more ≡ told ++ one ∷ []
    → AllZip IsListeningFor (map asked_at (take (place + 1) wanted)) more
one_more_told wanted place some told more one low h new is =
    rw (is, take_more wanted place some low, map-append asked_at (take place wanted) (get_or wanted place some ∷ []))
    (all_zipped_more IsListeningFor (map asked_at (take place wanted)) told (asked_at (get_or wanted place some)) one h new)

-- the roles of tenants, with one more
roles_on : (first : ℕ) (tenants : List TenantAsked) (next : TenantAsked) → roles_from first (tenants ++ next ∷ []) ≡ roles_from first tenants ++ Own (first + length tenants) ∷ []
roles_on first [] next = λ i. Own (sum i) ∷ []
  where
    sum : first ≡ first + 0
    sum = omega arith
roles_on first (x ∷ xs) next =
    let rest = roles_on (first + 1) xs next in
    let sum : (first + 1) + length xs ≡ first + length (x ∷ xs) = omega arith in
    ap (λ roles. Own first ∷ roles) rest ∙ ap (λ n. Own first ∷ (roles_from (first + 1) xs ++ Own n ∷ [])) sum

-- one more tenant's listener is wanted
pub one_more_wanted : (tenants : List Tenant) (place : ℕ) (some : Tenant) (wanted more : List Wanted) (one : Wanted) → place < length tenants
    → map asked_at wanted ≡ map listener_of (map asked_of (take place tenants)) → asked_at one ≡ listener_of (asked_of (get_or tenants place some)) → more ≡ wanted ++ one ∷ []
    → map asked_at more ≡ map listener_of (map asked_of (take (place + 1) tenants))
one_more_wanted tenants place some wanted more one low h e is =
    let last = asked_of (get_or tenants place some) in
    let all : map listener_of (map asked_of (take (place + 1) tenants)) ≡ map listener_of (map asked_of (take place tenants)) ++ listener_of last ∷ [] =
    ap (λ ts. map listener_of (map asked_of ts)) (take_more tenants place some low) ∙ ap (map listener_of) (map-append asked_of (take place tenants) (get_or tenants place some ∷ []))
    ∙ map-append listener_of (map asked_of (take place tenants)) (last ∷ [])
    in
    ap (map asked_at) is ∙ map-append asked_at wanted (one ∷ []) ∙ (λ i. h i ++ e i ∷ []) ∙ sym all

role_on : (tenants : List Tenant) (place : ℕ) (some : Tenant) → place < length tenants → roles_from 0 (map asked_of (take (place + 1) tenants)) ≡ roles_from 0 (map asked_of (take place tenants)) ++ Own place ∷ []
role_on tenants place some low =
    let front = map asked_of (take place tenants) in
    let count : 0 + length front ≡ place = omega (arith, length-map (take place tenants) asked_of, length-take-le place tenants (omega (arith, low))) in
    ap (λ ts. roles_from 0 (map asked_of ts)) (take_more tenants place some low) ∙ ap (roles_from 0) (map-append asked_of (take place tenants) (get_or tenants place some ∷ []))
    ∙ roles_on 0 front (asked_of (get_or tenants place some)) ∙ ap (λ n. roles_from 0 front ++ Own n ∷ []) count

next_role : (tenants : List Tenant) (place : ℕ) → place < length tenants → roles_from 0 (map asked_of (take (place + 1) tenants)) ≡ roles_from 0 (map asked_of (take place tenants)) ++ Own place ∷ []
next_role [] place low = absurd (omega (arith, low))
next_role (x ∷ xs) place low = role_on (x ∷ xs) place x low

pub one_more_role : (tenants : List Tenant) (place : ℕ) (wanted more : List Wanted) (one : Wanted) → place < length tenants
    → map (λ (one : Wanted). one.role) wanted ≡ roles_from 0 (map asked_of (take place tenants)) → one.role ≡ Own place → more ≡ wanted ++ one ∷ []
    → map (λ (one : Wanted). one.role) more ≡ roles_from 0 (map asked_of (take (place + 1) tenants))
one_more_role tenants place wanted more one low h e is =
    ap (map (λ (one : Wanted). one.role)) is ∙ map-append (λ (one : Wanted). one.role) wanted (one ∷ []) ∙ (λ i. h i ++ e i ∷ []) ∙ sym (next_role tenants place low)

-- the tenants' listeners are all, or the administrators' comes after them
pub no_admin_wanted : (asked : NetworkAsked) (wanted : List Wanted) → AreOfTenants asked.tenants wanted → asked.admin ≡ None → AreAsked asked wanted
no_admin_wanted asked wanted are none = record {
  listeners = are.listeners_of ∙ sym (append-nil (map listener_of asked.tenants)) ∙ ap (λ admin. map listener_of asked.tenants ++ listener_if admin_name admin) (sym none);
  roles = are.roles_of ∙ sym (append-nil (roles_from 0 asked.tenants)) ∙ ap (λ admin. roles_from 0 asked.tenants ++ admin_role admin (map (λ tenant. tenant.name) asked.tenants)) (sym none);
}

pub admin_wanted : (asked : NetworkAsked) (wanted more : List Wanted) (one : Wanted) (address : SocketAddrV4) → AreOfTenants asked.tenants wanted → asked.admin ≡ Some address
    → asked_at one ≡ record { name = admin_name; address = address } → one.role ≡ Chief (map (λ tenant. tenant.name) asked.tenants) → more ≡ wanted ++ one ∷ [] → AreAsked asked more
admin_wanted asked wanted more one address are some at role is = record {
  listeners = ap (map asked_at) is ∙ map-append asked_at wanted (one ∷ []) ∙ (λ i. are.listeners_of i ++ at i ∷ []) ∙ ap (λ admin. map listener_of asked.tenants ++ listener_if admin_name admin) (sym some);
  roles = ap (map (λ (one : Wanted). one.role)) is ∙ map-append (λ (one : Wanted). one.role) wanted (one ∷ []) ∙ (λ i. are.roles_of i ++ role i ∷ [])
      ∙ ap (λ admin. roles_from 0 asked.tenants ++ admin_role admin (map (λ tenant. tenant.name) asked.tenants)) (sym some);
}

-- they are tenants' of a log with as many tenants
own_roles : (first count : ℕ) (tenants : List TenantAsked) → first + length tenants ≤ count → All (λ role. IsAmong role count) (roles_from first tenants)
own_roles first count [] below = All-nil (λ role. IsAmong role count)
own_roles first count (x ∷ xs) below =
    All-cons (λ role. IsAmong role count) (Own first) (roles_from (first + 1) xs) (omega (arith, below)) (own_roles (first + 1) count xs (omega (arith, below)))

-- at least one listener is asked for
roles_long : (first : ℕ) (tenants : List TenantAsked) → length (roles_from first tenants) ≡ length tenants
roles_long first [] = refl
roles_long first (x ∷ xs) = ap suc (roles_long (first + 1) xs)

pub some_listener : {A : Type 0} (role : A → Role) (listeners : List A) (asked : NetworkAsked) → map role listeners ≡ roles_asked asked → 0 < length asked.tenants → 0 < length listeners
some_listener role listeners asked e some =
    let admins = admin_role asked.admin (map (λ tenant. tenant.name) asked.tenants) in
    omega (arith, length-map listeners role, ap length e, length-append (roles_from 0 asked.tenants) admins, roles_long 0 asked.tenants, some)

-- and so are an administrator's
pub asked_roles : (asked : NetworkAsked) (count : ℕ) → length asked.tenants ≡ count → All (λ role. IsAmong role count) (roles_asked asked)
asked_roles asked count long =
    All-append (λ role. IsAmong role count) (roles_from 0 asked.tenants) (admin_role asked.admin (map (λ tenant. tenant.name) asked.tenants)) (own_roles 0 count asked.tenants (omega (arith, long)))
    (admins asked.admin)
  where
    admins : (address : _) → All (λ role. IsAmong role count) (admin_role address (map (λ tenant. tenant.name) asked.tenants))
    admins None = All-nil (λ role. IsAmong role count)
    admins (Some address) =
        All-cons (λ role. IsAmong role count) (Chief (map (λ tenant. tenant.name) asked.tenants)) [] (length-map asked.tenants (λ tenant. tenant.name) ∙ long) (All-nil (λ role. IsAmong role count))
