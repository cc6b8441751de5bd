-- Places of tenants' and of administrators' connections, which are counted apart, so that tenants
-- who hold all of theirs leave the administrators' free; this project's profile.
use Rattle.std.specs.Prelude.{◌≡◌, ℕ, ◌+◌, ◌<◌, ◌==◌, Bool, true, false, Option, Some, None, count_by, sum}
use Rattle.slab.specs.Slab.{Slab, slab_len}
use Rattle.fair_places.specs.Places.{MayTake, held_by, with_held}
use Rattle.mc_conn.specs.declared.conn.Role.{Role}
use Rattle.mc_conn.specs.declared.conn.Role.TheVariants.{Admin, Tenant}
use Rattle.mc_connections.specs.Holding.{WorkerPlaces}
use Rattle.mc_connections.specs.declared.connection.Connection.{Connection}
use Rattle.mc_connections.specs.declared.places.TheConstants.{MOST_ADMINS}

-- One more connection of this role has a place: one of an administrator if few others are
-- administrators', and one of a tenant within the tenant's own reserve, or while a place is free
-- that is kept for nobody.
abbrev pub HasPlace : Role → WorkerPlaces → Type 0
HasPlace (Tenant tenant) places = MayTake tenant places.tenants
HasPlace (Admin names) places = places.admins < MOST_ADMINS

-- how many places are held as those of this role hold theirs: the tenant's, or all administrators'
abbrev pub held_as : Role → WorkerPlaces → ℕ
held_as (Tenant tenant) places = held_by places.tenants tenant
held_as (Admin names) places = places.admins

abbrev pub with_held_as : Role → ℕ → WorkerPlaces → WorkerPlaces
with_held_as (Tenant tenant) held places =
    record places { tenants = with_held places.tenants tenant held }
with_held_as (Admin names) held places = record places { admins = held }

-- the role is an administrator's
abbrev pub is_admin : Role → Bool
is_admin (Tenant tenant) = false
is_admin (Admin names) = true

-- the role is this tenant's
abbrev pub is_of_tenant : ℕ → Role → Bool
is_of_tenant tenant (Tenant other) = other == tenant
is_of_tenant tenant (Admin names) = false

-- there is a connection, and it is an administrator's, or this tenant's
abbrev pub has_admin : Option Connection → Bool
has_admin None = false
has_admin (Some connection) = is_admin connection.conn.role

abbrev pub has_tenant : ℕ → Option Connection → Bool
has_tenant tenant None = false
has_tenant tenant (Some connection) = is_of_tenant tenant connection.conn.role

-- how many connections are administrators', and how many are this tenant's
abbrev pub admins_among : Slab Connection → ℕ
admins_among connections = count_by has_admin connections.slots

abbrev pub tenants_among : ℕ → Slab Connection → ℕ
tenants_among tenant connections = count_by (has_tenant tenant) connections.slots

-- each of this many tenants, and administrators, hold as many places as they have connections
pub record AreCounted (tenants : ℕ) (places : WorkerPlaces) (connections : Slab Connection) :
    Type 0 where
  pub of_tenants : (tenant : ℕ) → tenant < tenants →
      held_by places.tenants tenant ≡ tenants_among tenant connections
  pub of_admins : places.admins ≡ admins_among connections
  pub of_all : slab_len connections ≡ sum places.tenants.held + places.admins
