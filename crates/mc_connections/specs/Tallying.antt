-- Where a worker keeps the tallies of its tenants, and which of them a connection is counted in;
-- this project's profile.
use Rattle.std.specs.Prelude.{◌≡◌, ℕ, ◌-◌, false, true, List, [], Option, Some, None, length, min, slice_get, slice_set}
use Rattle.mc_counters.specs.Tallied.{IsTallyOf}
use Rattle.mc_counters.specs.declared.tally.Tally.{Tally}
use Rattle.mc_conn.specs.declared.conn.State.{State}
use Rattle.mc_connections.specs.Serving.{Becomes, IsTallied, connection_at, scene_of, tenant_at}
use Rattle.mc_connections.specs.Working.{Standing}
use Rattle.mc_connections.specs.declared.tallies.OneTally.{OneTally}

-- where the tally of a tenant is among them; that of administrators is the last
abbrev pub tally_place : ℕ → Option ℕ → ℕ
tally_place last None = last
tally_place last (Some number) = min number last

-- the tally counts no request, and no connection was served for it
abbrev pub CountsNothing : OneTally → Type 0
CountsNothing one = IsTallyOf [] one.tally × (one.is_new ≡ false)

-- the tally at a place
pub record IsTallyAt (place : ℕ) (tallies : List OneTally) (tally : Tally) : Type 0 where
  pub one : OneTally
  pub at : slice_get tallies place ≡ Some one
  pub is : tally ≡ one.tally

-- no connection was served for the tally at a place since it was last taken, or there is none
abbrev pub HasNoNewTally : ℕ → List OneTally → Type 0
HasNoNewTally place tallies =
    (one : OneTally) → slice_get tallies place ≡ Some one → one.is_new ≡ false

-- the connection under this key was served, if there was one, and is counted in this tally
abbrev pub TalliesAt : ℕ → State → Standing → Standing → Tally → Tally → Type 0
TalliesAt key state before after old new =
    Becomes
    (λ one other _. IsTallied (scene_of one before.worker) (scene_of other after.worker) old new)
    (new ≡ old) state before.connections.ended.connections after.connections.ended.connections
    (connection_at before.connections key) (connection_at after.connections key)

-- The connection under this key was served, if there was one, and is counted in the tally of its
-- tenant, or in the administrators'; no other tally has changed.
pub record CountsForTenant (key : ℕ) (before after : Standing) (old new : List OneTally) :
    Type 0 where
  pub state : State
  pub place : ℕ
  pub place_is : place ≡ tally_place (length old - 1) (tenant_at before.connections key)
  pub was : Tally
  pub is : Tally
  pub at : IsTallyAt place old was
  pub tallies : TalliesAt key state before after was is
  pub others : new ≡ slice_set old place (record { tally = is; is_new = true })
