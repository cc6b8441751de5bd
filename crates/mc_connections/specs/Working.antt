-- What a worker does with its connections; this project's profile.
use Rattle.std.specs.Prelude.{◌≡◌, ◌==◌, ◌⊎◌, ℕ, Bool, true, []}
use Rattle.slab.specs.Slab.{slab_len}
use Rattle.uc_worker.specs.Going.{CatchesUp}
use Rattle.mc_conn.specs.declared.conn.State.{State}
use Rattle.mc_connections.specs.Serving.{Admits, Becomes, IsServedLater, ChangesAt}
use Rattle.mc_connections.specs.declared.arrival.Arrival.{Arrival}
use Rattle.mc_connections.specs.declared.connections.Connections.{Connections}
use Rattle.uc_worker.specs.declared.worker.Worker.{Worker}

-- a worker and its connections
pub record Standing : Type 0 where
  pub worker : Worker
  pub connections : Connections

abbrev pub standing : Worker → Connections → Standing
standing worker connections = record { worker = worker; connections = connections }

-- an arrival was admitted, which leaves the worker unchanged
pub record TakesIn (before after : Standing) : Type 0 where
  pub worker : after.worker ≡ before.worker
  pub arrival : Arrival _
  pub key : ℕ
  pub admits : Admits before.connections after.connections arrival key

-- the connection under the key was served, if there was one, and is in this state
abbrev pub ServesAt : Bool → ℕ → State → Standing → Standing → Type 0
ServesAt until key state before after =
    ChangesAt
    (Becomes (IsServedLater until before.worker after.worker) (after.worker ≡ before.worker) state
    before.connections.ended.connections after.connections.ended.connections)
    before.connections after.connections key

-- the connection under a key was served, if there was one
pub record ServesOne (until : Bool) (before after : Standing) : Type 0 where
  pub key : ℕ
  pub state : State
  pub serves : ServesAt until key state before after

-- the worker caught up with commands of others, which leaves its connections unchanged
pub record KeepsUp (before after : Standing) : Type 0 where
  pub worker : CatchesUp before.worker after.worker
  pub connections : after.connections ≡ before.connections

-- Arrivals were admitted and connections served, and the worker caught up, one after another. If the
-- first argument is true, commands were left to the next log, so that no serve logged one at a
-- worker whose log was closing. The connections that are left, those that have ended, and their
-- tapes are genuine: each is what one of the first connections, or an arrival, became by being
-- served.
pub data Works (until : Bool) (first : Standing) : Standing → Type 0 where
  begins : Works until first first
  goes_on : (between last : Standing) → Works until first between →
      TakesIn between last ⊎ ServesOne until between last ⊎ KeepsUp between last →
      Works until first last

-- there is no connection
abbrev pub IsEmpty : Connections → Type 0
IsEmpty connections = (slab_len connections.by_key == 0) ≡ true

-- there is no connection, and none has ended
abbrev pub IsUnused : Connections → Type 0
IsUnused connections = IsEmpty connections × (connections.ended.connections ≡ [])

-- this many places are kept for each tenant
abbrev pub KeepsPlaces : ℕ → Connections → Type 0
KeepsPlaces reserve connections = connections.places.tenants.reserve ≡ reserve

-- there is no connection, none has ended, and each is to be of one of this many tenants
abbrev pub IsNewFor : ℕ → Connections → Type 0
IsNewFor tenants connections = (connections.tenants ≡ tenants) × IsUnused connections
