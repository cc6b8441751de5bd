-- What becomes of the connections of an event loop; this project's profile.
use mathlib.Core.Logic.{inl, inr}
use Rattle.std.specs.Prelude.{◌≡◌, ◌≢◌, ◌⊎◌, ℕ, ◌+◌, ◌-◌, ◌*◌, ◌^◌, ◌≤◌, Bool, true, false, List, [], ◌∷◌, length, min, option_and_then, Option, Some, None}
use Rattle.mio.specs.declared.net.stream.TcpStream.{TcpStream}
use Rattle.slab.specs.Slab.{Updates, get}
use Rattle.mc_counters.specs.Tallied.{capped}
use Rattle.mc_counters.specs.declared.tally.Tally.{Tally}
use Rattle.mc_conn.specs.declared.conn.Conn.{Conn}
use Rattle.mc_conn.specs.declared.conn.Role.{Role}
use Rattle.mc_conn.specs.declared.conn.Role.TheVariants.{Admin, Tenant}
use Rattle.mc_conn.specs.declared.conn.State.{State}
use Rattle.mc_conn.specs.declared.conn.TheConstants.{PULL_BYTES, TURN_REQUESTS}
use Rattle.mc_conn.specs.declared.conn.State.TheVariants.{Closed, Idle, Busy, Full}
use Rattle.mc_conn.specs.Ending.{AnswersAtMost, BreaksInTime, IsDone, LogsInTime, PullsOnce, Stops, StopsUntil, Turns, TurnsUntil}
use Rattle.mc_conn.specs.Held.{nothing_held}
use Rattle.mc_conn.specs.Owed.{IsAmong}
use Rattle.mc_conn.specs.Tallying.{HasCounted, HasCountedTo}
use Rattle.mc_conn.specs.Turn.{Scene, Takes, holding_of, queue_of, scene}
use Rattle.mc_model.specs.declared.fault.Fault.{Fault}
use Rattle.mc_connections.specs.declared.connecting.TheConstants.{TURNS}
use Rattle.mc_connections.specs.Moving.{byte_count}
use Rattle.mc_connections.specs.Counting.{HasPlace, held_as, with_held_as}
use Rattle.mc_connections.specs.declared.arrival.Admission.{Admission}
use Rattle.mc_connections.specs.declared.arrival.Admission.TheVariants.{Admitted, NoPlace, UnknownRole, Unregistered}
use Rattle.mc_connections.specs.declared.arrival.Arrival.{Arrival}
use Rattle.mc_connections.specs.declared.connection.Connection.{Connection}
use Rattle.mc_connections.specs.declared.connections.Connections.{Connections}
use Rattle.mc_stream.specs.Event.{Event, moved}
use Rattle.mc_stream.specs.Stream.{both}
use Rattle.uc_worker.specs.declared.worker.Worker.{Worker}

-- the connection under a key
abbrev pub connection_at : Connections → ℕ → Option Connection
connection_at connections key = get connections.by_key key

-- the number of the tenant that this is the role of, if it is a tenant's
abbrev pub tenant_of : Role → Option ℕ
tenant_of (Tenant tenant) = Some tenant
tenant_of (Admin names) = None

-- the number of the tenant whose connection is under a key, if one is
abbrev pub tenant_at : Connections → ℕ → Option ℕ
tenant_at connections key =
    option_and_then (λ connection. tenant_of connection.conn.role) (connection_at connections key)

-- all that a turn sees of a connection; its tapes tell what the reads and the writes of its stream
-- have done so far
abbrev pub scene_of : Connection → Worker → Scene
scene_of connection worker =
    scene connection.conn worker
    (both (record { events = connection.received.events; left = None })
    (record { events = connection.sent.events }))

-- the arrival's connection, on which nothing has come and nothing was sent
pub record IsNewConnection (connection : Connection) (arrival : Arrival _) : Type 0 where
  pub stream : connection.stream ≡ arrival.stream
  pub role : connection.conn.role ≡ arrival.role
  pub holding : holding_of connection.conn ≡ nothing_held connection.conn.role
  pub queue : queue_of connection.conn ≡ []
  pub going : (connection.conn.has_ended ≡ false) × (connection.conn.is_over ≡ false)
      × (connection.conn.is_closed ≡ false)
  pub tapes : (connection.received.events ≡ []) × (connection.sent.events ≡ [])

-- The arrival's connection is under a key that was free, and every other key is unchanged; it has
-- taken one of the places, of which as many are kept for each tenant as before.
pub record Admits (before after : Connections) (arrival : Arrival _) (key : ℕ) : Type 0 where
  pub vacant : connection_at before key ≡ None
  pub connection : Connection
  pub fresh : IsNewConnection connection arrival
  pub updates : Updates before.by_key after.by_key key (Some connection)
  pub ended : after.ended ≡ before.ended
  pub tenants : after.tenants ≡ before.tenants
  pub places : after.places
      ≡ with_held_as arrival.role (held_as arrival.role before.places + 1) before.places

-- What has become of an arrival, and of the connections: it was admitted, at a place that it had;
-- or it comes back as it was, since it has none, and so isn't one of a tenant that holds less than
-- its reserve; or its role isn't the log's; or the system didn't register it, though it has a
-- place.
abbrev pub HasComeTo : Connections → Connections → Arrival TcpStream → Admission → Type 0
HasComeTo before after arrival (Admitted key) =
    HasPlace arrival.role before.places × Admits before after arrival key
HasComeTo before after arrival (NoPlace back) =
    ¬ (HasPlace arrival.role before.places) × (back ≡ arrival) × (after ≡ before)
HasComeTo before after arrival UnknownRole =
    ¬ (IsAmong arrival.role before.tenants) × (after ≡ before)
HasComeTo before after arrival Unregistered =
    HasPlace arrival.role before.places × IsAmong arrival.role before.tenants × (after ≡ before)

-- A connection was served over its streams: bytes came, the requests that they read as were taken,
-- and what was sent followed by what is queued is what was queued before followed by what is owed
-- for them; or a fault stopped this, and has closed the connection for good.
abbrev pub TakesOrStops : Scene → Scene → Type 0
TakesOrStops before after =
    Takes before after ⊎ (fault : Fault) × Stops before after fault

-- no request was logged, or met the fault as it was to be, at a worker whose log was closing
abbrev pub IsInTime : {before after : Scene} → TakesOrStops before after → Type 0
IsInTime {before} {after} (inl takes) = LogsInTime takes
IsInTime {before} {after} (inr (fault, stops)) = BreaksInTime stops.breaks

-- A connection was served over its streams, and commands were left to the next log if the first
-- argument is true: then each that was taken was logged in time, also where a fault stopped this.
pub record IsServed (until : Bool) (before after : Scene) : Type 0 where
  pub how : TakesOrStops before after
  pub in_time : until ≡ true → IsInTime how

-- a fault has closed the connection, or nothing is left to be done
abbrev pub HasEnded : Conn → Type 0
HasEnded conn = (conn.is_closed ≡ true) ⊎ IsDone conn

-- a turn, which leaves commands to the next log if the first argument is true
abbrev pub TurnsOnce : Bool → Scene → Scene → State → Type 0
TurnsOnce true = TurnsUntil
TurnsOnce false = Turns

-- what a fault leaves of such a turn
abbrev pub StopsOnce : Bool → Scene → Scene → Fault → Type 0
StopsOnce true = StopsUntil
StopsOnce false = Stops

-- turns without a fault that haven't ended the connection, the last of which returned this state
pub record Stays (until : Bool) (before after : Scene) (state : State) : Type 0 where
  pub going : ¬ (HasEnded after.conn)
  pub between : Scene
  pub earlier : Takes before between
  pub once : PullsOnce between.streams.input after.streams.input
  pub last : TurnsOnce until between after state

-- What a connection's state after its turns means: it has ended; or it hasn't, and the last of them
-- found nothing to do, or did something, or left a command to the next log.
abbrev pub Stands : Bool → Scene → Scene → State → Type 0
Stands until before after Closed = HasEnded after.conn
Stands until before after Idle = Stays until before after Idle
Stands until before after Busy = Stays until before after Busy
Stands until before after Full = (until ≡ true) × Stays until before after Full

-- there are at most this many more pulls or pushes
abbrev pub HasAtMost : ℕ → List Event → List Event → Type 0
HasAtMost most before after = length after ≤ most + length before

-- they moved at most this many more bytes
abbrev pub MovesAtMost : ℕ → List Event → List Event → Type 0
MovesAtMost most before after = length (moved after) ≤ most + length (moved before)

-- The same connection later on: the worker served it, from what its tapes had to what they have,
-- with few pulls, few bytes that came and few requests that got a reply, and it is in the state that
-- the turns returned.
pub record IsServedLater (until : Bool) (before after : Worker) (old new : Connection)
    (state : State) : Type 0 where
  pub stream : new.stream ≡ old.stream
  pub role : new.conn.role ≡ old.conn.role
  pub served : IsServed until (scene_of old before) (scene_of new after)
  pub stands : Stands until (scene_of old before) (scene_of new after) state
  pub few : HasAtMost TURNS old.received.events new.received.events
  pub reads : MovesAtMost (TURNS * PULL_BYTES) old.received.events new.received.events
  pub answers : AnswersAtMost (TURNS * TURN_REQUESTS) old.conn new.conn

-- The connection was served, and is counted: its requests that got a reply, and the refusal if
-- memory ran out.
abbrev pub IsTallied : Scene → Scene → Tally → Tally → Type 0
IsTallied before after old new =
    Takes before after × HasCounted before.conn.past after.conn.past old new
    ⊎ (fault : Fault) × Stops before after fault
    × HasCountedTo before.conn.past after.conn.past old new fault

-- how many of the connection's requests got a reply from one state of it to the other
abbrev pub answered_between : Connection → Connection → ℕ
answered_between old new = capped (length new.conn.past) - capped (length old.conn.past)

-- how many bytes the connection's stream has given and taken from one state of it to the other
abbrev pub moved_between : Connection → Connection → ℕ
moved_between old new =
    min ((byte_count new.received.events - byte_count old.received.events)
    + (byte_count new.sent.events - byte_count old.sent.events)) (2 ^ 64 - 1)

-- A connection that was served stays, and is in this state; or it has ended, and is the latest of
-- those that have; and if there was none, nothing was done. The lists are those that had ended
-- before and those that have now, and the options the connection before and now.
abbrev pub Becomes : {C : Type 0} → (C → C → State → Type 0) → Type 0 → State → List C → List C →
    Option C → Option C → Type 0
Becomes Later Still state before after None new =
    (new ≡ None) × Still × (state ≡ Idle) × (after ≡ before)
Becomes Later Still state before after (Some old) (Some new) =
    Later old new state × (state ≢ Closed) × (after ≡ before)
Becomes Later Still state before after (Some old) None =
    (last : _) × (after ≡ last ∷ before) × Later old last Closed × (state ≡ Closed)

-- this became of the connection under this key, and every other key is unchanged
pub record ChangesAt (Step : Option Connection → Option Connection → Type 0)
    (before after : Connections) (key : ℕ) : Type 0 where
  pub becomes : Step (connection_at before key) (connection_at after key)
  pub others : (other : ℕ) → other ≢ key → connection_at after other ≡ connection_at before other
  pub tenants : after.tenants ≡ before.tenants
  pub reserve : after.places.tenants.reserve ≡ before.places.tenants.reserve

-- what serving this connection has taken: requests that got a reply, and bytes that were moved
abbrev pub Spends : ℕ → ℕ → Connection → Connection → State → Type 0
Spends requests bytes old new state =
    (requests ≡ answered_between old new) × (bytes ≡ moved_between old new)

-- what serving the connection under this key has taken, if there was one
abbrev pub SpendsAt : ℕ → ℕ → ℕ → State → Connections → Connections → Type 0
SpendsAt requests bytes key state before after =
    Becomes (Spends requests bytes) ((requests ≡ 0) × (bytes ≡ 0)) state
    before.ended.connections after.ended.connections
    (connection_at before key) (connection_at after key)
