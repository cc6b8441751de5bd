-- What a turn leaves of its connection, turns after turns, and whether a connection stays.
use Rattle.std.proofs.Common.{◌≡◌, ◌≢◌, ◌⊎◌, ℕ, ◌+◌, ◌≤◌, ◌∷◌, length, length-append, ap, arith, Bool, true, false, List, Option, Some, None, Result, Ok, Err, IsSome, ⊎_elim, inl, inr, refl, sym, subst, ◌∙◌}
use Rattle.std.proofs.lemmas.Option.{same_Some}
use Rattle.std.specs.Option.{option_map_or}
use Rattle.slab.specs.Slab.{Slab, Updates, get, with_value}
use Rattle.slab.proofs.SlabLemmas.{Updates-with_value}
use Rattle.mc_conn.specs.declared.conn.Conn.{Conn}
use Rattle.mc_conn.specs.declared.conn.State.{State}
use Rattle.mc_conn.specs.declared.conn.State.TheVariants.{Closed, Idle, Busy, Full}
use Rattle.mc_conn.specs.declared.conn.TheConstants.{PULL_BYTES}
use Rattle.mc_conn.specs.Ending.{AwaitsLog, IsDone, IsState, LogsInTime, PullsOnce, Stops, StopsUntil, TakesUntil, logs_next}
use Rattle.mc_conn.specs.Owed.{demand_of, is_logged}
use Rattle.mc_conn.specs.Turn.{Scene, Takes, scene}
use Rattle.mc_model.specs.declared.fault.Fault.{Fault}
use Rattle.mc_model.specs.declared.request.Request.{Request}
use Rattle.mc_stream.specs.Event.{Event, Moves, Waits, Ends, Fails, last_moved, moved}
use Rattle.mc_stream.specs.Stream.{Inflow, Streams}
use Rattle.uc_worker.specs.Going.{Continues}
use Rattle.uc_worker.specs.declared.worker.Worker.{Worker}
use Rattle.mc_connections.specs.declared.connection.Connection.{Connection}
use Rattle.mc_connections.specs.declared.connections.Connections.{Connections}
use Rattle.mc_connections.specs.Serving.{Becomes, ChangesAt, HasEnded, IsServed, IsServedLater, Stands, Stays, StopsOnce, TakesOrStops, TurnsOnce, connection_at}

true_or_false : (is : Bool) → (is ≡ true) ⊎ (is ≡ false)
true_or_false true = inl refl
true_or_false false = inr refl

-- the law of turns of which none is taken, and those of turns one after another
abbrev pub TakesNothing : Type 0
TakesNothing = (a : Scene) → Takes a a

abbrev pub TakeOn : Type 0
TakeOn = (a b c : Scene) → Takes a b → Takes b c → Takes a c

abbrev pub StopLater : Type 0
StopLater = (fault : Fault) (a b c : Scene) → Takes a b → Stops b c fault → Stops a c fault

-- the same laws of turns that leave commands to the next log
pub record UntilNextLog : Type 0 where
  pub none : (a : Scene) → TakesUntil a a
  pub through : (a b c : Scene) → TakesUntil a b → TakesUntil b c → TakesUntil a c
  pub stops : (fault : Fault) (a b c : Scene) → TakesUntil a b → StopsUntil b c fault → StopsUntil a c fault

-- turns, which leave commands to the next log if the first argument is true
pub record TakesFor (until : Bool) (before after : Scene) : Type 0 where
  pub takes : Takes before after
  pub in_time : until ≡ true → LogsInTime takes

pub nothing_for : TakesNothing → UntilNextLog → (until : Bool) (a : Scene) → TakesFor until a a
nothing_for takes_self laws true a = let none = laws.none a in record { takes = none.takes; in_time = λ is. none.in_time }
nothing_for takes_self laws false a = record { takes = takes_self a; in_time = λ is. let no : false ≡ true = is in cc }

pub through_for : TakeOn → UntilNextLog → (until : Bool) (a b c : Scene) → TakesFor until a b → TakesFor until b c → TakesFor until a c
through_for takes_trans laws true a b c one two =
    let both = laws.through a b c (record { takes = one.takes; in_time = one.in_time refl }) (record { takes = two.takes; in_time = two.in_time refl }) in
    record { takes = both.takes; in_time = λ is. both.in_time }
through_for takes_trans laws false a b c one two = record { takes = takes_trans a b c one.takes two.takes; in_time = λ is. let no : false ≡ true = is in cc }

-- a fault after turns that went well, or none
pub stopped_for : StopLater → UntilNextLog → (until : Bool) (fault : Fault) (a b c : Scene) → TakesFor until a b → StopsOnce until b c fault → IsServed until a c
stopped_for stops_later laws true fault a b c one two =
    let both = laws.stops fault a b c (record { takes = one.takes; in_time = one.in_time refl }) two in
    record { how = inr (fault, both.stops); in_time = λ is. both.in_time }
stopped_for stops_later laws false fault a b c one two = record { how = inr (fault, stops_later fault a b c one.takes two); in_time = λ is. let no : false ≡ true = is in cc }

pub served_for : (until : Bool) (a b : Scene) → TakesFor until a b → IsServed until a b
served_for until a b all = record { how = inl all.takes; in_time = all.in_time }

-- what a fault leaves of a turn, whichever kind of turn it is
pub stopped_by : (until : Bool) (a b : Scene) (fault : Fault) → StopsOnce until a b fault → Stops a b fault
stopped_by true a b fault stopped = stopped.stops
stopped_by false a b fault stopped = stopped

-- a closed connection stays as it is
same_for : TakesNothing → UntilNextLog → (until : Bool) (a : Scene) (conn : Conn) (worker : Worker) (streams : Streams) → conn ≡ a.conn → worker ≡ a.worker → streams ≡ a.streams →
    TakesFor until a (scene conn worker streams)
same_for takes_self laws until a conn worker streams one two three =
    subst (λ (conn : Conn). TakesFor until a (scene conn worker streams)) (sym one)
    (subst (λ (worker : Worker). TakesFor until a (scene a.conn worker streams)) (sym two)
    (subst (λ (streams : Streams). TakesFor until a (scene a.conn a.worker streams)) (sym three) (nothing_for takes_self laws until a)))

not_ended : (b : Scene) → b.conn.is_closed ≡ false → ¬ (IsDone b.conn) → ¬ (HasEnded b.conn)
not_ended b opened going = ⊎_elim (λ (closed : b.conn.is_closed ≡ true). let no : true ≡ false = sym closed ∙ opened in cc) going

-- a request that awaits the next log isn't taken
unfinished : (conn : Conn) (worker : Worker) → AwaitsLog conn worker → ¬ (IsDone conn)
unfinished conn worker awaits done =
    let none : logs_next conn ≡ false = ap (λ waiting. option_map_or (λ (one : Request). is_logged (demand_of conn.role one)) waiting false) done.1.0 in
    let no : true ≡ false = sym awaits.0 ∙ none in cc

-- what the state that a turn returns means, whichever kind of turn it is
turned : (until : Bool) (a b : Scene) (state : State) → TurnsOnce until a b state → (takes : Takes a b) × IsState takes state
turned true a b state turns = (turns.takes, turns.state_is)
turned false a b state turns = (turns.takes, turns.state_is)

taken_by : (until : Bool) (a b : Scene) (state : State) → TurnsOnce until a b state → TakesFor until a b
taken_by true a b state turns = record { takes = turns.takes; in_time = λ is. turns.in_time }
taken_by false a b state turns = record { takes = turns.takes; in_time = λ is. let no : false ≡ true = is in cc }

stands_going : (until : Bool) → TakesNothing → (a b : Scene) (state : State) → (state ≡ Full → until ≡ true) → b.conn.is_closed ≡ false → PullsOnce a.streams.input b.streams.input → TurnsOnce until a b state → Stands until a b state
stands_going until takes_self a b Closed full opened once turns = inr (turned until a b Closed turns).1
stands_going until takes_self a b Idle full opened once turns = record { going = not_ended b opened (turned until a b Idle turns).1.0; between = a; earlier = takes_self a; once = once; last = turns }
stands_going until takes_self a b Busy full opened once turns = record { going = not_ended b opened (turned until a b Busy turns).1.0; between = a; earlier = takes_self a; once = once; last = turns }
stands_going until takes_self a b Full full opened once turns = (
  full refl,
  record { going = not_ended b opened (unfinished b.conn b.worker (turned until a b Full turns).1); between = a; earlier = takes_self a; once = once; last = turns },
)

-- the state that a turn returned
abbrev pub state_answered : Result State Fault → State
state_answered (Ok state) = state
state_answered (Err fault) = Closed

-- a turn that met a fault wasn't of a closed connection
pub met_fault : (is : Bool) (result : Result State Fault) (fault : Fault) → result ≡ Err fault → (is ≡ true → result ≡ Ok Closed) → is ≡ false
met_fault false result fault bad closed = refl
met_fault true result fault bad closed = let good = closed refl in cc

-- a turn without a fault
module _ (until : Bool) (takes_self : TakesNothing) (laws : UntilNextLog) (a : Scene) (conn : Conn) (worker : Worker) (streams : Streams) (state : State) (full : state ≡ Full → until ≡ true)
    (once : PullsOnce a.streams.input streams.input)
    (opened : a.conn.is_closed ≡ false → TurnsOnce until a (scene conn worker streams) state)
    (closed : a.conn.is_closed ≡ true → (state ≡ Closed) × (conn ≡ a.conn) × (worker ≡ a.worker) × (streams ≡ a.streams)) where
  pub taken_turn : TakesFor until a (scene conn worker streams)
  taken_turn =
      ⊎_elim
      (λ (is : a.conn.is_closed ≡ true). let same = closed is in same_for takes_self laws until a conn worker streams same.1 same.2 same.3)
      (λ (is : a.conn.is_closed ≡ false). taken_by until a (scene conn worker streams) state (opened is))
      (true_or_false a.conn.is_closed)

  pub stands_turn : Stands until a (scene conn worker streams) state
  stands_turn =
      ⊎_elim
      (λ (is : a.conn.is_closed ≡ true).
      subst (Stands until a (scene conn worker streams)) (sym (closed is).0) (inl (ap (λ (conn : Conn). conn.is_closed) (closed is).1 ∙ is)))
      (λ (is : a.conn.is_closed ≡ false). stands_going until takes_self a (scene conn worker streams) state full ((taken_by until a (scene conn worker streams) state (opened is)).takes.shut ∙ is) once (opened is))
      (true_or_false a.conn.is_closed)

pub served_onward : (a b : Scene) → TakesOrStops a b → Continues a.worker b.worker
served_onward a b =
    ⊎_elim
    (λ (takes : Takes a b). takes.taken.onward)
    (λ (stopped : (fault : Fault) × Stops a b fault). stopped.1.breaks.taken.onward)

stays_later : (until : Bool) → TakeOn → (a b c : Scene) (state : State) → Takes a b → Stays until b c state → Stays until a c state
stays_later until takes_trans a b c state takes stays = record {
  going = stays.going;
  between = stays.between;
  earlier = takes_trans a b stays.between takes stays.earlier;
  once = stays.once;
  last = stays.last;
}

pub stands_later : (until : Bool) → TakeOn → (a b c : Scene) (state : State) → Takes a b → Stands until b c state → Stands until a c state
stands_later until takes_trans a b c Closed takes stands = stands
stands_later until takes_trans a b c Idle takes stands = stays_later until takes_trans a b c Idle takes stands
stands_later until takes_trans a b c Busy takes stands = stays_later until takes_trans a b c Busy takes stands
stands_later until takes_trans a b c Full takes stands = (stands.0, stays_later until takes_trans a b c Full takes stands.1)

-- a turn pulls once at most
pub once_few : (before after : Inflow) → PullsOnce before after → length after.events ≤ 1 + length before.events
once_few before after once =
    ⊎_elim
    (λ same. omega (arith, ap (λ (input : Inflow). length input.events) same))
    (λ pull. omega (arith, ap length pull.1))
    once

-- one event moves what the last one of the list moved
one_moves : (event : Event) (earlier : List Event) → length (moved (event ∷ earlier)) ≡ length (last_moved (event ∷ earlier)) + length (moved earlier)
one_moves (Moves bytes) earlier = omega (arith, length-append (moved earlier) bytes)
one_moves Waits earlier = omega arith
one_moves Ends earlier = omega arith
one_moves Fails earlier = omega arith

-- so it takes no more bytes than a pull asks for
pub once_moves : (before after : Inflow) → PullsOnce before after → length (moved after.events) ≤ PULL_BYTES + length (moved before.events)
once_moves before after once =
    ⊎_elim
    (λ same. omega (arith, ap (λ (input : Inflow). length (moved input.events)) same))
    (λ pull. omega (arith, pull.2, one_moves pull.0 before.events, ap (λ (events : List Event). length (moved events)) pull.1, ap (λ (events : List Event). length (last_moved events)) pull.1))
    once

-- a connection was served under its key, and stays there or goes
module _ (Later : Connection → Connection → State → Type 0) (Still : Type 0) (state : State) (before after : Slab Connection) (ended now : List Connection) (key : ℕ) (old new : Connection)
    (there : get before key ≡ Some old) (later : Later old new state) where
  abbrev pub HasBecome : Option Connection → Option Connection → Type 0
  HasBecome = Becomes Later Still state ended now

  pub in_place : Updates before (with_value before key new) key (Some new)
  in_place = Updates-with_value before key new (subst IsSome (sym there) refl)

  pub updated_in_place : after ≡ with_value before key new → Updates before after key (Some new)
  updated_in_place is = subst (λ slab. Updates before slab key (Some new)) (sym is) in_place

  pub becomes_in_place : state ≢ Closed → after ≡ with_value before key new → now ≡ ended → HasBecome (get before key) (get after key)
  becomes_in_place isnt is same =
      subst (λ (slot : Option Connection). HasBecome slot (get after key)) (sym there)
      (subst (HasBecome (Some old)) (sym (updated_in_place is).changed) (later, isnt, same))

  pub becomes_closed : (last : Connection) → state ≡ Closed → Some last ≡ get (with_value before key new) key → Updates (with_value before key new) after key None → now ≡ last ∷ ended →
      HasBecome (get before key) (get after key)
  becomes_closed last closed had gone noted =
      let is : new ≡ last = sym (same_Some last new (had ∙ in_place.changed)) in
      let ends : Later old last Closed = subst (λ (one : Connection). Later old one Closed) is (subst (Later old new) closed later) in
      subst (λ (slot : Option Connection). HasBecome slot (get after key)) (sym there) (subst (HasBecome (Some old)) (sym gone.changed) (last, noted, ends, closed))

module _ (until : Bool) (worker after_worker : Worker) (state : State) (before after : Connections) (key : ℕ) (old new : Connection) (there : connection_at before key ≡ Some old)
    (later : IsServedLater until worker after_worker old new state) (tenants : after.tenants ≡ before.tenants) (reserve : after.places.tenants.reserve ≡ before.places.tenants.reserve) where
  abbrev IsLater : Connection → Connection → State → Type 0
  IsLater = IsServedLater until worker after_worker

  abbrev pub HasGoneOn : Option Connection → Option Connection → Type 0
  HasGoneOn = Becomes IsLater (after_worker ≡ worker) state before.ended.connections after.ended.connections

  pub stays_in_place : state ≢ Closed → after.by_key ≡ with_value before.by_key key new → after.ended.connections ≡ before.ended.connections → ChangesAt HasGoneOn before after key
  stays_in_place isnt is ended = record {
    becomes = becomes_in_place IsLater (after_worker ≡ worker) state before.by_key after.by_key before.ended.connections after.ended.connections key old new there later isnt is ended;
    others = (updated_in_place IsLater (after_worker ≡ worker) state before.by_key after.by_key before.ended.connections after.ended.connections key old new there later is).others;
    tenants = tenants;
    reserve = reserve;
  }

  pub goes_closed : (last : Connection) → state ≡ Closed → Some last ≡ get (with_value before.by_key key new) key → Updates (with_value before.by_key key new) after.by_key key None →
      after.ended.connections ≡ last ∷ before.ended.connections → ChangesAt HasGoneOn before after key
  goes_closed last closed had gone ended = record {
    becomes = becomes_closed IsLater (after_worker ≡ worker) state before.by_key after.by_key before.ended.connections after.ended.connections key old new there later last closed had gone ended;
    others = λ other not. gone.others other not ∙ (in_place IsLater (after_worker ≡ worker) state before.by_key after.by_key before.ended.connections after.ended.connections key old new there later).others other not;
    tenants = tenants;
    reserve = reserve;
  }
