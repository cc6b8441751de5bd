-- How a turn ends: the state that it returns, and what a fault leaves; this project's profile.
use Rattle.std.specs.Option.{option_map_or}
use Rattle.std.specs.Prelude.{◌≡◌, ◌≢◌, ◌⊎◌, ℕ, ◌+◌, ◌<◌, ◌≤◌, max, Bool, true, false, List, [], ◌∷◌, ◌++◌, length, None, Some, slice_get}
use Rattle.mc_model.specs.declared.fault.Fault.{Fault}
use Rattle.mc_model.specs.declared.request.Request.{Request}
use Rattle.mc_stream.specs.Event.{Event, last_moved, waits}
use Rattle.mc_stream.specs.Pushing.{Pushes}
use Rattle.mc_stream.specs.Stream.{Inflow, Outflow, both}
use Rattle.uc_worker.specs.declared.worker.Worker.{Worker}
use Rattle.uc_worker.specs.Going.{Continues}
use Rattle.uc_worker.specs.Worker.{IsClosing, announced_of}
use Rattle.mc_conn.specs.declared.conn.Conn.{Conn}
use Rattle.mc_conn.specs.declared.conn.Role.{Role}
use Rattle.mc_conn.specs.declared.conn.State.{State}
use Rattle.mc_conn.specs.declared.conn.State.TheVariants.{Closed, Idle, Busy, Full}
use Rattle.mc_conn.specs.declared.conn.TheConstants.{PULL_BYTES, QUEUE_BYTES, TURN_REQUESTS}
use Rattle.mc_conn.specs.Held.{HoldsNone, HoldsOn}
use Rattle.mc_conn.specs.ConnFault.{ConnFault, CountsFailures, IsTold, fault_of}
use Rattle.mc_conn.specs.Onward.{own_sighting}
use Rattle.mc_conn.specs.Owed.{Demand, Logs, Mark, Says, count_logged, demand_of, is_logged}
use Rattle.mc_conn.specs.Turn.{Scene, Taken, Takes, amount, holding_of, queue_of, scene}

-- the input has ended or a request has ended the stream, no whole request is held, and nothing is
-- queued
abbrev pub IsDone : Conn → Type 0
IsDone conn =
    ((conn.has_ended ≡ true) ⊎ (conn.is_over ≡ true)) × HoldsNone (holding_of conn)
    × (queue_of conn ≡ [])

-- why nothing can be done now: the input had nothing; or the output took no more, and the input has
-- ended or too much is queued
abbrev pub IsStuck : Scene → Scene → Type 0
IsStuck before after =
    (waits after.streams.input.events ≡ waits before.streams.input.events + 1)
    ⊎ (waits before.streams.output.events < waits after.streams.output.events)
    × ((after.conn.has_ended ≡ true) ⊎ (QUEUE_BYTES < length (queue_of after.conn)))

-- a request is waiting, and it is to be logged
abbrev pub logs_next : Conn → Bool
logs_next conn =
    option_map_or (λ (request : Request). is_logged (demand_of conn.role request)) conn.waiting
    false

-- the next request is to be logged, and the worker's log is closing
abbrev pub AwaitsLog : Conn → Worker → Type 0
AwaitsLog conn worker = (logs_next conn ≡ true) × IsClosing worker

-- what the state that a turn returns means
abbrev pub IsState : {before after : Scene} → Takes before after → State → Type 0
IsState {before} {after} takes Closed = IsDone after.conn
IsState {before} {after} takes Idle =
    ¬ (IsDone after.conn) × (amount takes ≡ 0) × IsStuck before after
IsState {before} {after} takes Busy = ¬ (IsDone after.conn) × (0 < amount takes)
IsState {before} {after} takes Full = AwaitsLog after.conn after.worker

-- a whole request is still held only if as many were taken as a turn may take, or more was sent and
-- queued than may be queued when a request is taken
abbrev pub HoldsOnlyBehind : {before after : Scene} → Takes before after → Type 0
HoldsOnlyBehind {before} {after} takes =
    HoldsNone (holding_of after.conn)
    ⊎ (after.conn.waiting ≢ None)
    × ((length takes.taken.requests ≡ TURN_REQUESTS)
    ⊎ (QUEUE_BYTES < length takes.taken.sent + length (queue_of after.conn)))

-- at most this many more requests got a reply, whether a fault came or not
abbrev pub AnswersAtMost : ℕ → Conn → Conn → Type 0
AnswersAtMost most before after = length after.past ≤ most + length before.past

-- no more requests were taken than a turn may take
abbrev pub TakesFewRequests : {before after : Scene} → Takes before after → Type 0
TakesFewRequests {before} {after} takes = length takes.taken.requests ≤ TURN_REQUESTS

-- What was done before the last pull, that pull, and what was sent after it; the worker only went
-- on from there. Before it all requests that had come whole were taken, and no more was queued than
-- may be; and all that is owed for them was sent and none of them had ended the stream, or else the
-- output took no more.
pub record PullsAfter (before between after : Scene) : Type 0 where
  pub first : Takes before between
  pub onward : Continues between.worker after.worker
  pub taken : HoldsNone (holding_of between.conn)
  pub within : length (queue_of between.conn) ≤ QUEUE_BYTES
  pub sent : (queue_of between.conn ≡ []) × (between.conn.is_over ≡ false)
      ⊎ (waits before.streams.output.events < waits between.streams.output.events)
  pub event : Event
  pub pull : after.streams.input.events ≡ event ∷ between.streams.input.events
  pub short : length (last_moved after.streams.input.events) ≤ PULL_BYTES
  pub later : List ℕ
  pub pushed : Pushes between.streams.output after.streams.output later
  pub waited : waits between.streams.output.events ≤ waits after.streams.output.events

-- nothing was pulled, or all replies so far had been sent before the last pull, if the output took
-- them
abbrev pub PullsLate : Scene → Scene → Type 0
PullsLate before after =
    (after.streams.input ≡ before.streams.input)
    ⊎ (between : Scene) × PullsAfter before between after

-- nothing was pulled, or once, and no more bytes than a pull asks for
abbrev pub PullsOnce : Inflow → Inflow → Type 0
PullsOnce before after =
    (after ≡ before)
    ⊎ (event : Event) × (after.events ≡ event ∷ before.events)
    × (length (last_moved after.events) ≤ PULL_BYTES)

-- nothing was pulled, or no more bytes by the last pull than this many, or than one
abbrev pub PullsFew : ℕ → Inflow → Inflow → Type 0
PullsFew most before after =
    (after ≡ before) ⊎ (length (last_moved after.events) ≤ max most 1)

-- a call pulls at most once, and what had come before that pull was answered first
pub record Pulls (before after : Scene) : Type 0 where
  pub once : PullsOnce before.streams.input after.streams.input
  pub late : PullsLate before after

-- the last request was taken at a moment at which no more was queued than may be
pub record TakesLast (before between after : Scene) (takes : Takes before after) : Type 0 where
  pub first : Takes before between
  pub within : length (queue_of between.conn) ≤ QUEUE_BYTES
  pub rest : Takes between after
  pub one : length rest.taken.requests ≡ 1
  pub all : takes.taken.requests ≡ first.taken.requests ++ rest.taken.requests

-- Requests wait while more is queued than may be: none was taken, or the last one while it wasn't.
-- So what is queued afterwards is at most that and the reply to the last one.
abbrev pub TakesWithin : {before after : Scene} → Takes before after → Type 0
TakesWithin {before} {after} takes =
    (takes.taken.requests ≡ []) ⊎ (between : Scene) × TakesLast before between after takes

-- a turn without a fault: what is queued then is what the output didn't take in it
pub record Turns (before after : Scene) (state : State) : Type 0 where
  pub takes : Takes before after
  pub state_is : IsState takes state
  pub held : HoldsOnlyBehind takes
  pub few : TakesFewRequests takes
  pub within : TakesWithin takes
  pub left : (queue_of after.conn ≡ [])
      ⊎ (waits before.streams.output.events < waits after.streams.output.events)

-- All requests that were logged but the last were taken before a moment at which the worker's log
-- wasn't closing yet, and that one after it.
pub record LogsLast (before between after : Scene) (takes : Takes before after) : Type 0 where
  pub first : Takes before between
  pub room : ¬ (IsClosing between.worker)
  pub rest : Takes between after
  pub one : count_logged before.conn.role rest.taken.requests ≡ 1
  pub all : takes.taken.requests ≡ first.taken.requests ++ rest.taken.requests

-- no request was logged at a worker whose log was closing
abbrev pub LogsInTime : {before after : Scene} → Takes before after → Type 0
LogsInTime {before} {after} takes =
    (count_logged before.conn.role takes.taken.requests ≡ 0)
    ⊎ (between : Scene) × LogsLast before between after takes

-- turns without a fault that leave commands to the next log
pub record TakesUntil (before after : Scene) : Type 0 where
  pub takes : Takes before after
  pub in_time : LogsInTime takes

-- A turn without a fault that leaves commands to the next log: one that is to be logged isn't taken
-- if the worker's log is closing, and the state is then `Full`.
pub record TurnsUntil (before after : Scene) (state : State) : Type 0 where
  pub takes : Takes before after
  pub state_is : IsState takes state
  pub full : AwaitsLog after.conn after.worker → state ≡ Full
  pub held : (state ≡ Full) ⊎ HoldsOnlyBehind takes
  pub few : TakesFewRequests takes
  pub in_time : LogsInTime takes
  pub within : TakesWithin takes
  pub left : (queue_of after.conn ≡ [])
      ⊎ (waits before.streams.output.events < waits after.streams.output.events)

-- the command to be logged, if there is one, was announced after the mark or wasn't; no other was
abbrev pub MayStandBehind : Worker → Mark → Demand → Type 0
MayStandBehind worker mark (Logs tenant command quiet) =
    (length (announced_of worker) ≡ mark.number)
    ⊎ (length (announced_of worker) ≡ mark.number + 1)
    × (slice_get (announced_of worker) mark.number
    ≡ Some (own_sighting worker mark.number tenant command))
MayStandBehind worker mark (Says said) = length (announced_of worker) ≡ mark.number

-- one request met the fault, and its command may be announced after the mark; or none did
abbrev pub Meets : Worker → Role → Mark → List Request → Type 0
Meets worker role mark [] = length (announced_of worker) ≡ mark.number
Meets worker role mark (request ∷ others) =
    (others ≡ []) × MayStandBehind worker mark (demand_of role request)

-- A fault: what was taken goes up to a mark, and is the beginning of what was read; one more
-- request may have met the fault.
pub record Breaks (before after : Scene) (fault : Fault) : Type 0 where
  pub cause : ConnFault
  pub is : fault ≡ fault_of cause
  pub to : Mark
  pub taken : Taken before after to
  pub met : List Request
  pub reads : (more : List ℕ) (all : List Request) →
      HoldsOn (holding_of before.conn) (taken.came ++ more) all →
      (others : List Request) × (all ≡ taken.requests ++ (met ++ others))
  pub meets : Meets after.worker before.conn.role to met
  pub failures : CountsFailures cause before.streams after.streams

-- Of the requests that were taken, and the one that met the fault, all that are to be logged but the
-- last were taken before a moment at which the worker's log wasn't closing yet, and that one after
-- it.
pub record BreaksLast (before between after : Scene) (fault : Fault)
    (breaks : Breaks before after fault) : Type 0 where
  pub first : Takes before between
  pub room : ¬ (IsClosing between.worker)
  pub onward : Continues between.worker after.worker
  pub rest : List Request
  pub one : count_logged before.conn.role rest ≡ 1
  pub all : breaks.taken.requests ++ breaks.met ≡ first.taken.requests ++ rest

-- no request was logged, or met the fault as it was to be, at a worker whose log was closing
abbrev pub BreaksInTime : {before after : Scene} {fault : Fault} → Breaks before after fault → Type 0
BreaksInTime {before} {after} {fault} breaks =
    (count_logged before.conn.role (breaks.taken.requests ++ breaks.met) ≡ 0)
    ⊎ (between : Scene) × BreaksLast before between after fault breaks

-- what a fault leaves: the connection was served up to it, then the client gets what is sent about
-- it, and the connection is closed for good
pub record Stops (before after : Scene) (fault : Fault) : Type 0 where
  pub told_from : Outflow
  pub breaks : Breaks before
      (scene after.conn after.worker (both after.streams.input told_from)) fault
  pub told : IsTold breaks.cause (queue_of after.conn) told_from after.streams.output
  pub shut : after.conn.is_closed ≡ true

-- what a fault leaves of a turn that leaves commands to the next log
pub record StopsUntil (before after : Scene) (fault : Fault) : Type 0 where
  pub stops : Stops before after fault
  pub in_time : BreaksInTime stops.breaks

-- turns up to the end: all that came and was held is taken, and all that was queued and is owed is
-- sent
pub record Serves (before after : Scene) : Type 0 where
  pub takes : Takes before after
  pub done : IsDone after.conn

-- turns that leave commands to the next log, up to the end or up to such a command: it then waits,
-- and what was queued is pushed as far as the output took it
pub record ServesUntil (before after : Scene) (state : State) : Type 0 where
  pub takes : Takes before after
  pub ended : (state ≡ Closed) × IsDone after.conn
      ⊎ (state ≡ Full) × AwaitsLog after.conn after.worker
  pub in_time : LogsInTime takes
