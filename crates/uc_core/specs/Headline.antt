-- The theorem of this project, clause by clause, as statements about a core and the replies that
-- were given on the way to it. The laws of the crate say that they are true of every run, whatever
-- its events.
use Rattle.std.specs.Prelude.{◌≡◌, ◌≢◌, ◌⊎◌, ℕ, ◌+◌, ◌<◌, ◌≤◌, List, length, map, take, Option, Some, None, slice_get}
use Rattle.mc_model.specs.declared.command.Command.{Command}
use Rattle.mc_model.specs.declared.fault.Fault.TheVariants.{BadEvent, LogFull}
use Rattle.mc_model.specs.declared.id.Ticket.{Ticket}
use Rattle.mc_model.specs.declared.reply.Reply.{Reply}
use Rattle.mc_model.specs.declared.request.Entry.{Entry}
use Rattle.mc_model.specs.declared.settings.Limits.{Limits}
use Rattle.mc_model.specs.declared.shown.Phase.TheVariants.{Idle, Pending, Looked, Stopped}
use Rattle.mc_model.specs.declared.shown.WorkerState.{WorkerState}
use Rattle.mc_model.specs.History.{answer}
use Rattle.mc_model.specs.Lawful.{HasRoom, IsWorker, announced_by}
use Rattle.mc_model.specs.Legal.{IsLegal, StandsBefore, ticket_of}
use Rattle.mc_model.specs.Log.{PlaceSighting, entries_seen, own}
use Rattle.mc_model.specs.Replay.{EachStands, empty_tables}
use Rattle.mc_model.specs.Settings.{Configuration}
use Rattle.uc_core.specs.Core.{CoreState, ReplayState, entry_under, log_of, core_size}
use Rattle.uc_core.specs.Run.{Given, IsRun, Runs}
use Rattle.uc_core.specs.Step.{CoreStep, actor, refusal}
use Rattle.uc_core.specs.declared.event.Event.{Event}
use Rattle.uc_core.specs.declared.event.Event.TheVariants.{Announce, Look, Propose, Read, Replay, Stop}

-- true of every run with these settings, whatever the events: of the core that it leads to, and of
-- the replies that it gives
abbrev pub OfEveryRunWith : Configuration → (CoreState → List Given → Type 0) → Type 0
OfEveryRunWith settings Holds = (events : List Event) (core : CoreState) (given : List Given) →
    IsRun settings events core given → Holds core given

-- true of every run, whatever the settings
abbrev pub OfEveryRun : (CoreState → List Given → Type 0) → Type 0
OfEveryRun Holds = (settings : Configuration) → OfEveryRunWith settings Holds

-- "each announced command stands at most once in the log": no ticket stands at two places
abbrev pub StandsOnce : CoreState → Type 0
StandsOnce core = (ticket : Ticket) (one other : ℕ) →
    slice_get core.shown.decided one ≡ Some ticket →
    slice_get core.shown.decided other ≡ Some ticket → one ≡ other

-- each worker's commands stand in the order in which it announced them, and nothing stands there
-- that wasn't announced
pub record LogIsSound (core : CoreState) : Type 0 where
  pub once : StandsOnce core
  pub legal : IsLegal core.shown.decided
  pub announced : (place : ℕ) (ticket : Ticket) → slice_get core.shown.decided place ≡ Some ticket →
      (entry : Entry) × (entry_under core ticket ≡ Some entry) × (entry.ticket ≡ ticket)
      × (entry.tenant < length core.openings)

-- a worker's replica: what it has replayed of the places that it has learned, in their order
abbrev pub replica_of : CoreState → WorkerState → ReplayState → List PlaceSighting
replica_of core worker replay =
    take replay.replayed
    (map (λ (ticket : Ticket).
    let seen : PlaceSighting = record { ticket = ticket; entry = entry_under core ticket } in seen)
    worker.learned)

-- the worker with this number has this shown state and has replayed so
abbrev pub HasReplica : CoreState → ℕ → WorkerState → ReplayState → Type 0
HasReplica core number worker replay =
    IsWorker core.shown number worker × (slice_get core.replays number ≡ Some replay)

-- "all replicas agree on every replayed prefix": of two workers, the one that has replayed no more
-- than the other has replayed the same tickets and entries at those places; if both have replayed
-- as many, their tables are equal
pub record ReplicasAgree (core : CoreState) : Type 0 where
  pub prefixes : (one other : ℕ) (v w : WorkerState) (r s : ReplayState) →
      HasReplica core one v r → HasReplica core other w s →
      r.replayed ≤ s.replayed → replica_of core v r ≡ take r.replayed (replica_of core w s)
  pub tables : (one other : ℕ) (v w : WorkerState) (r s : ReplayState) → HasReplica core one v r →
      HasReplica core other w s → r.replayed ≡ s.replayed → r.tables ≡ s.tables

-- each worker has replayed no more than it has learned, and each of its tables stands for its
-- tenant's commands that it has replayed
abbrev pub TablesStand : CoreState → Type 0
TablesStand core = (number : ℕ) (worker : WorkerState) (replay : ReplayState) →
    HasReplica core number worker replay →
    (replay.replayed ≤ length worker.learned)
    × EachStands (empty_tables core.openings)
    (entries_seen (replica_of core worker replay)) replay.tables

-- the reply to a worker's own command at a place is the answer after only its tenant's commands at
-- the places before
pub record IsAnswer (core : CoreState) (worker place : ℕ) (reply : Reply) : Type 0 where
  pub entry : Entry
  pub opening : Limits
  pub stands : slice_get core.shown.decided place ≡ Some entry.ticket
  pub found : slice_get (log_of core) place ≡ Some (Some entry)
  pub mine : entry.ticket.worker ≡ worker
  pub limits : slice_get core.openings entry.tenant ≡ Some opening
  pub replied : reply ≡ answer opening (own entry.tenant (take place (log_of core))) entry.command

-- "each replayed command's reply is the bytes that memcached's commands give on a table holding only
-- its tenant's commands in log order": each reply that was given is the answer there. Its bytes are
-- `text` of it (mc_write); that one was given is `OwnAreAnswered`.
abbrev pub RepliesAreAnswers : CoreState → List Given → Type 0
RepliesAreAnswers core given = (k worker place : ℕ) (reply : Reply) →
    slice_get given k ≡ Some (worker, place, reply) → IsAnswer core worker place reply

-- some reply was given to the worker for the place
abbrev pub HasReply : List Given → ℕ → ℕ → Type 0
HasReply given worker place =
    (k : ℕ) × (reply : Reply) × (slice_get given k ≡ Some (worker, place, reply))

-- each command of its own that a worker has replayed was answered
abbrev pub OwnAreAnswered : CoreState → List Given → Type 0
OwnAreAnswered core given =
    (number place : ℕ) (worker : WorkerState) (replay : ReplayState) (ticket : Ticket) →
    HasReplica core number worker replay →
    place < replay.replayed → slice_get core.shown.decided place ≡ Some ticket →
    ticket.worker ≡ number → HasReply given number place

-- no place is answered twice, whichever workers answer
abbrev pub AnsweredOnce : List Given → Type 0
AnsweredOnce given =
    (one other worker other_worker place : ℕ) (reply other_reply : Reply) →
    slice_get given one ≡ Some (worker, place, reply) →
    slice_get given other ≡ Some (other_worker, place, other_reply) → one ≡ other

-- a command that is announced while d places are decided stands among the first d + `more` places
-- once that many are decided, whatever happens in between and whichever workers stop
abbrev pub IsDecidedSoon : ℕ → CoreState → Type 0
IsDecidedSoon more old =
    (number tenant : ℕ) (command : Command) (announced new : CoreState)
    (events : List Event) (given : List Given) →
    CoreStep old (Announce number tenant command) announced None → Runs announced events new given →
    length old.shown.decided + more ≤ length new.shown.decided →
    StandsBefore (length old.shown.decided + more)
    (ticket_of number (announced_by old.shown number)) new.shown.decided

-- settings of two workers and more, of no fewer places than workers, and of a tenant. A worker alone
-- waits for no other command, in fewer places this bound says nothing, and without a tenant there is
-- no command.
abbrev pub AreOfSeveral : Configuration → Type 0
AreOfSeveral settings = (1 < settings.workers) × (settings.workers ≤ settings.places)
    × (0 < length settings.tenants)

-- a command is announced in this state, and stands at this place in a later one
pub record StandsLater (old : CoreState) (place : ℕ) : Type 0 where
  pub number : ℕ
  pub tenant : ℕ
  pub command : Command
  pub announced : CoreState
  pub new : CoreState
  pub events : List Event
  pub given : List Given
  pub announces : CoreStep old (Announce number tenant command) announced None
  pub runs : Runs announced events new given
  pub stands : slice_get new.shown.decided place
      ≡ Some (ticket_of number (announced_by old.shown number))

-- a command that is announced while d places are decided stands at place d or later, if it stands
abbrev pub StandsAfterDecided : CoreState → Type 0
StandsAfterDecided old = (place : ℕ) → StandsLater old place → length old.shown.decided ≤ place

-- order in real time: a command that was answered before another was announced stands before it
abbrev pub KeepsRealTime : CoreState → List Given → Type 0
KeepsRealTime old given = (at worker place later : ℕ) (reply : Reply) →
    slice_get given at ≡ Some (worker, place, reply) → StandsLater old later → place < later

-- a reply was given to the tenant's command number j, from 0, of the log
pub record Answered (core : CoreState) (given : List Given) (tenant j : ℕ)
    (reply : Reply) : Type 0 where
  pub at : ℕ
  pub worker : ℕ
  pub place : ℕ
  pub entry : Entry
  pub told : slice_get given at ≡ Some (worker, place, reply)
  pub found : slice_get (log_of core) place ≡ Some (Some entry)
  pub whose : entry.tenant ≡ tenant
  pub number : length (own tenant (take place (log_of core))) ≡ j

-- two runs' logs agree for a tenant of each up to its command number j: both tables were opened
-- with the same quotas, and the tenants' commands up to that one are the same
pub record LogsAgree (one other : CoreState) (tenant other_tenant j : ℕ) : Type 0 where
  pub limits : slice_get one.openings tenant ≡ slice_get other.openings other_tenant
  pub commands :
      take (j + 1) (own tenant (log_of one)) ≡ take (j + 1) (own other_tenant (log_of other))

-- "runs whose logs agree for a tenant give equal replies": to each of the tenant's commands up to
-- which they agree
abbrev pub AnswerAlike : CoreState → List Given → CoreState → List Given → Type 0
AnswerAlike one given other other_given = (tenant other_tenant j : ℕ) (reply other_reply : Reply) →
    LogsAgree one other tenant other_tenant j → Answered one given tenant j reply →
    Answered other other_given other_tenant j other_reply → reply ≡ other_reply

-- "whichever workers stop for good": a worker that has stopped takes no more events, and its shown
-- state and what it has replayed stay as they are
abbrev pub StopsForGood : CoreState → Type 0
StopsForGood old =
    (number : ℕ) (stopped new : CoreState) (reply : Option Reply)
    (events : List Event) (given : List Given) →
    CoreStep old (Stop number) stopped reply → Runs stopped events new given →
    ((k : ℕ) (event : Event) → slice_get events k ≡ Some event → actor event ≢ number)
    × (slice_get new.shown.workers number ≡ slice_get stopped.shown.workers number)
    × (slice_get new.replays number ≡ slice_get old.replays number)

-- an event leads on from the core only if it meets no fault there
abbrev pub StepsAreEnabled : CoreState → Type 0
StepsAreEnabled core = (event : Event) (new : CoreState) (reply : Option Reply) →
    CoreStep core event new reply → refusal core event ≡ None

-- an event leads from the core to one state alone, with one reply or with none
abbrev pub StepsAreOne : CoreState → Type 0
StepsAreOne core = (event : Event) (new other : CoreState) (reply other_reply : Option Reply) →
    CoreStep core event new reply → CoreStep core event other other_reply →
    (new ≡ other) × (reply ≡ other_reply)

-- an event that meets no fault leads on
abbrev pub StepsLeadOn : CoreState → Type 0
StepsLeadOn core = (event : Event) → refusal core event ≡ None →
    (new : CoreState) × (reply : Option Reply) × CoreStep core event new reply

-- No worker waits for another: what it may do depends on its own shown state, on how much it has
-- replayed, on whether the tenant is there, and on whether it has places left. An announcement that
-- finds none left is reported `LogFull`.
pub record NobodyWaits (core : CoreState) (number : ℕ) (worker : WorkerState)
    (replay : ReplayState) : Type 0 where
  pub announces : (tenant : ℕ) (command : Command) → worker.phase ≡ Idle →
      tenant < length core.openings → HasRoom (core_size core) worker →
      refusal core (Announce number tenant command) ≡ None
  pub reads : (worker.phase ≡ Idle) ⊎ (worker.phase ≡ Pending) → HasRoom (core_size core) worker →
      refusal core (Read number) ≡ None
  pub looks : worker.phase ≡ Pending → HasRoom (core_size core) worker → worker.mark ≢ None →
      refusal core (Look number) ≡ None
  pub proposes : worker.phase ≡ Looked → refusal core (Propose number) ≡ None
  pub replays : worker.phase ≢ Stopped → replay.replayed < length worker.learned →
      refusal core (Replay number) ≡ None
  pub stops : worker.phase ≢ Stopped → refusal core (Stop number) ≡ None
  pub full : (tenant : ℕ) (command : Command) → worker.phase ≡ Idle →
      tenant < length core.openings → core.places ≤ length worker.learned →
      refusal core (Announce number tenant command) ≡ Some LogFull

-- this holds for every worker
abbrev pub WorkersAreFree : CoreState → Type 0
WorkersAreFree core = (number : ℕ) (worker : WorkerState) (replay : ReplayState) →
    HasReplica core number worker replay → NobodyWaits core number worker replay

-- Which fault an event meets that can't be taken, and in which order its conditions are tried: this
-- project's profile. A full log is reported to an idle worker that announces for a tenant that is
-- there (`NobodyWaits`), and to a pending one that looks, whether it has a mark or not. Every other
-- event that can't be taken is a bad event.
pub record FaultsAreOrdered (core : CoreState) (number : ℕ) (worker : WorkerState)
    (replay : ReplayState) : Type 0 where
  pub announces : (tenant : ℕ) (command : Command) →
      (worker.phase ≢ Idle) ⊎ (length core.openings ≤ tenant) →
      refusal core (Announce number tenant command) ≡ Some BadEvent
  pub reads : (worker.phase ≢ Idle) × (worker.phase ≢ Pending)
      ⊎ (core.places ≤ length worker.learned) → refusal core (Read number) ≡ Some BadEvent
  pub looks : worker.phase ≢ Pending → refusal core (Look number) ≡ Some BadEvent
  pub looks_full : worker.phase ≡ Pending → core.places ≤ length worker.learned →
      refusal core (Look number) ≡ Some LogFull
  pub looks_unmarked : worker.phase ≡ Pending → HasRoom (core_size core) worker →
      worker.mark ≡ None → refusal core (Look number) ≡ Some BadEvent
  pub proposes : worker.phase ≢ Looked → refusal core (Propose number) ≡ Some BadEvent
  pub replays : (worker.phase ≡ Stopped) ⊎ (length worker.learned ≤ replay.replayed) →
      refusal core (Replay number) ≡ Some BadEvent
  pub stops : worker.phase ≡ Stopped → refusal core (Stop number) ≡ Some BadEvent

-- this holds for every worker
abbrev pub FaultsStand : CoreState → Type 0
FaultsStand core = (number : ℕ) (worker : WorkerState) (replay : ReplayState) →
    HasReplica core number worker replay → FaultsAreOrdered core number worker replay

-- an event leaves the shown state of every other worker, and what that worker has replayed, as they
-- are
abbrev pub StepsAreAlone : CoreState → Type 0
StepsAreAlone core = (event : Event) (new : CoreState) (reply : Option Reply) (other : ℕ) →
    CoreStep core event new reply → other ≢ actor event →
    (slice_get new.shown.workers other ≡ slice_get core.shown.workers other)
    × (slice_get new.replays other ≡ slice_get core.replays other)

-- a worker has learned this many places
abbrev pub HasLearnedUpTo : CoreState → ℕ → ℕ → Type 0
HasLearnedUpTo core number many =
    (worker : WorkerState) × IsWorker core.shown number worker × (length worker.learned ≡ many)

-- a read of a decided place learns it, and a proposal learns its place
pub record StepsLearn (core : CoreState) : Type 0 where
  pub reads : (number many : ℕ) (new : CoreState) (reply : Option Reply) →
      CoreStep core (Read number) new reply → HasLearnedUpTo core number many →
      many < length core.shown.decided → HasLearnedUpTo new number (many + 1)
  pub proposes : (number many : ℕ) (new : CoreState) (reply : Option Reply) →
      CoreStep core (Propose number) new reply → HasLearnedUpTo core number many →
      HasLearnedUpTo new number (many + 1)
