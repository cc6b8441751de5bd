-- What all workers of a log have done, as one run of the core, the machine of the headline: a
-- refinement. The log is that of Herlihy's universal construction (Wait-Free Synchronization, TOPLAS
-- 1991); tables to begin with are this project's profile.
use Rattle.std.specs.Option.{option_and_then, option_map_or}
use Rattle.std.specs.Prelude.{◌≡◌, ℕ, ◌<◌, ◌≤◌, All, List, Option, Some, length, map, slice_get, take}
use Rattle.lists.specs.Lists.{BeginsWith}
use Rattle.mc_model.specs.declared.command.Command.{Command}
use Rattle.mc_model.specs.declared.command.Command.TheVariants.{Flush}
use Rattle.mc_model.specs.declared.id.Ticket.{Ticket}
use Rattle.mc_model.specs.declared.reply.Reply.{Reply}
use Rattle.mc_model.specs.declared.request.Entry.{Entry}
use Rattle.mc_model.specs.declared.shown.ShownState.{ShownState}
use Rattle.mc_model.specs.Lawful.{IsWorker, ShownEvent}
use Rattle.mc_model.specs.Legal.{ticket_of}
use Rattle.mc_model.specs.Replay.{reply_to}
use Rattle.mc_model.specs.Settings.{Configuration}
use Rattle.mc_model.specs.State.{TableState}
use Rattle.uc_cells.specs.Sighting.{Sighting, entries}
use Rattle.uc_core.specs.Core.{CoreState, entry_under, log_of}
use Rattle.uc_core.specs.Run.{Given}
use Rattle.uc_log.specs.declared.log.Log.{Log}
use Rattle.uc_laws.specs.CoreRun.{IsCoreRun, log_size}
use Rattle.uc_places.specs.OneRun.{AreOfAll}
use Rattle.uc_places.specs.Run.{HasMade}
use Rattle.uc_worker.specs.declared.worker.Answer.{Answer}
use Rattle.uc_worker.specs.declared.worker.Worker.{Worker}
use Rattle.uc_worker.specs.Going.{Continues, Submits}
use Rattle.uc_worker.specs.Histories.{AreDecided}
use Rattle.uc_worker.specs.TurningOver.{HaveOneHistory, IsUpToDateAt}
use Rattle.uc_worker.specs.Unsettled.{HasSettled}
use Rattle.uc_worker.specs.Worker.{announced_of, history_of, openings_of, seat_of}
use Rattle.uc_worker.specs.AllWorkers.{AreOnOneRun, own_part}

-- this gives how many places each of the workers has replayed, by its number
abbrev pub CountsReplayed : List Worker → (ℕ → ℕ) → Type 0
CountsReplayed workers replayed = (place : ℕ) (worker : Worker) →
    slice_get workers place ≡ Some worker →
    replayed (seat_of worker).worker ≡ length (history_of worker)

-- What all workers of a log have done, if they are on one run, is a run of the core: its events of
-- the log are those of the run, and each worker has replayed as much as its history has. Each
-- ticket's entry is given, and so are the tables over which the log was opened.
abbrev pub TheyRunTheCore : Type 0
TheyRunTheCore = (settings : Configuration) (tables : List TableState) (workers : List Worker)
    (one : AreOnOneRun workers) (said : Ticket → ℕ × Command) (replayed : ℕ → ℕ) →
    log_size settings ≡ one.0 → AreOfAll one.0 (map own_part workers) →
    CountsReplayed workers replayed →
    ((ticket : Ticket) → (said ticket).0 < length settings.tenants) →
    IsCoreRun settings tables one.2.run one.1 said replayed

-- all workers of this log, each at the place of its number
pub record AreAllOf (log : Log) (workers : List Worker) : Type 0 where
  pub of : (place : ℕ) (worker : Worker) → slice_get workers place ≡ Some worker →
      worker.log.now ≡ log
  pub many : length workers ≡ log.settings.workers
  pub numbers : (place : ℕ) (worker : Worker) → slice_get workers place ≡ Some worker →
      (seat_of worker).worker ≡ place

-- what the ticket's worker has put into its cell
abbrev pub put_under : List Worker → Ticket → Option Sighting
put_under workers ticket =
    option_and_then (λ (worker : Worker). slice_get (announced_of worker) ticket.number)
    (slice_get workers ticket.worker)

-- the tenant and the command that these workers have put under a ticket; under one that none of
-- them has announced, which stands nowhere in their run, a flush of tenant 0
abbrev pub said_under : List Worker → Ticket → ℕ × Command
said_under workers ticket = option_map_or (λ (entry : Entry). (entry.tenant, entry.command))
    (option_and_then (λ (seen : Sighting). seen.entry) (put_under workers ticket)) (0, Flush)

-- how many places the worker of a number has replayed
abbrev pub places_replayed_by : List Worker → ℕ → ℕ
places_replayed_by workers number = option_map_or (λ (worker : Worker). length (history_of worker))
    (slice_get workers number) 0

-- the log of the core begins with what each of these workers has replayed, entry by entry
abbrev pub HaveReplayed : List Worker → CoreState → Type 0
HaveReplayed workers core = (number : ℕ) (worker : Worker) →
    slice_get workers number ≡ Some worker →
    BeginsWith (log_of core) (entries (history_of worker))

-- What all workers of a log have done is one run of the core over these tables: its events of the
-- log are exactly their calls, in each worker's order, under each ticket stands what its worker has
-- put there, and each worker has replayed as many places as its history has, which are decided as
-- it has them. If they have one history, the core's log begins with it.
pub record DoOneCoreRun (settings : Configuration) (tables : List TableState)
    (workers : List Worker) : Type 0 where
  pub run : List ShownEvent
  pub log : ShownState
  pub core : IsCoreRun settings tables run log (said_under workers) (places_replayed_by workers)
  pub made : (place : ℕ) (worker : Worker) → slice_get workers place ≡ Some worker →
      HasMade run place (own_part worker).calls
  pub shown : (place : ℕ) (worker : Worker) → slice_get workers place ≡ Some worker →
      IsWorker log place (own_part worker).state
  pub as_put : (number place : ℕ) (worker : Worker) (seen : Sighting) →
      slice_get workers number ≡ Some worker → slice_get (history_of worker) place ≡ Some seen →
      seen.ticket.worker ≡ number → put_under workers seen.ticket ≡ Some seen
  pub entries : (ticket : Ticket) (seen : Sighting) → put_under workers ticket ≡ Some seen →
      entry_under core.core ticket ≡ seen.entry
  pub decided : (number : ℕ) (worker : Worker) → slice_get workers number ≡ Some worker →
      AreDecided log (history_of worker)
  pub replayed : HaveOneHistory workers → HaveReplayed workers core.core

-- All workers of a log that are on one run have done one run of the core with the log's settings.
abbrev pub AllDoOneCoreRun : Type 0
AllDoOneCoreRun = (tables : List TableState) (log : Log) (workers : List Worker) →
    AreAllOf log workers → AreOnOneRun workers → DoOneCoreRun log.settings tables workers

-- Where all workers of a log are on one run and each has replayed this many places, which are all
-- that it has learned, exactly this many are decided: whoever decides a place learns it.
abbrev pub NothingIsDecidedBehindAll : Type 0
NothingIsDecidedBehindAll = (log : Log) (workers : List Worker) (one : AreOnOneRun workers)
    (places : ℕ) → AreAllOf log workers → All (IsUpToDateAt places) workers →
    length one.1.decided ≡ places

-- Each own command of these workers is answered, at the place where its worker has replayed it,
-- with the reply that follows from that worker's history over these tables.
abbrev pub AnswersOwn : List TableState → List Worker → List Given → Type 0
AnswersOwn tables workers given = (number place : ℕ) (worker : Worker) (seen : Sighting) →
    slice_get workers number ≡ Some worker → slice_get (history_of worker) place ≡ Some seen →
    seen.ticket.worker ≡ number →
    (at : ℕ) × (reply : Reply) × (slice_get given at ≡ Some (number, place, reply))
    × (Some reply ≡ reply_to tables (entries (take place (history_of worker))) seen.entry)

-- A run of workers that have one history answers so over the tables that their log was opened over,
-- if each tenant has one.
abbrev pub OwnHaveTheirReplies : Type 0
OwnHaveTheirReplies = (settings : Configuration) (tables : List TableState)
    (workers : List Worker) (one : DoOneCoreRun settings tables workers) →
    length settings.tenants ≤ length tables → HaveOneHistory workers →
    AnswersOwn tables workers one.core.given

-- each of these workers was opened over these tables
abbrev pub AreOver : List TableState → List Worker → Type 0
AreOver tables workers = All (λ (worker : Worker). openings_of worker ≡ tables) workers

-- What all workers of a closed log have done is one run of the core over the tables that they were
-- opened over: its log is the history that each of them has, no more and no less, and its replies
-- to each worker's own commands are those that follow from that history.
pub record HaveRunTheCore (settings : Configuration) (tables : List TableState)
    (workers : List Worker) : Type 0 where
  pub over : AreOver tables workers
  pub one : DoOneCoreRun settings tables workers
  pub whole : (number : ℕ) (worker : Worker) → slice_get workers number ≡ Some worker →
      log_of one.core.core ≡ entries (history_of worker)
  pub replies : AnswersOwn tables workers one.core.given

-- All workers of a log that were opened over the same tables and are on one run have done so if
-- they have one history, of this many places, which are all that they have learned.
abbrev pub ClosedLogsRunTheCore : Type 0
ClosedLogsRunTheCore = (tables : List TableState) (log : Log) (workers : List Worker)
    (places : ℕ) → AreAllOf log workers → AreOver tables workers → AreOnOneRun workers →
    HaveOneHistory workers → All (IsUpToDateAt places) workers →
    HaveRunTheCore log.settings tables workers

-- What follows from a worker's history at the place of a command of its own, as that history was at
-- some time before all workers came back, is what the run gives it there.
abbrev pub EarlierRepliesAreGiven : Type 0
EarlierRepliesAreGiven = (settings : Configuration) (tables : List TableState)
    (workers : List Worker) (ran : HaveRunTheCore settings tables workers) (number place : ℕ)
    (early worker : Worker) (seen : Sighting) (reply : Reply) →
    slice_get workers number ≡ Some worker → Continues early worker →
    slice_get (history_of early) place ≡ Some seen → seen.ticket.worker ≡ number →
    Some reply ≡ reply_to (openings_of early) (entries (take place (history_of early))) seen.entry →
    (at : ℕ) × (slice_get ran.one.core.given at ≡ Some (number, place, reply))

-- So each answer to a command that a worker submitted at some time is what the run gives it at the
-- place that the answer names.
abbrev pub SubmittedRepliesAreGiven : Type 0
SubmittedRepliesAreGiven = (settings : Configuration) (tables : List TableState)
    (workers : List Worker) (ran : HaveRunTheCore settings tables workers) (number tenant : ℕ)
    (command : Command) (old new worker : Worker) (answer : Answer) →
    slice_get workers number ≡ Some worker → (seat_of worker).worker ≡ number →
    Continues old new → Submits old new tenant command answer → Continues new worker →
    (at : ℕ) × (slice_get ran.one.core.given at ≡ Some (number, answer.place, answer.reply))

-- Where nothing that a worker has announced is unsettled, each of its commands stands in its
-- history.
abbrev pub SettledCommandsAreReplayed : Type 0
SettledCommandsAreReplayed = (worker : Worker) (number : ℕ) → HasSettled worker →
    number < (seat_of worker).state.announced →
    (place : ℕ) × (seen : Sighting) × (slice_get (history_of worker) place ≡ Some seen)
    × (seen.ticket ≡ ticket_of (seat_of worker).worker number)
