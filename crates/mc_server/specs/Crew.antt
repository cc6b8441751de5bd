-- The workers of one log, and what they come to when they meet; this project's profile.
use Rattle.std.specs.List.{AllZip}
use Rattle.std.specs.Prelude.{◌≡◌, ◌<◌, ◌≤◌, ℕ, ◌+◌, List, [], All, Contains, length, map}
use Rattle.lists.specs.Lists.{BeginsWith}
use Rattle.mc_model.specs.declared.id.Ticket.{Ticket}
use Rattle.mc_model.specs.Legal.{IsLegal, count}
use Rattle.mc_model.specs.Settings.{Configuration}
use Rattle.mc_server.specs.Listeners.{CountsFrom}
use Rattle.uc_log.specs.declared.log.Log.{Log}
use Rattle.uc_worker.specs.AllWorkers.{AreOfLog, AreOnOneRun}
use Rattle.uc_worker.specs.Cited.{Sighting}
use Rattle.uc_worker.specs.Going.{CatchesUp}
use Rattle.uc_worker.specs.TurningOver.{HaveOneHistory, IsUpToDateAt}
use Rattle.uc_worker.specs.Worker.{IsUpToDate, announced_of, history_of, seat_of}
use Rattle.uc_worker.specs.declared.worker.Worker.{Worker}

-- the worker has announced nothing, and replayed nothing
abbrev pub HasDoneNothing : Worker → Type 0
HasDoneNothing worker = (announced_of worker ≡ []) × (history_of worker ≡ [])

-- a worker's number
abbrev pub number_of : Worker → ℕ
number_of worker = (seat_of worker).worker

-- the tickets of the commands that a worker has replayed, in their order
abbrev pub tickets_of : Worker → List Ticket
tickets_of worker = map (λ (seen : Sighting). seen.ticket) (history_of worker)

-- The workers of a log with these settings, one for each number.
pub record AreWorkersOf (settings : Configuration) (log : Log)
    (workers : List Worker) : Type 0 where
  pub opened : log.settings ≡ settings
  pub of : AreOfLog log workers
  pub many : length workers ≡ settings.workers
  pub numbers : CountsFrom 0 (map number_of workers)

-- This worker has met the other: its history begins with the other's, and each command that the
-- other has announced is in it, except for at most one (Herlihy, Wait-Free Synchronization, TOPLAS
-- 1991, the universal construction: all processes agree on one order of the decided cells, so each
-- knows a prefix of one list).
pub record HasMet (one other : Worker) : Type 0 where
  pub log : other.log.now ≡ one.log.now
  pub front : BeginsWith (history_of one) (history_of other)
  pub commands : (seat_of other).state.announced ≤ count (number_of other) (tickets_of one) + 1

-- While a worker went from `old` to `new`, another met it and went from `other` to `after`: then
-- that one has replayed all that it has learned; its history begins with what the worker had
-- replayed at first, and is a prefix of what the worker has replayed at last.
pub record MeetsAnother (old new other after : Worker) : Type 0 where
  pub later : CatchesUp other after
  pub whole : IsUpToDate after
  pub most : BeginsWith (history_of after) (history_of old)
  pub front : BeginsWith (history_of new) (history_of after)

-- The other worker, later on, has replayed all that it has learned, and its history is this one's.
pub record AgreesWith (one other after : Worker) : Type 0 where
  pub later : CatchesUp other after
  pub whole : IsUpToDate after
  pub equal : history_of one ≡ history_of after

-- one of these workers has announced the command of this ticket
pub record WasAnnounced (workers : List Worker) (ticket : Ticket) : Type 0 where
  pub worker : Worker
  pub among : Contains workers worker
  pub whose : number_of worker ≡ ticket.worker
  pub announced : ticket.number < length (announced_of worker)

-- The workers have met: one of them, later on, has met them all and has replayed all that it has
-- learned. No command stands twice in its history, which has this length, and each was announced by
-- one of these workers.
pub record HaveMet (workers : List Worker) (number : ℕ) : Type 0 where
  pub first : Worker
  pub among : Contains workers first
  pub one : Worker
  pub later : CatchesUp first one
  pub met : All (HasMet one) workers
  pub whole : IsUpToDate one
  pub once : IsLegal (tickets_of one)
  pub announced : All (WasAnnounced workers) (tickets_of one)
  pub long : length (history_of one) ≡ number

-- The workers of a log have closed it: later on they have announced nothing more, and have one
-- history, of this many places, in which all stands that they have learned. So each command that
-- one of them has answered stands in it; and one run of the log, from its opening, has all that
-- they have done.
pub record HaveClosed (workers : List Worker) (used : ℕ) : Type 0 where
  pub closed : List Worker
  pub later : AllZip CatchesUp workers closed
  pub up_to_date : All (IsUpToDateAt used) closed
  pub same : HaveOneHistory closed
  pub run : AreOnOneRun closed

-- they have met and closed it
pub record MeetAndClose (workers : List Worker) (used : ℕ) : Type 0 where
  pub met : HaveMet workers used
  pub closes : HaveClosed workers used
