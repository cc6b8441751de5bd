-- The calls of a seat, one after another, as the events of one run: the subhistory of one process
-- in a history (Herlihy and Wing, Linearizability, TOPLAS 1990).
use Rattle.std.specs.Prelude.{◌≡◌, ℕ, ◌<◌, List, [], ◌∷◌, map, slice_get, Some}
use Rattle.mc_model.specs.declared.shown.LogSize.{LogSize}
use Rattle.mc_model.specs.declared.shown.ShownState.{ShownState}
use Rattle.mc_model.specs.declared.shown.WorkerState.{WorkerState}
use Rattle.lists.specs.Lists.{BeginsWith}
use Rattle.mc_model.specs.Lawful.{IsWorker, LeadOn, ShownEvent}
use Rattle.mc_model.specs.Shown.{new_log}
use Rattle.uc_places.specs.declared.desk.Desk.{Desk}
use Rattle.uc_places.specs.declared.view.Call.{Call}
use Rattle.uc_places.specs.declared.view.Part.{Part}
use Rattle.uc_places.specs.Calls.{Makes, calls_of, desk_size, known, last_of, state_of, worker_of}
use Rattle.uc_places.specs.Rule.{OthersLead}
use Rattle.uc_places.specs.Run.{AreOneRun, HasMade, IsOneRun, event_of}
use Rattle.uc_places.specs.Told.{new_seat}

-- the seat has taken no event; a list may have been shared with it
pub record IsStill (old new : Desk) : Type 0 where
  pub size : desk_size new ≡ desk_size old
  pub worker : worker_of new ≡ worker_of old
  pub state : state_of new ≡ state_of old
  pub last : last_of new ≡ last_of old
  pub calls : calls_of new ≡ calls_of old

-- these are one seat's calls, each an event of its worker: each begins where the one before it
-- ended
abbrev pub CallsLead : Desk → List Call → Desk → Type 0
CallsLead old [] new = IsStill old new
CallsLead old (call ∷ calls) new = (here next : Desk) × (state : WorkerState) × IsStill old here
    × Makes here next call state × CallsLead next calls new

-- the calls of a seat since its opening are its worker's own events of one run, which leads to the
-- state after the last of them
abbrev pub CallsLieOnOneRun : Type 0
CallsLieOnOneRun = (size : LogSize) (number : ℕ) (first last : Desk) (calls : List Call) →
    number < size.workers → known first ≡ new_seat size number → CallsLead first calls last →
    IsOneRun size number calls (state_of last) (last_of last)

-- between two calls of a seat its worker's state stays the same, and no decided place changes
abbrev pub OthersLeaveIt : Type 0
OthersLeaveIt =
    (size : LogSize) (number : ℕ) (old new : ShownState) → OthersLead size number old new →
    (slice_get new.workers number ≡ slice_get old.workers number)
    × BeginsWith new.decided old.decided

-- each worker of a log of this size has its part among these
abbrev pub AreOfAll : LogSize → List Part → Type 0
AreOfAll size parts = (number : ℕ) → number < size.workers →
    (place : ℕ) × (part : Part) × (slice_get parts place ≡ Some part) × (part.worker ≡ number)

-- A run that goes on from one in which a worker has made exactly these calls, and from which one
-- goes on in which it has made no others, has exactly these calls of it too, and leads to a state
-- in which the worker is as it is at the end of the last.
abbrev pub RunsBetween : Type 0
RunsBetween = (size : LogSize) (number : ℕ) (calls : List Call) (state : WorkerState)
    (early here late : List ShownEvent) (log end : ShownState) →
    HasMade early number calls → BeginsWith here early → LeadOn size (new_log size) here log →
    BeginsWith late here → LeadOn size (new_log size) late end → HasMade late number calls →
    IsWorker end number state → HasMade here number calls × IsWorker log number state

-- if all workers' seats are on one run, each event of the run is a call of one of them
abbrev pub EachEventIsACall : Type 0
EachEventIsACall = (size : LogSize) (parts : List Part) (log : ShownState) →
    (one : AreOneRun size parts log) → AreOfAll size parts →
    (at : ℕ) (event : ShownEvent) → slice_get one.run at ≡ Some event →
    (place call : ℕ) × (part : Part) × (slice_get parts place ≡ Some part)
    × (slice_get (map (event_of part.worker) part.calls) call ≡ Some event)

-- if some seats are on one run, each event of the run is one that a call would be, of a worker of
-- the log, whether that worker's seat is among them or not: none is a stop
abbrev pub NothingButCalls : Type 0
NothingButCalls = (size : LogSize) (parts : List Part) (log : ShownState) →
    (one : AreOneRun size parts log) →
    (at : ℕ) (event : ShownEvent) → slice_get one.run at ≡ Some event →
    (number : ℕ) × (call : Call) × (number < size.workers) × (event ≡ event_of number call)
