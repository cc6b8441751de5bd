-- Runs of the log, and which of a run's events are a worker's own: a history, and the subhistory of
-- one process in it (Herlihy and Wing, Linearizability, TOPLAS 1990).
use Rattle.std.specs.Prelude.{◌≡◌, ℕ, ◌==◌, ◌<◌, ◌∷◌, Bool, List, map, slice_get, Some}
use Rattle.std.specs.List.{filter}
use Rattle.std.specs.Option.{option_map_or}
use Rattle.mc_model.specs.declared.shown.LogSize.{LogSize}
use Rattle.mc_model.specs.declared.shown.ShownState.{ShownState}
use Rattle.mc_model.specs.declared.shown.WorkerState.{WorkerState}
use Rattle.mc_model.specs.Lawful.{IsWorker, LeadOn, ShownEvent, announces, looks, proposes, reads, stops}
use Rattle.mc_model.specs.Shown.{new_log}
use Rattle.uc_places.specs.declared.view.Call.{Call}
use Rattle.uc_places.specs.declared.view.Call.TheVariants.{Announce, Look, Propose, Read}
use Rattle.uc_places.specs.declared.view.Part.{Part}
use Rattle.uc_places.specs.declared.view.View.{View}
use Rattle.uc_places.specs.declared.view.Witnessed.{Witnessed}

-- whether the event is this worker's
abbrev pub is_of : ℕ → ShownEvent → Bool
is_of number (announces worker) = worker == number
is_of number (reads worker) = worker == number
is_of number (looks worker) = worker == number
is_of number (proposes worker) = worker == number
is_of number (stops worker) = worker == number

-- this worker's own among the events, in order
abbrev pub own_events : ℕ → List ShownEvent → List ShownEvent
own_events number events = filter (is_of number) events

-- the event that a call of this worker's seat is
abbrev pub event_of : ℕ → Call → ShownEvent
event_of number Announce = announces number
event_of number Read = reads number
event_of number Look = looks number
event_of number Propose = proposes number

-- these calls, in order, are all that the worker has done in this run
abbrev pub HasMade : List ShownEvent → ℕ → List Call → Type 0
HasMade run number calls = own_events number run ≡ map (event_of number) calls

-- events lead from the opening to a state in which the worker has this state, and these calls are
-- its own among them
pub record IsOneRun (size : LogSize) (number : ℕ) (calls : List Call) (state : WorkerState)
    (last : ShownState) : Type 0 where
  pub events : List ShownEvent
  pub lead : LeadOn size (new_log size) events last
  pub own : HasMade events number calls
  pub shown : IsWorker last number state

-- what a seat knows of its own worker
abbrev pub part_of : View → Part
part_of view = record {
  size = view.size;
  worker = view.worker;
  state = view.state;
  last = view.last;
  calls = view.calls;
}

-- what it knows of all workers whose seat it is
abbrev pub all_parts : View → List Part
all_parts view = part_of view ∷ view.joined

-- each of the first list is among the second
abbrev pub AreAmong : List Part → List Part → Type 0
AreAmong parts all = (place : ℕ) (part : Part) → slice_get parts place ≡ Some part →
    (other : ℕ) × (slice_get all other ≡ Some part)

-- an event as a seat keeps it, and the events that it has witnessed: the run of the log up to the
-- moment when it did
abbrev pub event_in : Witnessed → ShownEvent
event_in it = option_map_or (event_of it.worker) it.call (stops it.worker)

abbrev pub witnessed_by : View → List ShownEvent
witnessed_by view = map event_in view.witnessed

-- One run has all calls of these workers' seats, and no other events of the workers: it leads from
-- the opening to this state of the log, in which each worker is as its seat shows it, and each
-- worker's own events in it are exactly the calls of its seat, in order. The events of every other
-- worker of the log are such as calls are: none of them is a stop.
pub record AreOneRun (size : LogSize) (parts : List Part) (log : ShownState) : Type 0 where
  pub run : List ShownEvent
  pub lead : LeadOn size (new_log size) run log
  pub sized : (place : ℕ) (part : Part) → slice_get parts place ≡ Some part → part.size ≡ size
  pub shown : (place : ℕ) (part : Part) → slice_get parts place ≡ Some part →
      IsWorker log part.worker part.state
  pub own : (place : ℕ) (part : Part) → slice_get parts place ≡ Some part →
      HasMade run part.worker part.calls
  pub each : (number : ℕ) → number < size.workers → (calls : List Call) × HasMade run number calls
