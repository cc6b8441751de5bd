-- Runs of the shared log in which whoever announces a command leaves a place for each worker. The
-- log is the list onto which Herlihy's universal construction threads commands (Wait-Free
-- Synchronization, TOPLAS 1991); that this list has an end is this project's profile.
use Rattle.std.specs.Prelude.{◌≡◌, ◌+◌, ◌≤◌, List, [], ◌∷◌, length}
use Rattle.mc_model.specs.declared.shown.LogSize.{LogSize}
use Rattle.mc_model.specs.declared.shown.ShownState.{ShownState}
use Rattle.mc_model.specs.declared.shown.WorkerState.{WorkerState}
use Rattle.mc_model.specs.Lawful.{IsWorker, ShownEvent, Step, announces, looks, proposes, reads, stops}
use Rattle.mc_model.specs.Shown.{new_log}

-- if the event announces a command, then at least as many places as there are workers are left
-- after those that its worker has learned
abbrev pub LeavesPlaces : LogSize → ShownState → ShownEvent → Type 0
LeavesPlaces size state (announces number) =
    (worker : WorkerState) → IsWorker state number worker →
    length worker.learned + size.workers ≤ size.places
LeavesPlaces size state (reads number) = Unit {0}
LeavesPlaces size state (looks number) = Unit {0}
LeavesPlaces size state (proposes number) = Unit {0}
LeavesPlaces size state (stops number) = Unit {0}

-- events that each leave places lead from the opening to a state; the latest comes first
abbrev pub LeadLeavingPlaces : LogSize → List ShownEvent → ShownState → Type 0
LeadLeavingPlaces size [] state = state ≡ new_log size
LeadLeavingPlaces size (event ∷ events) state =
    (before : ShownState) × LeadLeavingPlaces size events before
    × Step size before event state × LeavesPlaces size before event

-- the state is reachable by such events
abbrev pub IsReachedLeavingPlaces : LogSize → ShownState → Type 0
IsReachedLeavingPlaces size state =
    (events : List ShownEvent) × LeadLeavingPlaces size events state
