-- The invariant of the shared words. At every moment there is a run of the log from its opening, of
-- which seven things hold.
--   The words show the state that it leads to (`Shows`): how many commands each worker has
--   announced, and which ticket stands at each place.
--   Each worker's one seat shows its worker: what the seat knows of its worker is exactly that
--   worker's part of the state.
--   Each seat keeps the state after its own last event, and only other workers' events lead from
--   there to the present state.
--   Each seat keeps its calls, and these, in order, are exactly the run's events of its worker.
--   The run begins with the events that a seat has witnessed.
--   The log begins with the list of decided places that was shared with a seat.
--   Each worker has a seat: its own, one into which that was joined, or the spare one until its own
--   is given out. So the run has no event that isn't a call of a seat.
-- So a call can only be one event of its own worker, from a reachable state, and only events of
-- other workers lie between two calls of a seat; and the calls of all seats are one run.
-- The log is that of Herlihy's universal construction (Wait-Free Synchronization, TOPLAS 1991);
-- words, seats and this invariant are this project's own.
use Rattle.std.specs.Prelude.{◌≡◌, ◌≢◌, ◌⊎◌, ℕ, ◌<◌, ◌≤◌, List, [], ◌∷◌}
use mathlib.Core.Option.{some}
use lib.ListN.{get_elem?}
use Rattle.atomic_table.specs.Table.{State}
use Rattle.mc_model.specs.declared.id.TheConstants.{WORKERS}
use Rattle.mc_model.specs.declared.settings.TheConstants.{MAX_PLACES}
use Rattle.mc_model.specs.declared.shown.LogSize.{LogSize}
use Rattle.mc_model.specs.declared.shown.ShownState.{ShownState}
use Rattle.mc_model.specs.declared.shown.WorkerState.{WorkerState}
use Rattle.lists.specs.Lists.{BeginsWith}
use Rattle.mc_model.specs.Lawful.{IsWorker, LeadOn, ShownEvent, announces, looks, proposes, reads, stops}
use Rattle.mc_model.specs.Shown.{new_log, new_worker}
use Rattle.uc_places.specs.declared.view.Call.{Call}
use Rattle.uc_places.specs.declared.view.Kind.{Kind}
use Rattle.uc_places.specs.declared.view.Kind.TheVariants.{Spare, Seated, Spent}
use Rattle.uc_places.specs.declared.view.Part.{Part}
use Rattle.uc_places.specs.declared.view.View.{View}
use Rattle.uc_places.specs.Run.{HasMade, all_parts, witnessed_by}
use Rattle.uc_places.specs.Words.{Shows}

-- the worker whose event it is
abbrev pub taker : ShownEvent → ℕ
taker (announces number) = number
taker (reads number) = number
taker (looks number) = number
taker (proposes number) = number
taker (stops number) = number

-- none of the events is this worker's
abbrev pub AreOfOthers : ℕ → List ShownEvent → Type 0
AreOfOthers number [] = Unit {0}
AreOfOthers number (event ∷ events) = (taker event ≢ number) × AreOfOthers number events

-- events of other workers than this one lead from the one state to the other
abbrev pub OthersLead : LogSize → ℕ → ShownState → ShownState → Type 0
OthersLead size number old new =
    (events : List ShownEvent) × AreOfOthers number events × LeadOn size old events new

-- a log can have this many workers and places
abbrev pub IsSmall : LogSize → Type 0
IsSmall size = (0 < size.workers) × (size.workers ≤ WORKERS) × (size.places ≤ MAX_PLACES)

-- none of these is this worker's
abbrev pub AreApart : ℕ → List Part → Type 0
AreApart number [] = Unit {0}
AreApart number (part ∷ parts) = (part.worker ≢ number) × AreApart number parts

-- one of these is this worker's
abbrev pub IsOneOf : ℕ → List Part → Type 0
IsOneOf number [] = ⊥
IsOneOf number (part ∷ parts) = (part.worker ≡ number) ⊎ IsOneOf number parts

-- a seat with this view, of this kind, is this worker's: the spare seat, if it stands for the
-- worker's; or one that shows the worker
abbrev pub IsSeatFor : ℕ → View → Kind → Type 0
IsSeatFor number view Spare = view.worker ≤ number
IsSeatFor number view Seated = IsOneOf number (all_parts view)
IsSeatFor number view Spent = ⊥

-- the seat `id` among these is this worker's
pub record HasSeat (views : List View) (id number : ℕ) : Type 0 where
  pub view : View
  pub there : get_elem? views id ≡ some view
  pub shows : IsSeatFor number view view.kind

-- what is true of the view of the table's seat `id`, by the kind of that seat; `owner` gives each
-- worker's seat
module _ (size : LogSize) (log : ShownState) (run : List ShownEvent) (owner : ℕ → ℕ) (id : ℕ) where
  -- it is the seat of this worker, and shows it; only other workers have taken events since the
  -- worker's last one; and the worker's events in the run are these calls
  abbrev pub Plays : ℕ → WorkerState → ShownState → List Call → Type 0
  Plays number state last calls = (owner number ≡ id) × IsWorker log number state
      × OthersLead size number last log × HasMade run number calls

  -- the same of several workers, no two of which are the same
  abbrev pub PlaysAll : List Part → Type 0
  PlaysAll [] = Unit {0}
  PlaysAll (part ∷ parts) = (part.size ≡ size)
      × Plays part.worker part.state part.last part.calls
      × AreApart part.worker parts × PlaysAll parts

  abbrev pub Knows : View → Kind → Type 0
  -- it is the seat of all workers from its own on, which have taken no event
  Knows view Spare = (number : ℕ) → view.worker ≤ number → number < size.workers →
      Plays number new_worker (new_log size) []
  -- it is the seat of its worker, and of those whose seats were joined into it; the log begins with
  -- the list that was shared with it, and the run with the events that it has witnessed
  Knows view Seated = PlaysAll (all_parts view) × BeginsWith log.decided view.told
      × BeginsWith run (witnessed_by view)
  -- nothing
  Knows view Spent = Unit {0}

  abbrev pub Fits : View → Type 0
  Fits view = (view.kind ≢ Spent → view.size ≡ size) × Knows view view.kind

-- the invariant: one run of the log leads to the state that the words and all seats show
pub record IsKept (size : LogSize) (table : State Unit View) : Type 0 where
  pub small : IsSmall size
  pub run : List ShownEvent
  pub log : ShownState
  pub leads : LeadOn size (new_log size) run log
  pub shows : Shows size table.words log
  pub owner : ℕ → ℕ
  pub fits : (id : ℕ) (view : View) → get_elem? table.views id ≡ some view →
      Fits size log run owner id view
  pub seated : (number : ℕ) → number < size.workers → HasSeat table.views (owner number) number
