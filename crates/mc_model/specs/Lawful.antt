-- The events of the log as transitions from one shown state to the next, and the reachable states.
-- An announcement counts one more command of its worker; reading and looking tell the worker what
-- stands at its next place, and how many commands the worker has announced whose turn it is there;
-- a proposal decides that place, unless it is decided (Herlihy, Wait-Free Synchronization, TOPLAS
-- 1991: announce, consensus, round-robin helping). Which operations on words these are is not said
-- here.
use Rattle.std.specs.Prelude.{◌≡◌, ◌≢◌, ◌⊎◌, ℕ, ◌%◌, ◌<◌, List, [], ◌∷◌, ◌++◌, length, slice_get, slice_set, Option, Some, None}
use Rattle.std.specs.Option.{option_map_or}
use Rattle.mc_model.specs.declared.id.Ticket.{Ticket}
use Rattle.mc_model.specs.declared.shown.LogSize.{LogSize}
use Rattle.mc_model.specs.declared.shown.Phase.TheVariants.{Idle, Pending, Looked, Stopped}
use Rattle.mc_model.specs.declared.shown.ShownState.{ShownState}
use Rattle.mc_model.specs.declared.shown.WorkerState.{WorkerState}
use Rattle.mc_model.specs.Shown.{announce, look, new_log, propose, proposal, read, stop}

-- an event of a worker, by the worker's number
pub data ShownEvent : Type 0 where
  announces : ℕ → ShownEvent
  reads : ℕ → ShownEvent
  looks : ℕ → ShownEvent
  proposes : ℕ → ShownEvent
  stops : ℕ → ShownEvent

-- there is a worker with this number, and this is its shown state
abbrev pub IsWorker : ShownState → ℕ → WorkerState → Type 0
IsWorker state number worker = slice_get state.workers number ≡ Some worker

-- the state with another record for one worker
abbrev pub with_worker : ShownState → ℕ → WorkerState → ShownState
with_worker state number worker = record state { workers = slice_set state.workers number worker }

-- the number of commands that a worker has announced
abbrev pub announced_by : ShownState → ℕ → ℕ
announced_by state number =
    option_map_or (λ (worker : WorkerState). worker.announced) (slice_get state.workers number) 0

-- what stands at the worker's next place, and the list of decided places once that place is decided
abbrev pub next : ShownState → WorkerState → Option Ticket
next state worker = slice_get state.decided (length worker.learned)

abbrev pub decided_with : Ticket → List Ticket → Option Ticket → List Ticket
decided_with proposed decided (Some ticket) = decided
decided_with proposed decided None = decided ++ proposed ∷ []

-- the worker whose turn it is at this worker's next place
abbrev pub turn : LogSize → WorkerState → ℕ
turn size worker = length worker.learned % size.workers

-- the worker has places left to learn
abbrev pub HasRoom : LogSize → WorkerState → Type 0
HasRoom size worker = length worker.learned < size.places

-- an event leads from one state to the next: its conditions in their order, and then the state that
-- it makes
abbrev pub Step : LogSize → ShownState → ShownEvent → ShownState → Type 0
Step size old (announces number) new = (worker : WorkerState) × IsWorker old number worker
    × (worker.phase ≡ Idle) × HasRoom size worker
    × (new ≡ with_worker old number (announce worker))
Step size old (reads number) new = (worker : WorkerState) × IsWorker old number worker
    × ((worker.phase ≡ Idle) ⊎ (worker.phase ≡ Pending)) × HasRoom size worker
    × (new ≡ with_worker old number (read number (next old worker) worker))
Step size old (looks number) new =
    (worker : WorkerState) × IsWorker old number worker
    × (worker.phase ≡ Pending) × HasRoom size worker × (worker.mark ≢ None)
    × (new ≡ with_worker old number
    (look (turn size worker) (announced_by old (turn size worker)) worker))
Step size old (proposes number) new = (worker : WorkerState) × IsWorker old number worker
    × (worker.phase ≡ Looked)
    × (new ≡ record {
      decided = decided_with (proposal number worker) old.decided (next old worker);
      workers = slice_set old.workers number (propose number (next old worker) worker);
    })
Step size old (stops number) new = (worker : WorkerState) × IsWorker old number worker
    × (worker.phase ≢ Stopped)
    × (new ≡ with_worker old number (stop worker))

-- events lead from the opening to a state; the latest comes first
abbrev pub Leads : LogSize → List ShownEvent → ShownState → Type 0
Leads size [] state = state ≡ new_log size
Leads size (event ∷ events) state =
    (before : ShownState) × Leads size events before × Step size before event state

-- the state is reachable: some events lead to it from the opening
abbrev pub IsReached : LogSize → ShownState → Type 0
IsReached size state = (events : List ShownEvent) × Leads size events state

-- events, in their order, lead from one state to another
abbrev pub LeadOn : LogSize → ShownState → List ShownEvent → ShownState → Type 0
LeadOn size old [] new = new ≡ old
LeadOn size old (event ∷ events) new =
    (next : ShownState) × Step size old event next × LeadOn size next events new
