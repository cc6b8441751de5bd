-- What the core keeps of a worker: what is shown of it, and what is true of it at all times: the
-- law of this project's own data structure.
use Rattle.std.specs.Prelude.{◌≡◌, ◌==◌, ◌&&◌, Bool, ℕ, ◌+◌, ◌<◌, ◌≤◌, List, [], length, take, Some, slice_get}
use Rattle.std.specs.Global.{Vec}
use Rattle.mc_model.specs.declared.id.Ticket.{Ticket}
use Rattle.mc_model.specs.declared.request.Entry.{Entry}
use Rattle.mc_model.specs.declared.settings.Limits.{Limits}
use Rattle.mc_model.specs.declared.shown.Phase.TheVariants.{Idle, Looked}
use Rattle.mc_model.specs.declared.shown.WorkerState.{WorkerState}
use Rattle.mc_model.specs.Legal.{count}
use Rattle.mc_model.specs.Replay.{empty_tables}
use Rattle.mc_model.specs.Shown.{new_worker}
use Rattle.mc_model.specs.State.{TableState}
use Rattle.uc_core.specs.Core.{ReplayState}
use Rattle.uc_core.specs.declared.worker.Worker.{Worker}

-- what is shown of a worker if these places are decided
abbrev pub shown_worker : List Ticket → Worker → WorkerState
shown_worker decided worker = record {
  phase = worker.phase;
  announced = worker.announced;
  learned = take worker.learned decided;
  mark = worker.mark;
  look = worker.look;
  proposals = worker.proposals;
}

abbrev pub replay_of : Worker → ReplayState
replay_of worker = record { replayed = worker.replayed; tables = worker.tables.items }

-- the ticket is the one that the worker with this number announced last, if it has announced this
-- many
abbrev pub is_latest_of : ℕ → ℕ → Ticket → Bool
is_latest_of number announced ticket = ticket.worker == number && ticket.number + 1 == announced

-- these are the numbers of tickets of each worker in the list, indexed by worker number
abbrev pub AreCounts : List Ticket → List ℕ → Type 0
AreCounts tickets counts =
    (number many : ℕ) → slice_get counts number ≡ Some many → many ≡ count number tickets

-- In a log with these decided places: what a worker has learned is decided, and it counts the
-- tickets of each worker there; one that has looked has a place left; it has announced at most one
-- command more than it has learned places, and proposed at most once for each; and each of its
-- tables has had at most as many changes as it has replayed places.
pub record IsInOrder (workers places : ℕ) (decided : List Ticket) (worker : Worker) : Type 0 where
  pub learned : worker.learned ≤ length decided
  pub announced : worker.announced ≤ worker.learned + 1
  pub idle : worker.phase ≡ Idle → worker.announced ≤ worker.learned
  pub looked : worker.phase ≡ Looked → worker.learned < places
  pub proposals : worker.proposals ≤ worker.learned
  pub counted : length worker.counts.items ≡ workers
  pub counts : AreCounts (take worker.learned decided) worker.counts.items
  pub uniques : (tenant : ℕ) (state : TableState) →
      slice_get worker.tables.items tenant ≡ Some state → state.last_unique ≤ worker.replayed

-- a worker before any event, which is in order whatever the log
pub record IsFresh (workers : ℕ) (openings : List Limits) (worker : Worker) : Type 0 where
  pub shown : (decided : List Ticket) → shown_worker decided worker ≡ new_worker
  pub replay : replay_of worker ≡ record { replayed = 0; tables = empty_tables openings }
  pub order : (places : ℕ) (decided : List Ticket) → IsInOrder workers places decided worker

abbrev pub AreFresh : ℕ → List Limits → List Worker → Type 0
AreFresh many openings workers = (number : ℕ) (worker : Worker) →
    slice_get workers number ≡ Some worker → IsFresh many openings worker

-- nothing is announced
abbrev pub AreEmpty : List (Vec Entry) → Type 0
AreEmpty entries = (number : ℕ) (announced : Vec Entry) →
    slice_get entries number ≡ Some announced → announced.items ≡ []
