-- What a seat knows of its own worker whatever the others do: the part of the invariant of
-- reachable states (`WorkerLaw` and `LogLaw` of the shown log) that speaks of this worker and its
-- list alone. In Herlihy's universal construction (Wait-Free Synchronization, TOPLAS 1991) each
-- process threads its commands onto the list one after another; that this list has an end is this
-- project's profile.
use Rattle.std.specs.Prelude.{◌≡◌, ℕ, ◌+◌, ◌<◌, ◌≤◌, length, slice_get, Some}
use Rattle.mc_model.specs.declared.id.Ticket.{Ticket}
use Rattle.mc_model.specs.declared.shown.LogSize.{LogSize}
use Rattle.mc_model.specs.declared.shown.Phase.TheVariants.{Idle, Pending, Looked}
use Rattle.mc_model.specs.declared.shown.WorkerState.{WorkerState}
use Rattle.mc_model.specs.Legal.{IsLegal, count}

-- what the worker of this number has learned is a legal list of tickets of this log, no longer than
-- the log; its own tickets there are those of all commands that it has announced, but for a pending
-- one
pub record SeatLaw (size : LogSize) (number : ℕ) (worker : WorkerState) : Type 0 where
  pub legal : IsLegal worker.learned
  pub few : length worker.learned ≤ size.places
  pub inside : (place : ℕ) (ticket : Ticket) → slice_get worker.learned place ≡ Some ticket →
      (ticket.worker < size.workers) × (ticket.number < size.places)
  pub own : (place : ℕ) (ticket : Ticket) → slice_get worker.learned place ≡ Some ticket →
      ticket.worker ≡ number → ticket.number < worker.announced
  pub idle : worker.phase ≡ Idle → count number worker.learned ≡ worker.announced
  pub pending : worker.phase ≡ Pending → count number worker.learned + 1 ≡ worker.announced
  pub looked : worker.phase ≡ Looked → count number worker.learned + 1 ≡ worker.announced
