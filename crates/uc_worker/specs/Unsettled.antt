-- Commands that a worker has announced and not replayed. Such a command stands in the log, or waits
-- for a place there; its worker announces no other before it has replayed it. Herlihy's universal
-- construction (Wait-Free Synchronization, TOPLAS 1991) has no name for it, since its operations
-- need no memory: this project's own.
use Rattle.std.specs.Prelude.{◌≡◌, ◌≢◌, ◌⊎◌, ℕ, ◌<◌, Some, slice_get}
use Rattle.mc_model.specs.declared.id.Ticket.{Ticket}
use Rattle.uc_cells.specs.Sighting.{Sighting}
use Rattle.uc_log.specs.Passes.{next_ticket}
use Rattle.uc_worker.specs.declared.worker.Worker.{Worker}
use Rattle.uc_worker.specs.Worker.{history_of, seat_of}

-- it is the ticket of a command that the worker has announced, and isn't in its history
pub record IsUnsettled (worker : Worker) (ticket : Ticket) : Type 0 where
  pub own : ticket.worker ≡ (seat_of worker).worker
  pub announced : ticket.number < (seat_of worker).state.announced
  pub absent : (place : ℕ) (seen : Sighting) → slice_get (history_of worker) place ≡ Some seen →
      seen.ticket ≢ ticket

-- each command that the worker has announced is in its history
abbrev pub HasSettled : Worker → Type 0
HasSettled worker = (ticket : Ticket) → IsUnsettled worker ticket → ⊥

-- whatever is unsettled afterwards was so before, or is the ticket that came next then
abbrev pub UnsettlesOnlyNext : Worker → Worker → Type 0
UnsettlesOnlyNext old new = (ticket : Ticket) → IsUnsettled new ticket →
    (ticket ≡ next_ticket old.pass) ⊎ IsUnsettled old ticket
