-- How a worker's history follows the tickets that it has learned. The log is that of Herlihy's
-- universal construction (Wait-Free Synchronization, TOPLAS 1991); histories and cells are this
-- project's profile.
use Rattle.std.specs.Prelude.{◌≡◌, ◌≢◌, ℕ, ◌+◌, ◌≤◌, ◌<◌, List, length, take, None, Some, slice_get}
use Rattle.mc_model.specs.declared.id.Ticket.{Ticket}
use Rattle.mc_model.specs.declared.request.Entry.{Entry}
use Rattle.mc_model.specs.declared.shown.ShownState.{ShownState}
use Rattle.mc_model.specs.Legal.{count}
use Rattle.uc_cells.specs.Sighting.{Sighting}
use Rattle.uc_log.specs.declared.log.Log.{Log}
use Rattle.uc_log.specs.Passes.{row_of}
use Rattle.uc_places.specs.declared.view.View.{View}

-- each place of the history has a sighting of the ticket that was learned there, in the log's own
-- cell: so the history's tickets are a prefix of the learned ones
pub record Follows (log : Log) (history : List Sighting) (learned : List Ticket) : Type 0 where
  pub tickets : (place : ℕ) (seen : Sighting) → slice_get history place ≡ Some seen →
      slice_get learned place ≡ Some seen.ticket
  pub rows : (place : ℕ) (seen : Sighting) → slice_get history place ≡ Some seen →
      seen.row ≡ row_of log seen.ticket

-- each place of the history is decided in this state of the log, with the ticket seen there
abbrev pub AreDecided : ShownState → List Sighting → Type 0
AreDecided log history = (place : ℕ) (seen : Sighting) → slice_get history place ≡ Some seen →
    slice_get log.decided place ≡ Some seen.ticket

-- of the commands that the worker has announced, at most one isn't among the places of the history,
-- whose tickets are the first that it learned
abbrev pub LacksAtMostOne : View → List Sighting → Type 0
LacksAtMostOne view history =
    view.state.announced ≤ count view.worker (take (length history) view.state.learned) + 1

-- what was seen in a ticket's cell is a command of one of this many tenants, under that ticket
pub record HoldsCommand (tenants : ℕ) (seen : Sighting) : Type 0 where
  pub some : seen.entry ≢ None
  pub its : (entry : Entry) → seen.entry ≡ Some entry →
      (entry.ticket ≡ seen.ticket) × (entry.tenant < tenants)

-- What a worker of this number knows of its own commands, by what it has put into its cells: each
-- is of one of this many tenants, and where one stands in its history, it was seen there as it was
-- put.
pub record KnowsItsOwn (tenants number : ℕ) (put history : List Sighting) : Type 0 where
  pub command : (at : ℕ) (seen : Sighting) → slice_get put at ≡ Some seen →
      HoldsCommand tenants seen
  pub as_put : (place : ℕ) (seen : Sighting) → slice_get history place ≡ Some seen →
      seen.ticket.worker ≡ number → slice_get put seen.ticket.number ≡ Some seen
