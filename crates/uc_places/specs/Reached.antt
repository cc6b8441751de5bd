-- What a seat's last state is to the log: a reachable one, in the sense of `Lawful`. That a seat
-- keeps it, as a ghost value, is this project's own.
use Rattle.std.specs.Prelude.{◌≡◌, ℕ, Some, slice_get}
use Rattle.mc_model.specs.declared.id.Ticket.{Ticket}
use Rattle.mc_model.specs.Lawful.{IsReached, IsWorker}
use Rattle.uc_places.specs.declared.view.View.{View}

-- events lead to the state that the seat keeps as its last, in which its worker is as the seat
-- shows it; and what the worker has learned are the first decided places of that state
pub record LastIsReached (view : View) : Type 0 where
  pub reached : ∥ IsReached view.size view.last ∥₁
  pub shown : IsWorker view.last view.worker view.state
  pub decided : (place : ℕ) (ticket : Ticket) → slice_get view.state.learned place ≡ Some ticket →
      slice_get view.last.decided place ≡ Some ticket
