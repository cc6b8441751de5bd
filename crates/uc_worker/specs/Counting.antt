-- How many events of the log a worker takes. An operation is wait-free if each process completes it
-- in a finite number of steps, whatever the speeds of the others (Herlihy, Wait-Free
-- Synchronization, TOPLAS 1991); this bound, by the places that are learned, is this project's own.
use Rattle.std.specs.Prelude.{◌≡◌, ◌⊎◌, ℕ, ◌+◌, ◌*◌, ◌<◌, ◌≤◌, List, length}
use Rattle.uc_places.specs.declared.desk.Desk.{Desk}
use Rattle.uc_places.specs.declared.view.Call.{Call}
use Rattle.uc_places.specs.Calls.{calls_of, desk_size, state_of}
use Rattle.uc_places.specs.OneRun.{CallsLead}

-- What a seat does from one moment to another is a list of calls, each an event of its own worker.
-- At most two of them are for each place that the worker learns in between, and `more` are left.
pub record TakesFew (more : ℕ) (old new : Desk) : Type 0 where
  pub calls : List Call
  pub lead : CallsLead old calls new
  pub few : length calls + 2 * length (state_of old).learned
      ≤ 2 * length (state_of new).learned + more

-- the seat has taken an event from one moment to the other, or has learned all places
abbrev pub LooksOn : Desk → Desk → Type 0
LooksOn old new =
    (length (state_of new).learned ≡ (desk_size new).places)
    ⊎ (length (calls_of old) < length (calls_of new))
