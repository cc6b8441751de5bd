-- What contracts say of passes. The log is that of Herlihy's universal construction (Wait-Free
-- Synchronization, TOPLAS 1991); passes and cells are this project's profile.
use Rattle.std.specs.Prelude.{◌≡◌, ℕ, List, [], Some, slice_get}
use Rattle.mc_model.specs.declared.command.Command.{Command}
use Rattle.mc_model.specs.declared.id.Ticket.{Ticket}
use Rattle.mc_model.specs.declared.request.Entry.{Entry}
use Rattle.mc_model.specs.declared.shown.LogSize.{LogSize}
use Rattle.mc_model.specs.declared.shown.WorkerState.{WorkerState}
use Rattle.mc_model.specs.declared.shown.Phase.TheVariants as phase
use Rattle.mc_model.specs.Legal.{ticket_of}
use Rattle.uc_cells.specs.Cells.{row_at}
use Rattle.uc_cells.specs.Sighting.{Sighting, sighting}
use Rattle.uc_log.specs.declared.log.Log.{Log}
use Rattle.uc_log.specs.declared.pass.Pass.{Pass}
use Rattle.uc_places.specs.declared.desk.Desk.{Desk}
use Rattle.uc_places.specs.declared.seats.Idle.{Idle}
use Rattle.uc_places.specs.declared.view.View.{View}
use Rattle.uc_places.specs.Calls.{IsSeatOf, known}
use Rattle.uc_places.specs.Told.{new_seat}

-- what the pass's seat knows: the size of the log, its worker's number and state, and the list that
-- was shared with it
abbrev pub seat : Pass → View
seat pass = known pass.desk

abbrev pub desk : Pass → Desk
desk pass = pass.desk

abbrev pub size : Pass → LogSize
size pass = (seat pass).size

abbrev pub worker : Pass → ℕ
worker pass = (seat pass).worker

abbrev pub state : Pass → WorkerState
state pass = (seat pass).state

abbrev pub learned : Pass → List Ticket
learned pass = (state pass).learned

-- what it saw in the cells that it filled, by the numbers of their tickets
abbrev pub own_sightings : Pass → List Sighting
own_sightings pass = pass.sealed.items

-- the ticket of the worker's next command
abbrev pub next_ticket : Pass → Ticket
next_ticket pass = ticket_of (worker pass) (state pass).announced

-- the size of the log, by its settings
abbrev pub size_of : Log → LogSize
size_of log = record { workers = log.settings.workers; places = log.settings.places }

-- the row of the log's cells that has the ticket's cell
abbrev pub row_of : Log → Ticket → ℕ
row_of log ticket = row_at log.cells ticket

-- the pass was opened with the log, and what it put is in the log's cells
abbrev pub IsOf : Log → Pass → Type 0
IsOf log pass =
    IsSeatOf log.places pass.desk × (size pass ≡ size_of log)
    × ((number : ℕ) (seen : Sighting) → slice_get (own_sightings pass) number ≡ Some seen →
    seen.row ≡ row_of log seen.ticket)

-- the pass still belongs to the log, and what it put into the log's cells is unchanged
pub record Keeps (log : Log) (old new : Pass) : Type 0 where
  pub of : IsOf log new
  pub own : own_sightings new ≡ own_sightings old

-- the entry that its next ticket would have with this tenant and command, and a sighting of it
abbrev pub next_entry : Pass → ℕ → Command → Entry
next_entry pass tenant command =
    record { ticket = next_ticket pass; tenant = tenant; command = command }

abbrev pub next_sighting : Log → Pass → ℕ → Command → Sighting
next_sighting log pass tenant command =
    sighting (next_ticket pass) (Some (next_entry pass tenant command))
    (row_of log (next_ticket pass))

-- the unused pass of the worker of this number
abbrev pub IsNew : Log → ℕ → Pass → Type 0
IsNew log number pass = IsOf log pass × (seat pass ≡ new_seat (size_of log) number)

-- what that says to whoever doesn't ask for the number: the pass is of the log, and its worker has
-- done nothing
pub record IsUnusedPass (log : Log) (pass : Pass) : Type 0 where
  pub of : IsOf log pass
  pub idle : (state pass).phase ≡ phase.Idle
  pub new : learned pass ≡ []
  pub unused : (state pass).announced ≡ 0

-- each pass has the seat of its number, and is unused
abbrev pub AreMadeOf : List Pass → List Idle → Type 0
AreMadeOf passes seats = (number : ℕ) (pass : Pass) → slice_get passes number ≡ Some pass →
    (own_sightings pass ≡ []) × (seat : Idle) × (slice_get seats number ≡ Some seat)
    × (pass.desk ≡ seat.desk)
