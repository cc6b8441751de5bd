-- What contracts say of a worker: its seat, cells, history and tables; this project's profile.
use Rattle.std.specs.Option.{unwrap_or}
use Rattle.std.specs.Prelude.{◌≡◌, ◌⊎◌, ℕ, ◌+◌, ◌-◌, ◌<◌, nat_le, if◌then◌else◌, List, length, Option, Some, None, slice_get}
use Rattle.mc_model.specs.declared.command.Command.{Command}
use Rattle.mc_model.specs.declared.command.Command.TheVariants.{Flush}
use Rattle.mc_model.specs.declared.shown.LogSize.{LogSize}
use Rattle.mc_model.specs.declared.shown.Phase.TheVariants.{Pending}
use Rattle.mc_model.specs.declared.request.Entry.{Entry}
use Rattle.mc_model.specs.declared.settings.Limits.{Limits}
use Rattle.mc_model.specs.Legal.{ticket_of}
use Rattle.mc_model.specs.State.{TableState}
use Rattle.uc_cells.specs.Sighting.{Sighting, sighting}
use Rattle.uc_log.specs.declared.log.Log.{Log}
use Rattle.uc_log.specs.declared.pass.Pass.{Pass}
use Rattle.uc_log.specs.Passes.{desk, next_sighting, own_sightings, row_of, seat, state}
use Rattle.uc_places.specs.declared.desk.Desk.{Desk}
use Rattle.uc_places.specs.declared.view.View.{View}
use Rattle.uc_worker.specs.declared.worker.Worker.{Worker}

-- what its seat knows, such as how many commands it has announced and which tickets it has learned
abbrev pub seat_of : Worker → View
seat_of worker = seat worker.pass

-- its seat at the log's words, whose calls are its worker's events
abbrev pub own_desk : Worker → Desk
own_desk worker = desk worker.pass

-- what it has replayed, place by place
abbrev pub history_of : Worker → List Sighting
history_of worker = worker.replica.history

-- what it has put into its own cells, one sighting for each command that it has announced
abbrev pub announced_of : Worker → List Sighting
announced_of worker = own_sightings worker.pass

-- the quotas of the log's tenants
abbrev pub tenants_of : Worker → List Limits
tenants_of worker = worker.log.now.settings.tenants

-- the tables with which its replica was opened
abbrev pub openings_of : Worker → List TableState
openings_of worker = worker.replica.openings

-- its tables now, after what it has replayed
abbrev pub tables_of : Worker → List TableState
tables_of worker = worker.replica.tables

-- the entry of its next ticket with this tenant and command, as it is seen in the log's cell
abbrev pub next_of : Worker → ℕ → Command → Sighting
next_of worker tenant command = next_sighting worker.log.now worker.pass tenant command

-- it has learned all places
abbrev pub IsFull : Worker → Type 0
IsFull worker = length (seat_of worker).state.learned ≡ (seat_of worker).size.places

-- it has replayed all places of its log
abbrev pub HasReplayedAll : Worker → Type 0
HasReplayedAll worker = length (history_of worker) ≡ worker.log.now.settings.places

-- How many places are kept free at the end of a log that another is to follow: one for each worker,
-- since each may announce one more command after the others have filled all places before. A log
-- with fewer places than workers is used up to its last place.
abbrev pub places_kept : LogSize → ℕ
places_kept size = if nat_le size.workers size.places then size.workers else 1

-- Its log is closing: after what it has learned, fewer places are left than are kept free.
abbrev pub IsClosing : Worker → Type 0
IsClosing worker =
    (seat_of worker).size.places
    < length (seat_of worker).state.learned + places_kept (seat_of worker).size

-- it has replayed all that it has learned
abbrev pub IsUpToDate : Worker → Type 0
IsUpToDate worker = length (history_of worker) ≡ length (seat_of worker).state.learned

-- it has learned all places, and either its command isn't among them or it has replayed them all
abbrev pub IsSpent : Worker → Type 0
IsSpent worker = IsFull worker
    × (((seat_of worker).state.phase ≡ Pending) ⊎ IsUpToDate worker)

-- an entry as it is seen in the cell of its ticket
abbrev pub sighting_of : Log → Entry → Sighting
sighting_of log entry = sighting entry.ticket (Some entry) (row_of log entry.ticket)

-- the entry of the command that a pass announced last, or a made-up one if there is none
abbrev pub entry_or : Option Sighting → Entry
entry_or (Some seen) =
    unwrap_or seen.entry (record { ticket = ticket_of 0 0; tenant = 0; command = Flush })
entry_or None = record { ticket = ticket_of 0 0; tenant = 0; command = Flush }

abbrev pub last_entry : Pass → Entry
last_entry pass = entry_or (slice_get (own_sightings pass) ((state pass).announced - 1))
