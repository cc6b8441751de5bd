-- A worker's own commands; this project's profile.
use Rattle.std.specs.Prelude.{ℕ}
use Rattle.mc_model.specs.declared.command.Command.{Command}
use Rattle.mc_model.specs.declared.request.Entry.{Entry}
use Rattle.mc_model.specs.Legal.{ticket_of}
use Rattle.uc_worker.specs.Cited.{Sighting}
use Rattle.uc_worker.specs.declared.worker.Worker.{Worker}
use Rattle.uc_worker.specs.Worker.{seat_of, sighting_of}

-- the entry of the worker's command of this number, if it is this command of this tenant
abbrev pub own_entry : Worker → ℕ → ℕ → Command → Entry
own_entry worker number tenant command =
    record { ticket = ticket_of (seat_of worker).worker number; tenant = tenant; command = command }

-- that entry as it is seen in the log's cell
abbrev pub own_sighting : Worker → ℕ → ℕ → Command → Sighting
own_sighting worker number tenant command =
    sighting_of worker.log.now (own_entry worker number tenant command)
