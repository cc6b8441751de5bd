-- A run of the log as a run of the core, the machine of the headline: the same events, of which an
-- announcement also names its tenant and its command, and replays, of which the log shows nothing.
-- The log is that of Herlihy's universal construction (Wait-Free Synchronization, TOPLAS 1991);
-- tenants, and tables to begin with, are this project's profile.
use Rattle.std.specs.Prelude.{◌≡◌, ◌≢◌, ℕ, ◌<◌, ◌≤◌, List, length, replicate, Option, Some, None, filter_map}
use Rattle.mc_model.specs.declared.command.Command.{Command}
use Rattle.mc_model.specs.declared.id.Ticket.{Ticket}
use Rattle.mc_model.specs.declared.request.Entry.{Entry}
use Rattle.mc_model.specs.declared.shown.LogSize.{LogSize}
use Rattle.mc_model.specs.declared.shown.Phase.TheVariants.{Stopped}
use Rattle.mc_model.specs.declared.shown.ShownState.{ShownState}
use Rattle.mc_model.specs.declared.shown.WorkerState.{WorkerState}
use Rattle.mc_model.specs.Lawful.{IsWorker, LeadOn, ShownEvent, announced_by, announces, looks, proposes, reads, stops}
use Rattle.mc_model.specs.Legal.{ticket_of}
use Rattle.mc_model.specs.Settings.{Configuration}
use Rattle.mc_model.specs.Shown.{new_log}
use Rattle.mc_model.specs.State.{TableState}
use Rattle.uc_core.specs.Core.{CoreState, entry_under, new_core}
use Rattle.uc_core.specs.Run.{Given, Runs, replayed_by}
use Rattle.uc_core.specs.declared.event.Event.{Event}
use Rattle.uc_core.specs.declared.event.Event.TheVariants.{Announce, Look, Propose, Read, Replay, Stop}

-- the core before any event, if each worker begins with these tables; they are empty if the log is
-- the first
abbrev pub core_over : Configuration → List TableState → CoreState
core_over settings tables = record (new_core settings) {
  replays = replicate settings.workers (record { replayed = 0; tables = tables });
}

-- the log's event that an event of the core is; a replay is none
abbrev pub log_event : Event → Option ShownEvent
log_event (Announce number tenant command) = Some (announces number)
log_event (Read number) = Some (reads number)
log_event (Look number) = Some (looks number)
log_event (Propose number) = Some (proposes number)
log_event (Replay number) = None
log_event (Stop number) = Some (stops number)

-- the entry of a ticket, if this gives each ticket's tenant and command
abbrev pub entry_by : (Ticket → ℕ × Command) → Ticket → Entry
entry_by said ticket =
    record { ticket = ticket; tenant = (said ticket).0; command = (said ticket).1 }

-- Events of the core lead from its opening to a state that shows this log. Without the replays they
-- are this run of the log. Under each ticket that was announced stands the entry that it has by
-- `said`, and each worker has replayed as many places as `replayed` says.
pub record IsCoreRun (settings : Configuration) (tables : List TableState)
    (run : List ShownEvent) (log : ShownState) (said : Ticket → ℕ × Command)
    (replayed : ℕ → ℕ) : Type 0 where
  pub events : List Event
  pub core : CoreState
  pub given : List Given
  pub runs : Runs (core_over settings tables) events core given
  pub same : filter_map log_event events ≡ run
  pub shown : core.shown ≡ log
  pub entries : (number k : ℕ) → k < announced_by log number →
      entry_under core (ticket_of number k) ≡ Some (entry_by said (ticket_of number k))
  pub replays : (number : ℕ) → number < settings.workers →
      replayed_by core number ≡ replayed number

abbrev pub log_size : Configuration → LogSize
log_size settings = record { workers = settings.workers; places = settings.places }

-- each worker has learned as many places, and hasn't stopped
abbrev pub CanReplay : ShownState → (ℕ → ℕ) → Type 0
CanReplay log replayed = (number : ℕ) (worker : WorkerState) → IsWorker log number worker →
    (worker.phase ≢ Stopped) × (replayed number ≤ length worker.learned)

-- any run of the log is one of the core, whatever was announced under its tickets by known tenants,
-- and however much of what it has learned each worker has replayed
abbrev pub RunsAsCore : Type 0
RunsAsCore = (settings : Configuration) (tables : List TableState) (run : List ShownEvent)
    (log : ShownState) (said : Ticket → ℕ × Command) (replayed : ℕ → ℕ) →
    LeadOn (log_size settings) (new_log (log_size settings)) run log →
    ((ticket : Ticket) → (said ticket).0 < length settings.tenants) → CanReplay log replayed →
    IsCoreRun settings tables run log said replayed
