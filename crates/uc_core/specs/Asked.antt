-- What the settings and the events of a run say of the core that it leads to, by the list of events
-- alone: how large the core is, what was announced under each ticket, how much each worker has
-- replayed, and how often it has proposed. Announcing and proposing are those of Herlihy's
-- universal construction (Wait-Free Synchronization, TOPLAS 1991); tenants, replays and the counts
-- are this project's profile.
use Rattle.std.specs.Prelude.{◌≡◌, ℕ, ◌+◌, ◌≤◌, ◌==◌, Bool, false, if◌then◌else◌, List, length, Option, Some, None, slice_get}
use Rattle.std.specs.List.{count_by, filter_map, fold}
use Rattle.mc_model.specs.declared.command.Command.{Command}
use Rattle.mc_model.specs.Lawful.{announced_by}
use Rattle.mc_model.specs.Legal.{ticket_of}
use Rattle.mc_model.specs.Settings.{Configuration}
use Rattle.uc_core.specs.Core.{CoreState, entry_under}
use Rattle.uc_core.specs.Run.{Given, IsRun, replayed_by}
use Rattle.uc_core.specs.declared.event.Event.{Event}
use Rattle.uc_core.specs.declared.event.Event.TheVariants.{Announce, Look, Propose, Read, Replay, Stop}

-- what the settings and the events say of a core is true of every run
abbrev pub ByEvents : (Configuration → List Event → CoreState → Type 0) → Type 0
ByEvents Holds =
    (settings : Configuration) (events : List Event) (core : CoreState) (given : List Given) →
    IsRun settings events core given → Holds settings events core

-- the core has the workers, the places and the tenants' quotas of its settings
pub record IsOfSettings (settings : Configuration) (core : CoreState) : Type 0 where
  pub workers : length core.shown.workers ≡ settings.workers
  pub places : core.places ≡ settings.places
  pub tenants : core.openings ≡ settings.tenants

-- the tenant and the command, if the event is an announcement by this worker
abbrev pub announcement_of : ℕ → Event → Option (ℕ × Command)
announcement_of number (Announce worker tenant command) =
    if worker == number then Some (tenant, command) else None
announcement_of number (Read worker) = None
announcement_of number (Look worker) = None
announcement_of number (Propose worker) = None
announcement_of number (Replay worker) = None
announcement_of number (Stop worker) = None

-- a worker's announcements, in their order
abbrev pub announcements : ℕ → List Event → List (ℕ × Command)
announcements number events = filter_map (announcement_of number) events

-- A worker has announced as many commands as the run has announcements of it, and under its ticket
-- number k are the tenant and the command of announcement number k.
pub record AnnouncementsStand (events : List Event) (core : CoreState) : Type 0 where
  pub many : (number : ℕ) → announced_by core.shown number ≡ length (announcements number events)
  pub each : (number k tenant : ℕ) (command : Command) →
      slice_get (announcements number events) k ≡ Some (tenant, command) →
      entry_under core (ticket_of number k)
      ≡ Some (record { ticket = ticket_of number k; tenant = tenant; command = command })

abbrev pub is_replay_of : ℕ → Event → Bool
is_replay_of number (Announce worker tenant command) = false
is_replay_of number (Read worker) = false
is_replay_of number (Look worker) = false
is_replay_of number (Propose worker) = false
is_replay_of number (Replay worker) = worker == number
is_replay_of number (Stop worker) = false

-- a worker has replayed as many places as the run has replays of it
abbrev pub ReplaysCount : List Event → CoreState → Type 0
ReplaysCount events core =
    (number : ℕ) → replayed_by core number ≡ count_by (is_replay_of number) events

-- the number of a worker's proposals since its latest announcement, after one more event
abbrev pub proposals_with : ℕ → ℕ → Event → ℕ
proposals_with number many (Announce worker tenant command) = if worker == number then 0 else many
proposals_with number many (Read worker) = many
proposals_with number many (Look worker) = many
proposals_with number many (Propose worker) = if worker == number then many + 1 else many
proposals_with number many (Replay worker) = many
proposals_with number many (Stop worker) = many

-- the number of a worker's proposals since its latest announcement
abbrev pub proposals_of : ℕ → List Event → ℕ
proposals_of number events = fold (proposals_with number) 0 events

-- whatever the other workers do, a worker makes at most one proposal more than there are workers
-- before it can announce again
abbrev pub FewProposals : Configuration → List Event → Type 0
FewProposals settings events = (number : ℕ) → proposals_of number events ≤ settings.workers + 1
