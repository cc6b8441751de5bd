-- What the core shows of each worker, by the list of a run's events alone: how often the worker has
-- proposed since its latest announcement, and its whole progress; and under which tickets nothing
-- stands. Announcing and proposing are those of Herlihy's universal construction (Wait-Free
-- Synchronization, TOPLAS 1991); replays, and what is shown, are this project's profile.
use Rattle.std.specs.Prelude.{◌≡◌, ℕ, ◌≤◌, List, length, Some, None}
use Rattle.std.specs.List.{count_by}
use Rattle.mc_model.specs.declared.shown.WorkerState.{WorkerState}
use Rattle.mc_model.specs.Lawful.{IsWorker}
use Rattle.mc_model.specs.Legal.{ticket_of}
use Rattle.mc_model.specs.Settings.{Configuration}
use Rattle.uc_core.specs.Asked.{announcements, is_replay_of, proposals_of}
use Rattle.uc_core.specs.Core.{CoreState, entry_under}
use Rattle.uc_core.specs.Showing.{progress_by}
use Rattle.uc_core.specs.declared.event.Event.{Event}
use Rattle.uc_core.specs.declared.machine.Progress.{Progress}

-- each worker shows as many proposals as it has made since its latest announcement
abbrev pub ProposalsCount : List Event → CoreState → Type 0
ProposalsCount events core = (number : ℕ) (worker : WorkerState) →
    IsWorker core.shown number worker → worker.proposals ≡ proposals_of number events

-- a worker's progress after these events: its announcements, its replays, and its proposals since
-- its latest announcement are those among the events; the rest is as its shown state has it
abbrev pub progress_after : List Event → ℕ → WorkerState → Progress
progress_after events number worker = record {
  phase = worker.phase;
  announced = length (announcements number events);
  learned = length worker.learned;
  replayed = count_by (is_replay_of number) events;
  mark = worker.mark;
  look = worker.look;
  proposals = proposals_of number events;
}

-- each worker's progress is shown so, and that of a worker that doesn't exist isn't shown
pub record ProgressStands (settings : Configuration) (events : List Event)
    (core : CoreState) : Type 0 where
  pub each : (number : ℕ) (worker : WorkerState) → IsWorker core.shown number worker →
      progress_by core number ≡ Some (progress_after events number worker)
  pub others : (number : ℕ) → settings.workers ≤ number → progress_by core number ≡ None

-- nothing stands under a worker's ticket of a number that its announcements haven't reached
abbrev pub UnannouncedHaveNoEntry : List Event → CoreState → Type 0
UnannouncedHaveNoEntry events core = (number k : ℕ) →
    length (announcements number events) ≤ k → entry_under core (ticket_of number k) ≡ None
