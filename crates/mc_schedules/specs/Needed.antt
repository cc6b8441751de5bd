-- What a worker needs to do for the command that it announced, one event at a time. An
-- announcement, and all events that its worker needs after it, are what a submit stands for; this
-- project's profile.
use Rattle.std.specs.Prelude.{ℕ, ◌+◌, ◌-◌, ◌*◌, ◌&&◌, Bool, not, ltb, is_some, if◌then◌else◌, Option, Some, None}
use Rattle.std.specs.Option.{option_and_then, option_map_or}
use Rattle.mc_model.specs.declared.shown.Phase.{Phase}
use Rattle.mc_model.specs.declared.shown.Phase.TheVariants.{Idle, Pending, Looked, Stopped}
use Rattle.uc_core.specs.Core.{CoreState}
use Rattle.uc_core.specs.Showing.{progress_by}
use Rattle.uc_core.specs.declared.event.Event.{Event}
use Rattle.uc_core.specs.declared.event.Event.TheVariants.{Look, Propose, Read, Replay}
use Rattle.uc_core.specs.declared.machine.Progress.{Progress}

-- the worker has no mark yet, and hasn't learned all places
abbrev pub reads_on : ℕ → Progress → Bool
reads_on places worker = not (is_some worker.mark) && ltb worker.learned places

-- While its command is pending: reads until it has a mark or has learned all places, and then looks
-- and proposals in turn. Once it is idle: replays until it has replayed all that it has learned.
abbrev pub needed_at : ℕ → ℕ → Progress → Phase → Option Event
needed_at places number worker Pending =
    Some (if reads_on places worker then Read number else Look number)
needed_at places number worker Looked = Some (Propose number)
needed_at places number worker Idle =
    if ltb worker.replayed worker.learned then Some (Replay number) else None
needed_at places number worker Stopped = None

-- what the worker with this number needs next, if there is such a worker and it needs anything
abbrev pub needed : CoreState → ℕ → Option Event
needed core number =
    option_and_then (λ (worker : Progress). needed_at core.places number worker worker.phase)
    (progress_by core number)

-- The most events that a worker can need: two for each place that it hasn't learned, one for each
-- that it hasn't replayed, and two that learn none: the read that finds its mark, and a last look,
-- which finds the log full.
abbrev pub most_needed_at : ℕ → Progress → Phase → ℕ
most_needed_at places worker Pending =
    (places - worker.replayed) + 2 * (places - worker.learned)
    + (if is_some worker.mark then 1 else 2)
most_needed_at places worker Looked = (places - worker.replayed) + 2 * (places - worker.learned)
most_needed_at places worker Idle = places - worker.replayed
most_needed_at places worker Stopped = 0

abbrev pub most_needed : CoreState → ℕ → ℕ
most_needed core number =
    option_map_or (λ (worker : Progress). most_needed_at core.places worker worker.phase)
    (progress_by core number) 0
