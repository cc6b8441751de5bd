-- Who can take events: workers that exist, and nobody else. Faults are this project's profile.
use Rattle.std.specs.Prelude.{◌≡◌, Some, None, slice_get}
use Rattle.mc_model.specs.declared.fault.Fault.TheVariants.{BadEvent}
use Rattle.uc_core.specs.Core.{CoreState}
use Rattle.uc_core.specs.Step.{actor, refusal}
use Rattle.uc_core.specs.declared.event.Event.{Event}

-- each event of a worker that doesn't exist is refused as a bad event
abbrev pub OnlyWorkersAct : CoreState → Type 0
OnlyWorkersAct core = (event : Event) →
    slice_get core.shown.workers (actor event) ≡ None → refusal core event ≡ Some BadEvent
