-- What the events of a run make of a part of the core: by induction from the run's front, one event
-- after another.
use Rattle.std.proofs.Common.{◌≡◌, List, [], ◌∷◌, Option, refl, ap, ◌∙◌}
use Rattle.std.specs.List.{fold}
use Rattle.mc_model.specs.declared.reply.Reply.{Reply}
use Rattle.uc_core.specs.Core.{CoreState}
use Rattle.uc_core.specs.Run.{Given, Runs}
use Rattle.uc_core.specs.Step.{CoreStep}
use Rattle.uc_core.specs.declared.event.Event.{Event}

-- what each event makes of a part of the core, the events of a run make of it one after another
abbrev pub EachMakes : {X : Type 0} → (CoreState → X) → (X → Event → X) → Type 0
EachMakes part make = (old : CoreState) (event : Event) (new : CoreState) (reply : Option Reply) → CoreStep old event new reply → part new ≡ make (part old) event

pub made : {X : Type 0} (part : CoreState → X) (make : X → Event → X) → EachMakes part make →
    (old new : CoreState) (events : List Event) (given : List Given) → Runs old events new given → part new ≡ fold make (part old) events
made part make each old new [] given runs = ap part runs.0
made part make each old new (event ∷ events) given runs =
    made part make each runs.0 new events runs.2 runs.4 ∙ ap (λ it. fold make it events) (each old event runs.0 runs.1 runs.3)

pub nothing_made : {X : Type 0} (it : X) (events : List Event) → fold (λ it event. it) it events ≡ it
nothing_made it [] = refl
nothing_made it (event ∷ events) = nothing_made it events
