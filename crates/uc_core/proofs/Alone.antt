-- An event changes its own worker alone, and a worker that has stopped takes none, so it stays as
-- it is.
use Rattle.std.proofs.Common.{◌≡◌, ◌≢◌, ℕ, zero, suc, List, [], ◌∷◌, Option, Some, slice_get, ⊎_elim, refl, sym, ap, ◌∙◌}
use Rattle.std.proofs.lemmas.Option.{none-some, same_Some, slice_get_within}
use Rattle.mc_model.specs.declared.reply.Reply.{Reply}
use Rattle.mc_model.specs.declared.shown.Phase.{Phase}
use Rattle.mc_model.specs.declared.shown.Phase.TheVariants.{Idle, Pending, Looked, Stopped}
use Rattle.mc_model.specs.declared.shown.ShownState.{ShownState}
use Rattle.mc_model.specs.declared.shown.WorkerState.{WorkerState}
use Rattle.mc_model.specs.Lawful.{IsWorker}
use Rattle.mc_model.specs.Shown.{stop}
use Rattle.uc_core.specs.Core.{CoreState}
use Rattle.uc_core.specs.Headline.{StepsAreAlone, StopsForGood}
use Rattle.uc_core.specs.Run.{Given, Runs}
use Rattle.uc_core.specs.Step.{CoreStep, actor}
use Rattle.uc_core.specs.declared.event.Event.{Event}
use Rattle.uc_core.specs.declared.event.Event.TheVariants.{Announce, Look, Propose, Read, Replay, Stop}
use Rattle.lists.proofs.Public.{set_elsewhere, set_here}

-- what is shown of a worker, and its replay
abbrev workers_of : ℕ → ShownState → Option WorkerState
workers_of number shown = slice_get shown.workers number

pub steps_are_alone : (core : CoreState) → StepsAreAlone core
steps_are_alone core (Announce number tenant command) new reply other step apart =
    (ap (workers_of other) step.1.4 ∙ set_elsewhere core.shown.workers number other _ apart, ap (λ (it : CoreState). slice_get it.replays other) step.2)
steps_are_alone core (Read number) new reply other step apart =
    (ap (workers_of other) step.0.4 ∙ set_elsewhere core.shown.workers number other _ apart, ap (λ (it : CoreState). slice_get it.replays other) step.1)
steps_are_alone core (Look number) new reply other step apart =
    (ap (workers_of other) step.0.5 ∙ set_elsewhere core.shown.workers number other _ apart, ap (λ (it : CoreState). slice_get it.replays other) step.1)
steps_are_alone core (Propose number) new reply other step apart =
    (ap (workers_of other) step.0.3 ∙ set_elsewhere core.shown.workers number other _ apart, ap (λ (it : CoreState). slice_get it.replays other) step.1)
steps_are_alone core (Stop number) new reply other step apart =
    (ap (workers_of other) step.0.3 ∙ set_elsewhere core.shown.workers number other _ apart, ap (λ (it : CoreState). slice_get it.replays other) step.1)
steps_are_alone core (Replay number) new reply other step apart = (
  ap (λ (it : CoreState). slice_get it.shown.workers other) step.8,
  ap (λ (it : CoreState). slice_get it.replays other) step.8 ∙ set_elsewhere core.replays number other _ apart,
)

-- a phase isn't another
idle_goes_on : (phase : Phase) → phase ≡ Idle → phase ≢ Stopped
idle_goes_on phase is same = cc

pending_goes_on : (phase : Phase) → phase ≡ Pending → phase ≢ Stopped
pending_goes_on phase is same = cc

looked_goes_on : (phase : Phase) → phase ≡ Looked → phase ≢ Stopped
looked_goes_on phase is same = cc

-- the worker of an event hasn't stopped
abbrev Continues : CoreState → Event → Type 0
Continues core event = (worker : WorkerState) × IsWorker core.shown (actor event) worker × (worker.phase ≢ Stopped)

goes_on : (core : CoreState) (event : Event) (new : CoreState) (reply : Option Reply) → CoreStep core event new reply → Continues core event
goes_on core (Announce number tenant command) new reply step = (step.1.0, step.1.1, idle_goes_on step.1.0.phase step.1.2)
goes_on core (Read number) new reply step =
    (step.0.0, step.0.1, ⊎_elim (idle_goes_on step.0.0.phase) (pending_goes_on step.0.0.phase) step.0.2)
goes_on core (Look number) new reply step = (step.0.0, step.0.1, pending_goes_on step.0.0.phase step.0.2)
goes_on core (Propose number) new reply step = (step.0.0, step.0.1, looked_goes_on step.0.0.phase step.0.2)
goes_on core (Replay number) new reply step = (step.0, step.1, step.2)
goes_on core (Stop number) new reply step = (step.0.0, step.0.1, step.0.2)

-- a worker has stopped
abbrev HasStopped : CoreState → ℕ → Type 0
HasStopped core number = (worker : WorkerState) × IsWorker core.shown number worker × (worker.phase ≡ Stopped)

is_not_its : (core : CoreState) (number : ℕ) (event : Event) (new : CoreState) (reply : Option Reply) →
    HasStopped core number → CoreStep core event new reply → actor event ≢ number
is_not_its core number event new reply has step same =
    let on = goes_on core event new reply step in
    let one : on.0 ≡ has.0 = same_Some on.0 has.0 (sym on.1 ∙ ap (slice_get core.shown.workers) same ∙ has.1) in
    on.2 (ap (λ (it : WorkerState). it.phase) one ∙ has.2)

abbrev Stays : CoreState → CoreState → ℕ → List Event → Type 0
Stays old new number events =
    ((k : ℕ) (event : Event) → slice_get events k ≡ Some event → actor event ≢ number)
    × (slice_get new.shown.workers number ≡ slice_get old.shown.workers number) × (slice_get new.replays number ≡ slice_get old.replays number)

no_event : (number : ℕ) → (k : ℕ) (event : Event) → slice_get [] k ≡ Some event → actor event ≢ number
no_event number k event at = absurd (none-some event at)

one_more : (number : ℕ) (first : Event) (events : List Event) → actor first ≢ number →
    ((k : ℕ) (event : Event) → slice_get events k ≡ Some event → actor event ≢ number) →
    (k : ℕ) (event : Event) → slice_get (first ∷ events) k ≡ Some event → actor event ≢ number
one_more number first events apart later zero event at same = apart (ap actor (same_Some first event at) ∙ same)
one_more number first events apart later (suc k) event at same = later k event at same

stays : (old new : CoreState) (number : ℕ) (events : List Event) (given : List Given) → HasStopped old number → Runs old events new given → Stays old new number events
stays old new number [] given has runs = (
  no_event number,
  ap (λ (it : CoreState). slice_get it.shown.workers number) runs.0,
  ap (λ (it : CoreState). slice_get it.replays number) runs.0,
)
stays old new number (first ∷ events) given has runs =
    let apart = is_not_its old number first runs.0 runs.1 has runs.3 in
    let still = steps_are_alone old first runs.0 runs.1 number runs.3 (λ same. apart (sym same)) in
    let later = stays runs.0 new number events runs.2 (has.0, still.0 ∙ has.1, has.2) runs.4 in
    (one_more number first events apart later.0, later.1 ∙ still.0, later.2 ∙ still.1)

pub stops_for_good : (core : CoreState) → StopsForGood core
stops_for_good core number stopped new reply events given step runs =
    let here = ap (workers_of number) step.0.3
    ∙ set_here core.shown.workers number (stop step.0.0) (slice_get_within core.shown.workers number step.0.0 step.0.1) in
    let on = stays stopped new number events given (stop step.0.0, here, refl) runs in
    (on.0, on.1, on.2 ∙ ap (λ (it : CoreState). slice_get it.replays number) step.1)
