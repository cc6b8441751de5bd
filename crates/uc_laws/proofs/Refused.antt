-- Which fault an event meets depends on how many places each worker has replayed, and on no table.
use Rattle.std.proofs.Common.{◌≡◌, ℕ, ltb, length, List, not, Option, None, Some, slice_get, refl, sym, ap, ◌∙◌}
use Rattle.std.proofs.lemmas.Option.{none-some, same_Some}
use Rattle.mc_model.specs.declared.fault.Fault.TheVariants.{BadEvent}
use Rattle.mc_model.specs.declared.shown.WorkerState.{WorkerState}
use Rattle.uc_core.specs.Core.{CoreState, ReplayState, new_core}
use Rattle.uc_core.specs.Headline.{OfEveryRun, StepsAreEnabled}
use Rattle.uc_core.specs.Step.{actor, is_stopped, needs, refusal_by, refusal_of}
use Rattle.uc_core.specs.declared.event.Event.{Event}
use Rattle.uc_core.specs.declared.event.Event.TheVariants.{Announce, Look, Propose, Read, Replay, Stop}
use Rattle.uc_laws.proofs.Echoes.{counted, echoes, open_alike, run_echoes, with_replays}
use Rattle.uc_laws.specs.Over.{OfEveryRunOver}
use Rattle.uc_laws.specs.CoreRun.{core_over}

module _ (core : CoreState) (others : List ReplayState) where
  refused_by : (event : Event) (worker : WorkerState) (one other : ReplayState) → other.replayed ≡ one.replayed →
      refusal_by core event worker one ≡ refusal_by (with_replays core others) event worker other
  refused_by (Announce number tenant command) worker one other same = refl
  refused_by (Read number) worker one other same = refl
  refused_by (Look number) worker one other same = refl
  refused_by (Propose number) worker one other same = refl
  refused_by (Replay number) worker one other same = ap (λ (n : ℕ).
      needs (not (is_stopped worker.phase)) BadEvent (needs (ltb n (length worker.learned)) BadEvent None)) (sym same)
  refused_by (Stop number) worker one other same = refl

  refused_of : (event : Event) (found : Option WorkerState) (one other : Option ReplayState) → counted other ≡ counted one →
      refusal_of core event found one ≡ refusal_of (with_replays core others) event found other
  refused_of event None one other same = refl
  refused_of event (Some worker) None None same = refl
  refused_of event (Some worker) None (Some other) same = absurd (none-some other.replayed (sym same))
  refused_of event (Some worker) (Some one) None same = absurd (none-some one.replayed same)
  refused_of event (Some worker) (Some one) (Some other) same = refused_by event worker one other (same_Some other.replayed one.replayed same)

pub steps_are_enabled : OfEveryRun (λ core given. StepsAreEnabled core) → OfEveryRunOver (λ tables core given. StepsAreEnabled core)
steps_are_enabled law settings tables events core given run event new reply step =
    let it = run_echoes (core_over settings tables) core events given (new_core settings).replays (open_alike settings tables) run in
    let echo = echoes core new event reply it.later it.alike step in
    refused_of core it.later event (slice_get core.shown.workers (actor event)) (slice_get core.replays (actor event)) (slice_get it.later (actor event))
    (it.alike (actor event))
    ∙ law settings events (with_replays core it.later) it.told it.runs event (with_replays new echo.later) echo.told echo.step
