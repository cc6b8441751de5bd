-- What a worker needs is enabled, and it needs nothing only at its end.
use Rattle.std.proofs.Common.{◌≡◌, ◌⊎◌, inl, inr, ℕ, ◌≤◌, Bool, true, false, not, ◌&&◌, length, ltb, is_some, Option, Some, None, IfSome, slice_get, if◌then◌else◌, refl, sym, ap, ap₂, subst, ◌∙◌, arith}
use Rattle.std.proofs.lemmas.Bool.Decides.{nat_tests}
use Rattle.std.proofs.lemmas.Option.{none-some, same_Some}
use Rattle.std.specs.Option.{option_and_then, option_map}
use Rattle.mc_model.specs.declared.fault.Fault.{Fault}
use Rattle.mc_model.specs.declared.fault.Fault.TheVariants.{LogFull}
use Rattle.mc_model.specs.declared.shown.Phase.{Phase}
use Rattle.mc_model.specs.declared.shown.Phase.TheVariants.{Idle, Pending, Looked, Stopped}
use Rattle.mc_model.specs.declared.shown.WorkerState.{WorkerState}
use Rattle.mc_schedules.specs.Needed.{needed, needed_at, reads_on}
use Rattle.uc_core.specs.Core.{CoreState, ReplayState}
use Rattle.uc_core.specs.Showing.{progress_by, progress_of}
use Rattle.uc_core.specs.Step.{actor, refusal, refusal_by, refusal_of}
use Rattle.uc_core.specs.declared.event.Event.{Event}
use Rattle.uc_core.specs.declared.event.Event.TheVariants.{Look, Read, Replay}
use Rattle.uc_core.specs.declared.machine.Progress.{Progress}

-- what may be said of an event that this worker needs, by what the event meets
abbrev IsEnabledOrFull : CoreState → WorkerState → Option Fault → Type 0
IsEnabledOrFull core worker met = (met ≡ None) ⊎ ((met ≡ Some LogFull) × (core.places ≤ length worker.learned))

module _ (core : CoreState) (number : ℕ) (worker : WorkerState) (replay : ReplayState) where
  -- a pending worker reads on where places are left and it has no mark, and looks elsewhere
  pending : worker.phase ≡ Pending → (marked room : Bool) → is_some worker.mark ≡ marked → ltb (length worker.learned) core.places ≡ room →
      IsEnabledOrFull core worker (refusal_by core (if not marked && room then Read number else Look number) worker replay)
  pending is false true mark room = inl (rw (is, room) refl)
  pending is false false mark full = inr (rw (is, full) refl, grind (arith, nat_tests))
  pending is true true mark room = inl (rw (is, room, mark) refl)
  pending is true false mark full = inr (rw (is, full) refl, grind (arith, nat_tests))

  by_phase : (phase : Phase) → worker.phase ≡ phase → (event : Event) → needed_at core.places number (progress_of worker replay) phase ≡ Some event →
      IsEnabledOrFull core worker (refusal_by core event worker replay)
  by_phase Pending is event needs = subst (λ it. IsEnabledOrFull core worker (refusal_by core it worker replay)) (same_Some _ _ needs) (pending is _ _ refl refl)
  by_phase Looked is event needs = subst (λ it. IsEnabledOrFull core worker (refusal_by core it worker replay)) (same_Some _ _ needs) (inl (rw is refl))
  by_phase Idle is event needs = by_rest (ltb replay.replayed (length worker.learned)) refl needs
    where
      by_rest : (more : Bool) → ltb replay.replayed (length worker.learned) ≡ more → (if more then Some (Replay number) else None) ≡ Some event →
          IsEnabledOrFull core worker (refusal_by core event worker replay)
      by_rest true more needs = subst (λ it. IsEnabledOrFull core worker (refusal_by core it worker replay)) (same_Some _ _ needs) (inl (rw (is, more) refl))
      by_rest false more needs = absurd (none-some event needs)
  by_phase Stopped is event needs = absurd (none-some event needs)

-- whose event it is
own_by : (places number : ℕ) (worker : Progress) (phase : Phase) (event : Event) → needed_at places number worker phase ≡ Some event → actor event ≡ number
own_by places number worker Pending event needs = subst (λ it. actor it ≡ number) (same_Some _ _ needs) (pending_own (reads_on places worker))
  where
    pending_own : (reads : Bool) → actor (if reads then Read number else Look number) ≡ number
    pending_own true = refl
    pending_own false = refl
own_by places number worker Looked event needs = subst (λ it. actor it ≡ number) (same_Some _ _ needs) refl
own_by places number worker Idle event needs = replay_own (ltb worker.replayed worker.learned) needs
  where
    replay_own : (more : Bool) → (if more then Some (Replay number) else None) ≡ Some event → actor event ≡ number
    replay_own true needs = subst (λ it. actor it ≡ number) (same_Some _ _ needs) refl
    replay_own false needs = absurd (none-some event needs)
own_by places number worker Stopped event needs = absurd (none-some event needs)

-- what a worker needs next, if there is one
abbrev next_of : ℕ → ℕ → Option Progress → Option Event
next_of places number = option_and_then (λ (it : Progress). needed_at places number it it.phase)

own_of : (places number : ℕ) (worker : Option Progress) (event : Event) → next_of places number worker ≡ Some event → actor event ≡ number
own_of places number None event needs = absurd (none-some event needs)
own_of places number (Some worker) event needs = own_by places number worker worker.phase event needs

pub is_its_own : (core : CoreState) (number : ℕ) (event : Event) → needed core number ≡ Some event → actor event ≡ number
is_its_own core number event needs = own_of core.places number (progress_by core number) event needs

-- the worker's progress, by what the core has of it
abbrev seen_of : Option WorkerState → Option ReplayState → Option Progress
seen_of worker replay = option_and_then (λ (it : WorkerState). option_map (progress_of it) replay) worker

abbrev Meets : CoreState → Option Progress → Option Fault → Type 0
Meets core worker met = (met ≡ None) ⊎ ((met ≡ Some LogFull) × IfSome worker (λ it. core.places ≤ it.learned))

meets_by : (core : CoreState) (number : ℕ) (event : Event) (worker : Option WorkerState) (replay : Option ReplayState) →
    slice_get core.shown.workers number ≡ worker → slice_get core.replays number ≡ replay →
    next_of core.places number (seen_of worker replay) ≡ Some event → Meets core (seen_of worker replay) (refusal core event)
meets_by core number event None replay shown replays needs = absurd (none-some event needs)
meets_by core number event (Some worker) None shown replays needs = absurd (none-some event needs)
meets_by core number event (Some worker) (Some replay) shown replays needs =
    let own = own_by core.places number (progress_of worker replay) worker.phase event needs in
    let is : refusal core event ≡ refusal_by core event worker replay =
    ap₂ (refusal_of core event) (ap (slice_get core.shown.workers) own ∙ shown) (ap (slice_get core.replays) own ∙ replays) in
    subst (IsEnabledOrFull core worker) (sym is) (by_phase core number worker replay worker.phase refl event needs)

pub enabled_or_full : (core : CoreState) (number : ℕ) (event : Event) → needed core number ≡ Some event → Meets core (progress_by core number) (refusal core event)
enabled_or_full core number event needs = meets_by core number event (slice_get core.shown.workers number) (slice_get core.replays number) refl refl needs

-- a worker at its end
abbrev IsAtItsEnd : Progress → Type 0
IsAtItsEnd worker = (worker.phase ≡ Stopped) ⊎ ((worker.phase ≡ Idle) × (worker.learned ≤ worker.replayed))

nothing_by : (places number : ℕ) (worker : Progress) (phase : Phase) → worker.phase ≡ phase → needed_at places number worker phase ≡ None → IsAtItsEnd worker
nothing_by places number worker Pending is needs = absurd (none-some _ (sym needs))
nothing_by places number worker Looked is needs = absurd (none-some _ (sym needs))
nothing_by places number worker Idle is needs = nothing_left (ltb worker.replayed worker.learned) refl needs
  where
    nothing_left : (more : Bool) → ltb worker.replayed worker.learned ≡ more → (if more then Some (Replay number) else None) ≡ None → IsAtItsEnd worker
    nothing_left true more needs = absurd (none-some _ (sym needs))
    nothing_left false none needs = inr (is, grind (arith, nat_tests))
nothing_by places number worker Stopped is needs = inl is

nothing_of : (places number : ℕ) (worker : Option Progress) → next_of places number worker ≡ None → IfSome worker IsAtItsEnd
nothing_of places number None needs = tt
nothing_of places number (Some worker) needs = nothing_by places number worker worker.phase refl needs

pub nothing_is_left : (core : CoreState) (number : ℕ) → needed core number ≡ None → IfSome (progress_by core number) IsAtItsEnd
nothing_is_left core number needs = nothing_of core.places number (progress_by core number) needs
