-- What the workers have replayed is no more than they have learned, so their run is one of the core.
use Rattle.std.proofs.Common.{◌≡◌, ◌≢◌, ℕ, zero, suc, ◌<◌, ◌≤◌, List, [], ◌∷◌, length, length-set, map, slice_get, Some, refl, sym, ap, subst, ◌∙◌, arith}
use Rattle.std.proofs.lemmas.List.{length-replicate}
use Rattle.std.proofs.lemmas.Option.{none-some, same_Some, slice_get_within}
use Rattle.mc_model.specs.declared.shown.LogSize.{LogSize}
use Rattle.mc_model.specs.declared.shown.Phase.TheVariants.{Stopped}
use Rattle.mc_model.specs.declared.shown.ShownState.{ShownState}
use Rattle.mc_model.specs.declared.shown.WorkerState.{WorkerState}
use Rattle.mc_model.specs.Lawful.{IsWorker, LeadOn, ShownEvent, Step, announces, looks, proposes, reads, stops}
use Rattle.mc_model.specs.Shown.{new_log, new_worker}
use Rattle.uc_places.specs.declared.view.Part.{Part}
use Rattle.uc_laws.specs.CoreRun.{CanReplay, RunsAsCore}
use Rattle.uc_refinement.specs.Refinement.{TheyRunTheCore}
use Rattle.uc_worker.specs.AllWorkers.{own_part}
use Rattle.uc_worker.specs.Worker.{history_of, seat_of}

-- an element of a list of results is one of them
mapped : {X Y : Type 0} (f : X → Y) (xs : List X) (k : ℕ) (y : Y) → slice_get (map f xs) k ≡ Some y → (x : X) × (slice_get xs k ≡ Some x) × (f x ≡ y)
mapped f [] k y at = absurd (none-some y at)
mapped f (x ∷ xs) zero y at = (x, refl, same_Some _ _ at)
mapped f (x ∷ xs) (suc k) y at = mapped f xs k y at

-- a log keeps its workers
step_long : (size : LogSize) (old : ShownState) (event : ShownEvent) (new : ShownState) → Step size old event new →
    length new.workers ≡ length old.workers
step_long size old (announces number) new step = ap (λ (s : ShownState). length s.workers) step.4 ∙ length-set old.workers number _
step_long size old (reads number) new step = ap (λ (s : ShownState). length s.workers) step.4 ∙ length-set old.workers number _
step_long size old (looks number) new step = ap (λ (s : ShownState). length s.workers) step.5 ∙ length-set old.workers number _
step_long size old (proposes number) new step = ap (λ (s : ShownState). length s.workers) step.3 ∙ length-set old.workers number _
step_long size old (stops number) new step = ap (λ (s : ShownState). length s.workers) step.3 ∙ length-set old.workers number _

leads_long : (size : LogSize) (run : List ShownEvent) (old new : ShownState) → LeadOn size old run new → length new.workers ≡ length old.workers
leads_long size [] old new lead = ap (λ (s : ShownState). length s.workers) lead
leads_long size (event ∷ run) old new lead = leads_long size run lead.0 new lead.2 ∙ step_long size old event lead.0 lead.1

pub they_run_the_core : RunsAsCore → TheyRunTheCore
they_run_the_core law settings tables workers one said replayed sized every counts known =
    law settings tables one.2.run one.1 said replayed
    (subst (λ (z : LogSize). LeadOn z (new_log z) one.2.run one.1) (sym sized) one.2.lead) known can
  where
    can : CanReplay one.1 replayed
    can number v at =
        let wide = leads_long one.0 one.2.run (new_log one.0) one.1 one.2.lead in
        let many = length-replicate one.0.workers new_worker in
        let within = slice_get_within one.1.workers number v at in
        let inside : number < one.0.workers = omega (arith, wide, many, within) in
        let there = every number inside in
        let found = mapped own_part workers there.0 there.1 there.2 in let w = found.0 in
        let is : (own_part w).worker ≡ number = ap (λ (p : Part). p.worker) found.2 ∙ there.3 in
        let shown = one.2.shown there.0 (own_part w) (there.2 ∙ ap (λ (p : Part). Some p) (sym found.2)) in
        let here : IsWorker one.1 number (own_part w).state =
        subst (λ (n : ℕ). IsWorker one.1 n (own_part w).state) is shown in
        let same : (own_part w).state ≡ v = same_Some _ _ (sym here ∙ at) in
        let count : replayed (seat_of w).worker ≡ length (history_of w) = counts there.0 w found.1 in
        let mine : replayed number ≡ length (history_of w) = ap replayed (sym is) ∙ count in
        let short : length (history_of w) ≤ length (own_part w).state.learned = w.short in (
          subst (λ (s : WorkerState). s.phase ≢ Stopped) same w.rests.1,
          subst (λ (s : WorkerState). replayed number ≤ length s.learned) same (omega (arith, mine, short)),
        )
