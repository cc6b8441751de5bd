-- Whoever decides a place learns it, so somebody always knows all places that are decided.
use Rattle.std.proofs.Common.{◌≡◌, ℕ, zero, suc, ◌<◌, ◌≤◌, ◌⊎◌, List, [], ◌∷◌, All, Option, Some, None, length, slice_get, slice_set, inl, inr, refl, subst, sym, ap, ◌∙◌, arith, length-append, le_refl}
use Rattle.std.proofs.Math.Decide.{dec_le}
use Rattle.std.proofs.lemmas.Option.{get_or_from_slice_get, none-some, same_Some, slice_get_within}
use Rattle.lists.proofs.Public.{begins_longer, beyond, set_elsewhere, set_here}
use Rattle.mc_model.specs.declared.id.Ticket.{Ticket}
use Rattle.mc_model.specs.declared.shown.LogSize.{LogSize}
use Rattle.mc_model.specs.declared.shown.ShownState.{ShownState}
use Rattle.mc_model.specs.declared.shown.WorkerState.{WorkerState}
use Rattle.mc_model.specs.Lawful.{IsWorker, LeadOn, ShownEvent, Step, announces, decided_with, looks, next, proposes, reads, stops, with_worker}
use Rattle.mc_model.specs.Shown.{new_log, proposal, propose, read}
use Rattle.uc_log.specs.declared.log.Log.{Log}
use Rattle.uc_worker.specs.declared.worker.Worker.{Worker}
use Rattle.uc_refinement.specs.Refinement.{AreAllOf, NothingIsDecidedBehindAll}
use Rattle.uc_worker.specs.AllWorkers.{AreOnOneRun, own_part}
use Rattle.uc_worker.specs.TurningOver.{IsUpToDateAt}
use Rattle.uc_refinement.proofs.PartsOfOneRun.{lawful, shown_at, sized, some}

-- a worker has learned all places that are decided, or none is
abbrev SomebodyKnowsAll : ShownState → Type 0
SomebodyKnowsAll state = (length state.decided ≡ 0)
    ⊎ ((number : ℕ) × (worker : WorkerState) × IsWorker state number worker × (length state.decided ≤ length worker.learned))

nothing_there : {X : Type 0} (list : List X) (place : ℕ) → slice_get list place ≡ None → length list ≤ place
nothing_there [] place at = omega arith
nothing_there (x ∷ list) zero at = absurd (none-some x (sym at))
nothing_there (x ∷ list) (suc place) at = let rest = nothing_there list place at in omega arith

-- a worker that has learned more takes the place of one that has learned less
known_with : (state : ShownState) (number : ℕ) (old new : WorkerState) → IsWorker state number old → length old.learned ≤ length new.learned →
    SomebodyKnowsAll state → SomebodyKnowsAll (with_worker state number new)
known_with state number old new at more (inl none) = inl none
known_with state number old new at more (inr (other, knows, there, all)) = by_order (dec_le other number) (dec_le number other)
  where
    by_order : Dec (other ≤ number) → Dec (number ≤ other) → SomebodyKnowsAll (with_worker state number new)
    by_order (yes below) (yes above) =
        let here : other ≡ number = omega (arith, below, above) in
        let same : old ≡ knows = same_Some old knows (sym at ∙ (ap (λ (n : ℕ). slice_get state.workers n) (sym here) ∙ there)) in
        inr (
          number,
          new,
          set_here state.workers number new (slice_get_within state.workers number old at),
          omega (arith, all, more, ap (λ (w : WorkerState). length w.learned) same),
        )
    by_order (no apart) above = inr (other, knows, set_elsewhere state.workers number other new (λ same. apart (omega (arith, same))) ∙ there, all)
    by_order (yes below) (no apart) = inr (other, knows, set_elsewhere state.workers number other new (λ same. apart (omega (arith, same))) ∙ there, all)

-- who reads, or learns by a proposal what stood there, has learned more
learned_by_reading : (number : ℕ) (found : Option Ticket) (worker : WorkerState) → length worker.learned ≤ length (read number found worker).learned
learned_by_reading number None worker = le_refl (length worker.learned)
learned_by_reading number (Some ticket) worker = omega (arith, length-append worker.learned (ticket ∷ []))

known_proposed : (state : ShownState) (number : ℕ) (worker : WorkerState) (found : Option Ticket) → IsWorker state number worker →
    next state worker ≡ found → SomebodyKnowsAll state →
    SomebodyKnowsAll (record { decided = decided_with (proposal number worker) state.decided found; workers = slice_set state.workers number (propose number found worker) })
known_proposed state number worker (Some ticket) at there known =
    known_with state number worker (propose number (Some ticket) worker) at (omega (arith, length-append worker.learned (ticket ∷ []))) known
known_proposed state number worker None at empty known =
    let mine = propose number None worker in
    let few = nothing_there state.decided (length worker.learned) empty in
    inr (
      number,
      mine,
      set_here state.workers number mine (slice_get_within state.workers number worker at),
      omega (arith, few, length-append state.decided (proposal number worker ∷ []), length-append worker.learned (proposal number worker ∷ [])),
    )

known_after : (size : LogSize) (old new : ShownState) (event : ShownEvent) → Step size old event new → SomebodyKnowsAll old → SomebodyKnowsAll new
known_after size old new (announces number) step known =
    subst SomebodyKnowsAll (sym step.4) (known_with old number step.0 _ step.1 (le_refl (length step.0.learned)) known)
known_after size old new (reads number) step known =
    subst SomebodyKnowsAll (sym step.4) (known_with old number step.0 _ step.1 (learned_by_reading number (next old step.0) step.0) known)
known_after size old new (looks number) step known =
    subst SomebodyKnowsAll (sym step.5) (known_with old number step.0 _ step.1 (le_refl (length step.0.learned)) known)
known_after size old new (proposes number) step known =
    subst SomebodyKnowsAll (sym step.3) (known_proposed old number step.0 (next old step.0) step.1 refl known)
known_after size old new (stops number) step known =
    subst SomebodyKnowsAll (sym step.3) (known_with old number step.0 _ step.1 (le_refl (length step.0.learned)) known)

known_on : (size : LogSize) (old new : ShownState) (events : List ShownEvent) → LeadOn size old events new → SomebodyKnowsAll old → SomebodyKnowsAll new
known_on size old new [] same known = subst SomebodyKnowsAll (sym same) known
known_on size old new (event ∷ events) run known =
    known_on size run.0 new events run.2 (known_after size old run.0 event run.1 known)

-- where each worker has learned at most this many places, no more are decided
few_decided : (size : LogSize) (events : List ShownEvent) (log : ShownState) (places : ℕ) → LeadOn size (new_log size) events log →
    ((number : ℕ) (worker : WorkerState) → IsWorker log number worker → length worker.learned ≤ places) → length log.decided ≤ places
few_decided size events log places run few = by_known (known_on size (new_log size) log events run (inl refl))
  where
    by_known : SomebodyKnowsAll log → length log.decided ≤ places
    by_known (inl none) = omega (arith, none)
    by_known (inr (number, worker, at, all)) = let least = few number worker at in omega arith

module _ (log : Log) (workers : List Worker) (one : AreOnOneRun workers) (places : ℕ) (all : AreAllOf log workers) (done : All (IsUpToDateAt places) workers) where
  -- each has learned as many
  learned_at : (place : ℕ) (worker : Worker) → slice_get workers place ≡ Some worker → length (own_part worker).state.learned ≡ places
  learned_at place worker at =
      let is : IsUpToDateAt places worker = subst (IsUpToDateAt places) (get_or_from_slice_get workers place worker worker at) (done place worker (slice_get_within workers place worker at)) in
      omega (arith, is.0, is.1)

  by_worker : (number : ℕ) (state : WorkerState) → IsWorker one.1 number state → (found : Option Worker) → slice_get workers number ≡ found → number < length workers →
      length state.learned ≤ places
  by_worker number state there None is inside = absurd (let out = beyond workers number is in omega (arith, out, inside))
  by_worker number state there (Some worker) is inside =
      let same : (own_part worker).state ≡ state = same_Some _ _ (sym (shown_at log workers all one number worker is) ∙ there) in
      let count = ap (λ (s : WorkerState). length s.learned) same in
      omega (arith, count, learned_at number worker is)

  few : (number : ℕ) (state : WorkerState) → IsWorker one.1 number state → length state.learned ≤ places
  few number state there =
      let within = slice_get_within one.1.workers number state there in
      let wide : one.0.workers ≡ log.settings.workers = ap (λ (z : LogSize). z.workers) (sized log workers all one) in
      let many = (lawful log workers all one).many in
      by_worker number state there (slice_get workers number) refl (omega (arith, within, many, wide, all.many))

  exact : (first : Worker) → slice_get workers 0 ≡ Some first → length one.1.decided ≡ places
  exact first at =
      let longer = begins_longer one.1.decided (own_part first).state.learned
      ((lawful log workers all one).each 0 (own_part first).state (shown_at log workers all one 0 first at)).begins in
      let known = learned_at 0 first at in
      let most = few_decided one.0 one.2.run one.1 places one.2.lead few in omega arith

pub nothing_behind_all : NothingIsDecidedBehindAll
nothing_behind_all log workers one places all done = by_first (slice_get workers 0) refl
  where
    by_first : (found : Option Worker) → slice_get workers 0 ≡ found → length one.1.decided ≡ places
    by_first None is = absurd (let out = beyond workers 0 is in let least = some log workers all one in omega (arith, out, least))
    by_first (Some first) is = exact log workers one places all done first is
