-- Turns: within as many places as there are workers each worker's turn comes. So a command that is
-- announced stands in the log once that many places and one more are decided.
use Rattle.std.proofs.Common.{◌≡◌, ◌≢◌, ℕ, suc, ◌+◌, ◌*◌, ◌/◌, ◌%◌, ◌<◌, ◌≤◌, List, [], ◌∷◌, length, take_all, sym, ap, ◌∙◌, subst, ⊎_elim, arith, le_refl, div-add-mod', suc-mul, mod-lt}
use Rattle.std.proofs.Math.Decide.{dec_le}
use Rattle.std.proofs.lemmas.Nat.{mod-mul-add}
use Rattle.std.proofs.lemmas.Option.{slice_get_within}
use Rattle.mc_model.specs.declared.shown.LogSize.{LogSize}
use Rattle.mc_model.specs.declared.shown.Phase.TheVariants.{Idle, Looked}
use Rattle.mc_model.specs.declared.shown.ShownState.{ShownState}
use Rattle.mc_model.specs.declared.shown.WorkerState.{WorkerState}
use Rattle.mc_model.specs.Helping.{IsSoonDecided}
use Rattle.mc_model.specs.Lawful.{IsWorker, LeadOn, ShownEvent, announces, with_worker}
use Rattle.mc_model.specs.Legal.{StandsBefore, count, ticket_of}
use Rattle.mc_model.specs.Shown.{announce}
use Rattle.model_lemmas.proofs.Helped.{Helps, helps_keeps}
use Rattle.lists.proofs.Public.{at_set}
use Rattle.model_lemmas.proofs.StateLaws.{IsSound, announced_after, announced_is, count_announced, is_sound, keeps, learned_few}
use Rattle.model_lemmas.proofs.Tickets.{count_begins, stands}

-- the next place after this one whose turn is the worker's
pub turn_after : (place workers number : ℕ) → number < workers → (turn : ℕ) × (place < turn) × (turn ≤ place + workers) × (turn % workers ≡ number)
turn_after place workers number below = by_turn (dec_le now number)
  where
    -- whose turn it is at the place after, and where that round began
    now : ℕ
    now = (place + 1) % workers

    round : ℕ
    round = (place + 1) / workers * workers

    whole : round + now ≡ place + 1
    whole = div-add-mod' (place + 1) workers

    small : now < workers
    small = let some : 0 < workers = omega arith in mod-lt (place + 1) some

    by_turn : Dec (now ≤ number) → (turn : ℕ) × (place < turn) × (turn ≤ place + workers) × (turn % workers ≡ number)
    by_turn (yes later) = let all = whole in let rest = small in
        (round + number, omega arith, omega arith, mod-mul-add ((place + 1) / workers) workers number below)
    by_turn (no past) = let all = whole in let rest = small in
        let next : round + workers ≡ suc ((place + 1) / workers) * workers = sym (suc-mul ((place + 1) / workers) workers) in (
          round + workers + number,
          omega arith,
          omega arith,
          ap (λ (some : ℕ). (some + number) % workers) next ∙ mod-mul-add (suc ((place + 1) / workers)) workers number below,
        )

-- a command is helped from the place that comes next as it is announced
announced_helps : (size : LogSize) (state : ShownState) (number : ℕ) (worker : WorkerState) → IsSound size state →
    IsWorker state number worker → worker.phase ≡ Idle →
    Helps size (with_worker state number (announce worker)) number worker.announced (length state.decided)
announced_helps size state number worker sound is idle = record {
  announced = let up = announced_after state state.decided number worker (announce worker) is in omega arith;
  here = le_refl (length state.decided);
  before = ap (count number) (take_all (length state.decided) state.decided (le_refl (length state.decided))) ∙ all_decided;
  decided = λ place above below _. absurd (omega arith);
  looks = λ other some there looked above _. let few = looked_few other some there looked in absurd (omega arith);
}
  where
    all_decided : count number state.decided ≡ worker.announced
    all_decided =
        let own = sound.each number worker is in let known = own.idle idle in let same = announced_is state number worker is in
        let least = count_begins number state.decided worker.learned own.begins in let most = count_announced size state number sound in omega arith

    looked_few : (other : ℕ) (some : WorkerState) → IsWorker (with_worker state number (announce worker)) other some →
        some.phase ≡ Looked → length some.learned ≤ length state.decided
    looked_few other some there looked = ⊎_elim
        (λ (mine : (other ≡ number) × (announce worker ≡ some)). absurd (let pending = ap (λ (one : WorkerState). one.phase) mine.1 ∙ looked in cc))
        (λ (apart : (other ≢ number) × IsWorker state other some). learned_few size state other some sound apart.1)
        (at_set state.workers number other (announce worker) some there)

-- what is helped stays so through any events
helps_on : (size : LogSize) (events : List ShownEvent) (old new : ShownState) (number command from : ℕ) → IsSound size old → LeadOn size old events new →
    Helps size old number command from → IsSound size new × Helps size new number command from
helps_on size [] old new number command from sound same helps =
    subst (λ (state : ShownState). IsSound size state × Helps size state number command from) (sym same) (sound, helps)
helps_on size (event ∷ events) old new number command from sound run helps =
    helps_on size events run.0 new number command from (keeps size old run.0 event sound run.1) run.2
    (helps_keeps size old run.0 event number command from sound run.1 helps)

-- what is helped after a place stands among the next places, one more than there are workers, once
-- these are decided
stands_soon : (size : LogSize) (state : ShownState) (number command from : ℕ) → IsSound size state → number < size.workers →
    Helps size state number command from → from + (size.workers + 1) ≤ length state.decided →
    StandsBefore (from + (size.workers + 1)) (ticket_of number command) state.decided
stands_soon size state number command from sound below helps far =
    let turn = turn_after from size.workers number below in let above = turn.1 in let near = turn.2 in
    let decided = helps.decided turn.0 turn.1 (omega arith) turn.3 in
    let found = stands state.decided number command (turn.0 + 1) sound.legal decided in let before = found.1 in (found.0, omega arith, found.2)

pub is_soon_decided : (size : LogSize) → IsSoonDecided (size.workers + 1) size
is_soon_decided size old announced new number events reached step run far =
    let sound = is_sound size reached.0 old reached.1 in let worker = step.0 in let is = step.1 in
    let first : Helps size announced number worker.announced (length old.decided) =
    subst (λ (state : ShownState). Helps size state number worker.announced (length old.decided)) (sym step.4)
    (announced_helps size old number worker sound is step.2) in
    let sound_then = keeps size old announced (announces number) sound step in
    let last = helps_on size events announced new number worker.announced (length old.decided) sound_then run first in
    let many = sound.many in let inside = slice_get_within old.workers number worker is in
    subst (λ (command : ℕ). StandsBefore (length old.decided + (size.workers + 1)) (ticket_of number command) new.decided)
    (sym (announced_is old number worker is))
    (stands_soon size new number worker.announced (length old.decided) last.0 (omega arith) last.1 far)
