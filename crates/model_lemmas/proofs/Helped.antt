-- A ticket that is helped from a place on stays so at every step. Said by counts here: of a worker
-- more than k tickets stand in a front of the log where its ticket k stands there. That's true of
-- any ticket that is announced, whatever its worker is at.
use Rattle.std.proofs.Common.{◌≡◌, ◌≢◌, ◌⊎◌, ℕ, ◌+◌, ◌-◌, ◌%◌, ◌<◌, ◌≤◌, Bool, true, false, if◌then◌else◌, ltb, ltb-false, List, [], ◌∷◌, ◌++◌, length, length-append, take, take_all, sym, refl, ap, ◌∙◌, subst, inl, inr, ⊎_elim, arith, le_refl, lt_of_lt_of_le, unwrap_or, Option, Some, None}
use Rattle.std.proofs.Math.Decide.{dec_le}
use Rattle.std.proofs.lemmas.List.{take-append-le}
use Rattle.mc_model.specs.declared.id.Ticket.{Ticket}
use Rattle.mc_model.specs.declared.shown.LogSize.{LogSize}
use Rattle.mc_model.specs.declared.shown.Phase.{Phase}
use Rattle.mc_model.specs.declared.shown.Phase.TheVariants.{Idle, Pending, Looked}
use Rattle.mc_model.specs.declared.shown.ShownState.{ShownState}
use Rattle.mc_model.specs.declared.shown.WorkerState.{WorkerState}
use Rattle.lists.specs.Lists.{BeginsWith}
use Rattle.mc_model.specs.Helping.{IsHelped}
use Rattle.mc_model.specs.Lawful.{IsWorker, ShownEvent, Step, announced_by, announces, decided_with, looks, next, proposes, reads, stops, turn, with_worker}
use Rattle.mc_model.specs.Legal.{count, ticket_of}
use Rattle.mc_model.specs.Shown.{announce, is_latest, look, proposal, propose, read, stop}
use Rattle.lists.proofs.Public.{at_set, begins_longer, begins_self, nothing_next}
use Rattle.model_lemmas.proofs.StateLaws.{IsSound, after, learned_is, proposal_legal, rises}
use Rattle.model_lemmas.proofs.Tickets.{count_begins, count_known, count_own, stands}

-- the ticket is found at a look, or stands in what the worker has learned
abbrev pub Finds : ℕ → ℕ → WorkerState → Type 0
Finds number command worker = (worker.look ≡ Some (ticket_of number command)) ⊎ (command < count number worker.learned)

-- the worker's command of this number is announced and is helped from the place on, before which it
-- doesn't stand
pub record Helps (size : LogSize) (state : ShownState) (number command from : ℕ) : Type 0 where
  pub announced : command < announced_by state number
  pub here : from ≤ length state.decided
  pub before : count number (take from state.decided) ≡ command
  pub decided : (place : ℕ) → from < place → place < length state.decided → place % size.workers ≡ number →
      command < count number (take (place + 1) state.decided)
  pub looks : (other : ℕ) (worker : WorkerState) → IsWorker state other worker → worker.phase ≡ Looked →
      from < length worker.learned → length worker.learned % size.workers ≡ number → Finds number command worker

-- in the words of the law of helping
pub is_helped : (size : LogSize) (state : ShownState) (number command from : ℕ) → IsSound size state →
    Helps size state number command from → IsHelped size state (ticket_of number command) from
is_helped size state number command from sound helps = record {
  decided = λ place above below own. stands state.decided number command (place + 1) sound.legal (helps.decided place above below own);
  looks = λ other worker is at above own. ⊎_elim inl
      (λ (more : command < count number worker.learned). inr (stands state.decided number command (length worker.learned) sound.legal
      (subst (λ (front : List Ticket). command < count number front) (learned_is size state other worker sound is) more)))
      (helps.looks other worker is at above own);
}

-- who learns a ticket hasn't looked at its next place
pub not_looked : (latest : Bool) (phase : Phase) → phase ≢ Looked → (if latest then Idle else phase) ≢ Looked
not_looked true phase other = λ same. cc
not_looked false phase other = other

module _ (size : LogSize) (state : ShownState) (number command from : ℕ) (helps : Helps size state number command from) where
  -- it is helped after one worker's event where each new place whose turn is its worker's has it
  -- there or before, and that worker's look finds it
  helps_after : (decided : List Ticket) (mover : ℕ) (old new : WorkerState) → IsWorker state mover old → old.announced ≤ new.announced →
      BeginsWith decided state.decided →
      ((place : ℕ) → from < place → length state.decided ≤ place → place < length decided → place % size.workers ≡ number →
      command < count number (take (place + 1) decided)) →
      (new.phase ≡ Looked → from < length new.learned → length new.learned % size.workers ≡ number → Finds number command new) →
      Helps size (after state decided mover new) number command from
  helps_after decided mover old new is more longer new_places new_look =
      let here = helps.here in let long = begins_longer decided state.decided longer in record {
        announced = lt_of_lt_of_le helps.announced (rises state decided mover old new is more number);
        here = omega arith;
        before = ap (λ (tickets : List Ticket). count number (take from tickets)) longer.1
            ∙ (ap (count number) (take-append-le from state.decided longer.0 here) ∙ helps.before);
        decided = λ place above below own. by_place place above below own (dec_le (length state.decided) place);
        looks = λ other worker there at above own. ⊎_elim
            (λ (mine : (other ≡ mover) × (new ≡ worker)). subst (Finds number command) mine.1
            (new_look (ap (λ (some : WorkerState). some.phase) mine.1 ∙ at)
            (subst (λ (some : WorkerState). from < length some.learned) (sym mine.1) above)
            (ap (λ (some : WorkerState). length some.learned % size.workers) mine.1 ∙ own)))
            (λ (apart : (other ≢ mover) × IsWorker state other worker). helps.looks other worker apart.1 at above own)
            (at_set state.workers mover other new worker there);
      }
    where
      by_place : (place : ℕ) → from < place → place < length decided → place % size.workers ≡ number → Dec (length state.decided ≤ place) →
          command < count number (take (place + 1) decided)
      by_place place above below own (yes far) = new_places place above far below own
      by_place place above below own (no near) =
          let within : place < length state.decided = omega arith in let front : place + 1 ≤ length state.decided = omega arith in
          subst (λ (tickets : List Ticket). command < count number tickets)
          (sym (ap (take (place + 1)) longer.1 ∙ take-append-le (place + 1) state.decided longer.0 front)) (helps.decided place above within own)

  helps_worker : (mover : ℕ) (old new : WorkerState) → IsWorker state mover old → old.announced ≤ new.announced →
      (new.phase ≡ Looked → from < length new.learned → length new.learned % size.workers ≡ number → Finds number command new) →
      Helps size (with_worker state mover new) number command from
  helps_worker mover old new is more new_look =
      helps_after state.decided mover old new is more (begins_self state.decided) (λ place _ far near _. absurd (omega arith)) new_look

  helps_read : (mover : ℕ) (worker : WorkerState) (found : Option Ticket) → IsWorker state mover worker → worker.phase ≢ Looked →
      Helps size (with_worker state mover (read mover found worker)) number command from
  helps_read mover worker None is other = helps_worker mover worker (read mover None worker) is (le_refl worker.announced) (λ at. absurd (other at))
  helps_read mover worker (Some ticket) is other = helps_worker mover worker (read mover (Some ticket) worker) is (le_refl worker.announced)
      (λ at. absurd (not_looked (is_latest mover worker ticket) worker.phase other at))

  -- a look for that worker finds the first ticket that isn't learned, which is the command or a
  -- later one
  look_finds : (first announced : ℕ) (below : Bool) → ltb first announced ≡ below → command < announced → command ≤ first →
      ((if below then Some (ticket_of number first) else None) ≡ Some (ticket_of number command)) ⊎ (command < first)
  look_finds first announced true is before least = by_first (dec_le first command)
    where
      by_first : Dec (first ≤ command) → (Some (ticket_of number first) ≡ Some (ticket_of number command)) ⊎ (command < first)
      by_first (yes low) = let same : first ≡ command = omega arith in inl (ap (λ (some : ℕ). Some (ticket_of number some)) same)
      by_first (no high) = inr (omega arith)
  look_finds first announced false is before least = let far = ltb-false first announced is in inr (omega arith)

  helps_look : (mover : ℕ) (worker : WorkerState) → IsSound size state → IsWorker state mover worker →
      Helps size (with_worker state mover (look (turn size worker) (announced_by state (turn size worker)) worker)) number command from
  helps_look mover worker sound is =
      let begins = (sound.each mover worker is).begins in
      helps_worker mover worker (look (turn size worker) (announced_by state (turn size worker)) worker) is (le_refl worker.announced) (λ _ above own.
      let least = count_known number from state.decided worker.learned begins (omega arith) in let before = helps.before in
      subst (λ (helped : ℕ). Finds number command (look helped (announced_by state helped) worker)) (sym own)
      (let first = count number worker.learned in let announced = announced_by state number in
      look_finds first announced (ltb first announced) refl helps.announced (omega arith)))

  -- the ticket that decides the next place, whose turn is that worker's, is the command unless that
  -- stands before
  helps_decide : (mover : ℕ) (worker : WorkerState) → IsSound size state → IsWorker state mover worker → worker.phase ≡ Looked → next state worker ≡ None →
      Helps size (after state (state.decided ++ proposal mover worker ∷ []) mover (propose mover None worker)) number command from
  helps_decide mover worker sound is at empty =
      helps_after decided mover worker (propose mover None worker) is (le_refl worker.announced) (ticket ∷ [], refl) (λ place above far near own.
      let long : length decided ≡ length state.decided + 1 = length-append state.decided (ticket ∷ []) in
      let last : place ≡ length state.decided = omega arith in let same = ap length all in let next_is : length worker.learned ≡ place = omega arith in
      let whole : take (place + 1) decided ≡ decided = take_all (place + 1) decided (omega arith) in
      subst (λ (tickets : List Ticket). command < count number tickets) (sym whole)
      (⊎_elim found_last stands_before (helps.looks mover worker is at (omega arith) (ap (λ (some : ℕ). some % size.workers) next_is ∙ own))))
      (λ now. absurd (not_looked (is_latest mover worker ticket) Pending (λ same. cc) now))
    where
      ticket : Ticket
      ticket = proposal mover worker

      decided : List Ticket
      decided = state.decided ++ ticket ∷ []

      all : state.decided ≡ worker.learned
      all = nothing_next state.decided worker.learned (sound.each mover worker is).begins empty

      found_last : worker.look ≡ Some (ticket_of number command) → command < count number decided
      found_last found =
          let same : ticket ≡ ticket_of number command = ap (λ (some : Option Ticket). unwrap_or some (ticket_of mover (worker.announced - 1))) found in
          let before : count number worker.learned ≡ command = sym (ap (λ (some : Ticket). count some.worker worker.learned) same)
          ∙ ((proposal_legal size state mover worker sound is at).0 ∙ ap (λ (some : Ticket). some.number) same) in
          let grown = count_own number state.decided ticket (ap (λ (some : Ticket). some.worker) same) in let known = ap (count number) all in omega arith

      stands_before : command < count number worker.learned → command < count number decided
      stands_before more = let known = ap (count number) all in let grown = count_begins number decided state.decided (ticket ∷ [], refl) in omega arith

  helps_propose : (mover : ℕ) (worker : WorkerState) → IsSound size state → IsWorker state mover worker → worker.phase ≡ Looked →
      let found : Option Ticket = next state worker in
      Helps size (after state (decided_with (proposal mover worker) state.decided found) mover (propose mover found worker)) number command from
  helps_propose mover worker sound is at = by_next (next state worker) refl
    where
      by_next : (found : Option Ticket) → next state worker ≡ found →
          Helps size (after state (decided_with (proposal mover worker) state.decided found) mover (propose mover found worker)) number command from
      by_next None empty = helps_decide mover worker sound is at empty
      by_next (Some ticket) there = helps_worker mover worker (propose mover (Some ticket) worker) is (le_refl worker.announced)
          (λ now. absurd (not_looked (is_latest mover worker ticket) Pending (λ same. cc) now))

-- every step keeps it
pub helps_keeps : (size : LogSize) (old new : ShownState) (event : ShownEvent) (number command from : ℕ) → IsSound size old → Step size old event new →
    Helps size old number command from → Helps size new number command from
helps_keeps size old new (announces mover) number command from sound step helps = subst (λ (some : ShownState). Helps size some number command from) (sym step.4)
    (helps_worker size old number command from helps mover step.0 (announce step.0) step.1 (omega arith) (λ at. absurd (cc)))
helps_keeps size old new (reads mover) number command from sound step helps = subst (λ (some : ShownState). Helps size some number command from) (sym step.4)
    (helps_read size old number command from helps mover step.0 (next old step.0) step.1
    (λ at. ⊎_elim (λ (idle : step.0.phase ≡ Idle). cc) (λ (pending : step.0.phase ≡ Pending). cc) step.2))
helps_keeps size old new (looks mover) number command from sound step helps = subst (λ (some : ShownState). Helps size some number command from) (sym step.5)
    (helps_look size old number command from helps mover step.0 sound step.1)
helps_keeps size old new (proposes mover) number command from sound step helps = subst (λ (some : ShownState). Helps size some number command from) (sym step.3)
    (helps_propose size old number command from helps mover step.0 sound step.1 step.2)
helps_keeps size old new (stops mover) number command from sound step helps = subst (λ (some : ShownState). Helps size some number command from) (sym step.3)
    (helps_worker size old number command from helps mover step.0 (stop step.0) step.1 (le_refl step.0.announced) (λ at. absurd (cc)))
