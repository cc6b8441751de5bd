-- What a step of the shown log leaves as it was: no decided place changes, and no worker unlearns a
-- place. Only an announcement raises what a worker has announced.
use Rattle.std.proofs.Common.{◌≡◌, ◌≢◌, ℕ, ◌≤◌, List, [], ◌∷◌, ◌++◌, length, Option, Some, None, slice_get, ⊎_elim, refl, sym, ap, subst, ◌∙◌, arith, le_refl, length-append, length-set}
use Rattle.std.proofs.lemmas.Bool.{cases_eq}
use Rattle.std.specs.Option.{option_map_or}
use Rattle.mc_model.specs.declared.id.Ticket.{Ticket}
use Rattle.mc_model.specs.declared.shown.LogSize.{LogSize}
use Rattle.mc_model.specs.declared.shown.ShownState.{ShownState}
use Rattle.mc_model.specs.declared.shown.WorkerState.{WorkerState}
use Rattle.lists.specs.Lists.{BeginsWith}
use Rattle.mc_model.specs.Lawful.{IsWorker, Step, announced_by, decided_with, looks, next, proposes, reads, stops}
use Rattle.mc_model.specs.Shown.{proposal, read}
use Rattle.lists.proofs.Public.{at_set, begins_self, set_elsewhere}
use Rattle.model_lemmas.proofs.StateLaws.{after, announced_after, announced_is}

-- a worker has learned no less than before
abbrev pub HasLearned : ShownState → ℕ → WorkerState → Type 0
HasLearned old number worker = (was : WorkerState) × IsWorker old number was × (length was.learned ≤ length worker.learned)

-- there are as many workers, the decided places stand, and what is learned stays learned
pub record Moves (old new : ShownState) : Type 0 where
  pub many : length new.workers ≡ length old.workers
  pub decided : BeginsWith new.decided old.decided
  pub learned : (number : ℕ) (worker : WorkerState) → IsWorker new number worker → HasLearned old number worker

-- and nobody has announced anything
abbrev pub IsQuiet : ShownState → ShownState → Type 0
IsQuiet old new = Moves old new × ((number : ℕ) → announced_by new number ≡ announced_by old number)

-- one worker moves
module _ (old : ShownState) (decided : List Ticket) (number : ℕ) (was worker : WorkerState) (at : IsWorker old number was) where
  pub one_moves : BeginsWith decided old.decided → length was.learned ≤ length worker.learned → Moves old (after old decided number worker)
  one_moves begins more = record {
    many = length-set old.workers number worker;
    decided = begins;
    learned = λ other found is. ⊎_elim
        (λ here. (was, ap (slice_get old.workers) here.0 ∙ at, subst (λ (it : WorkerState). length was.learned ≤ length it.learned) here.1 more))
        (λ elsewhere. (found, elsewhere.1, le_refl (length found.learned)))
        (at_set old.workers number other worker found is);
  }

  pub announced_elsewhere : (other : ℕ) → other ≢ number → announced_by (after old decided number worker) other ≡ announced_by old other
  announced_elsewhere other apart = ap (λ found. option_map_or (λ (it : WorkerState). it.announced) found 0) (set_elsewhere old.workers number other worker apart)

  pub one_quietly : BeginsWith decided old.decided → length was.learned ≤ length worker.learned → worker.announced ≡ was.announced →
      IsQuiet old (after old decided number worker)
  one_quietly begins more same = (one_moves begins more, silent)
    where
      silent : (other : ℕ) → announced_by (after old decided number worker) other ≡ announced_by old other
      silent other = ⊎_elim
          (λ (here : other ≡ number).
          ap (announced_by (after old decided number worker)) here ∙ announced_after old decided number was worker at ∙ same
          ∙ sym (announced_is old number was at) ∙ ap (announced_by old) (sym here))
          (λ apart. announced_elsewhere other apart)
          (cases_eq other number)

-- what a worker that reads or proposes has learned, and the places then
learned_more : (learned : List Ticket) (ticket : Ticket) → length learned ≤ length (learned ++ ticket ∷ [])
learned_more learned ticket = omega (arith, length-append learned (ticket ∷ []))

reads_more : (number : ℕ) (found : Option Ticket) (worker : WorkerState) →
    (length worker.learned ≤ length (read number found worker).learned) × ((read number found worker).announced ≡ worker.announced)
reads_more number None worker = (le_refl (length worker.learned), refl)
reads_more number (Some ticket) worker = (learned_more worker.learned ticket, refl)

decides_more : (proposed : Ticket) (decided : List Ticket) (found : Option Ticket) → BeginsWith (decided_with proposed decided found) decided
decides_more proposed decided None = (proposed ∷ [], refl)
decides_more proposed decided (Some ticket) = begins_self decided

-- the steps of each kind but the announcement
module _ (size : LogSize) (old new : ShownState) (number : ℕ) where
  pub reads_quietly : Step size old (reads number) new → IsQuiet old new
  reads_quietly step =
      let more = reads_more number (next old step.0) step.0 in
      subst (IsQuiet old) (sym step.4) (one_quietly old old.decided number step.0 _ step.1 (begins_self old.decided) more.0 more.1)

  pub looks_quietly : Step size old (looks number) new → IsQuiet old new
  looks_quietly step =
      subst (IsQuiet old) (sym step.5) (one_quietly old old.decided number step.0 _ step.1 (begins_self old.decided) (le_refl (length step.0.learned)) refl)

  pub proposes_quietly : Step size old (proposes number) new → IsQuiet old new
  proposes_quietly step =
      let decided = decided_with (proposal number step.0) old.decided (next old step.0) in
      subst (IsQuiet old) (sym step.3) (one_quietly old decided number step.0 _ step.1 (decides_more _ old.decided _) (learned_more step.0.learned _) refl)

  pub stops_quietly : Step size old (stops number) new → IsQuiet old new
  stops_quietly step =
      subst (IsQuiet old) (sym step.3) (one_quietly old old.decided number step.0 _ step.1 (begins_self old.decided) (le_refl (length step.0.learned)) refl)
