-- A mark stays until its worker announces again, and a look is used by one proposal: by the kinds
-- of event.
use Rattle.std.proofs.Common.{◌≡◌, ◌≢◌, ℕ, List, length, Option, Some, None, slice_get, slice_set, ⊎_elim, refl, sym, ap, ◌∙◌}
use Rattle.std.proofs.lemmas.Option.{same_Some}
use Rattle.mc_model.specs.declared.id.Ticket.{Ticket}
use Rattle.mc_model.specs.declared.shown.LogSize.{LogSize}
use Rattle.mc_model.specs.declared.shown.Phase.{Phase}
use Rattle.mc_model.specs.declared.shown.Phase.TheVariants.{Idle, Pending, Looked, Stopped}
use Rattle.mc_model.specs.declared.shown.ShownState.{ShownState}
use Rattle.mc_model.specs.declared.shown.WorkerState.{WorkerState}
use Rattle.mc_model.specs.Lawful.{IsWorker, announces, looks, proposes, reads, stops}
use Rattle.mc_model.specs.Shown.{marked, read}
use Rattle.lists.proofs.Public.{at_set}
use Rattle.mc_model.specs.Helping.{LooksAreUsed, MarksStay}

-- a mark that is there isn't made another, whatever is read
marked_once : (phase : Phase) (mark place : ℕ) → marked phase (Some mark) place ≡ Some mark
marked_once Idle mark place = refl
marked_once Pending mark place = refl
marked_once Looked mark place = refl
marked_once Stopped mark place = refl

read_marks : (number mark : ℕ) (found : Option Ticket) (worker : WorkerState) → worker.mark ≡ Some mark → (read number found worker).mark ≡ Some mark
read_marks number mark (Some ticket) worker is = is
read_marks number mark None worker is =
    ap (λ (it : Option ℕ). marked worker.phase it (length worker.learned)) is ∙ marked_once worker.phase mark (length worker.learned)

-- where one worker's state is set, which keeps its mark if it is the one that is looked at
keeps_mark : (workers : List WorkerState) (place number mark : ℕ) (old new before after : WorkerState) → slice_get workers place ≡ Some old →
    slice_get workers number ≡ Some before → slice_get (slice_set workers place new) number ≡ Some after →
    (number ≡ place → old.mark ≡ Some mark → new.mark ≡ Some mark) → before.mark ≡ Some mark → after.mark ≡ Some mark
keeps_mark workers place number mark old new before after at was is keeps marks = ⊎_elim
    (λ (here : (number ≡ place) × (new ≡ after)).
    let same : before ≡ old = same_Some before old (sym was ∙ (ap (slice_get workers) here.0 ∙ at)) in
    ap (λ (it : WorkerState). it.mark) (sym here.1) ∙ keeps here.0 (ap (λ (it : WorkerState). it.mark) (sym same) ∙ marks))
    (λ (apart : (number ≢ place) × (slice_get workers number ≡ Some after)).
    ap (λ (it : WorkerState). it.mark) (same_Some after before (sym apart.1 ∙ was)) ∙ marks)
    (at_set workers place number new after is)

-- what is known of the new state's worker, by what the event makes
at_new : (old new : ShownState) (workers : List WorkerState) (number : ℕ) (after : WorkerState) → new.workers ≡ workers → IsWorker new number after →
    slice_get workers number ≡ Some after
at_new old new workers number after made is = ap (λ (some : List WorkerState). slice_get some number) (sym made) ∙ is

pub marks_stay : (size : LogSize) → MarksStay size
marks_stay size old new (announces other) number mark before after step apart was is marks =
    keeps_mark old.workers other number mark step.0 _ before after step.1 was
    (at_new old new _ number after (ap (λ (it : ShownState). it.workers) step.4) is)
    (λ same. absurd (apart (ap announces (sym same)))) marks
marks_stay size old new (reads other) number mark before after step apart was is marks =
    keeps_mark old.workers other number mark step.0 _ before after step.1 was
    (at_new old new _ number after (ap (λ (it : ShownState). it.workers) step.4) is)
    (λ same it. read_marks other mark _ step.0 it) marks
marks_stay size old new (looks other) number mark before after step apart was is marks =
    keeps_mark old.workers other number mark step.0 _ before after step.1 was
    (at_new old new _ number after (ap (λ (it : ShownState). it.workers) step.5) is)
    (λ same it. it) marks
marks_stay size old new (proposes other) number mark before after step apart was is marks =
    keeps_mark old.workers other number mark step.0 _ before after step.1 was
    (at_new old new _ number after (ap (λ (it : ShownState). it.workers) step.3) is)
    (λ same it. it) marks
marks_stay size old new (stops other) number mark before after step apart was is marks =
    keeps_mark old.workers other number mark step.0 _ before after step.1 was
    (at_new old new _ number after (ap (λ (it : ShownState). it.workers) step.3) is)
    (λ same it. it) marks

pub looks_are_used : (size : LogSize) → LooksAreUsed size
looks_are_used size old new number after step is = ⊎_elim
    (λ (here : (number ≡ number) × (_ ≡ after)). ap (λ (it : WorkerState). it.look) (sym here.1))
    (λ (apart : (number ≢ number) × (slice_get old.workers number ≡ Some after)). absurd (apart.0 refl))
    (at_set old.workers number number _ after (at_new old new _ number after (ap (λ (it : ShownState). it.workers) step.3) is))
