-- An event that leads on meets no fault, and it leads to one state alone, with one reply or with
-- none.
use Rattle.std.proofs.Common.{◌≡◌, ◌≢◌, ◌⊎◌, ℕ, ◌+◌, ◌<◌, List, length, Option, Some, None, ◌≤◌, Bool, true, false, ◌||◌, not, ltb, is_some, slice_get, slice_set, ⊎_elim, inl, inr, true≢false, refl, sym, ap, ap₂, ◌∙◌, arith}
use Rattle.std.proofs.lemmas.Bool.Decides.{nat_tests}
use Rattle.std.proofs.lemmas.Option.{same_Some, slice_get_within}
use Rattle.std.specs.Option.{option_map}
use Rattle.mc_model.specs.declared.fault.Fault.{Fault}
use Rattle.mc_model.specs.declared.fault.Fault.TheVariants.{BadEvent, LogFull}
use Rattle.mc_model.specs.declared.reply.Reply.{Reply}
use Rattle.mc_model.specs.declared.shown.LogSize.{LogSize}
use Rattle.mc_model.specs.declared.shown.Phase.{Phase}
use Rattle.mc_model.specs.declared.shown.Phase.TheVariants.{Idle, Pending, Looked, Stopped}
use Rattle.mc_model.specs.declared.shown.ShownState.{ShownState}
use Rattle.mc_model.specs.declared.shown.WorkerState.{WorkerState}
use Rattle.mc_model.specs.Lawful.{IsWorker, ShownEvent, Step, announced_by, announces, decided_with, looks, next, proposes, reads, stops, turn, with_worker}
use Rattle.mc_model.specs.Log.{own_command}
use Rattle.mc_model.specs.Replay.{reply_from, with_command}
use Rattle.mc_model.specs.Shown.{announce, look, proposal, propose, read, stop}
use Rattle.mc_model.specs.State.{TableState}
use Rattle.uc_core.specs.Core.{CoreState, ReplayState, core_size}
use Rattle.uc_core.specs.Headline.{FaultsAreOrdered, FaultsStand, HasReplica, NobodyWaits, StepsAreEnabled, StepsAreOne, WorkersAreFree}
use Rattle.uc_core.specs.Step.{CoreStep, actor, announced_entry, entry_at, is_idle, is_looked, is_pending, is_stopped, needs, refusal, refusal_by, refusal_of, with_entry}
use Rattle.uc_core.specs.declared.event.Event.{Event}
use Rattle.uc_core.specs.declared.event.Event.TheVariants.{Announce, Look, Propose, Read, Replay, Stop}
use Rattle.uc_core.proofs.CoreLaws.{CoreLaw}
use Rattle.uc_core.proofs.Lookups.{same_by_places, there}

-- a condition that is met yields no fault if those after it yield none
granted : (condition : Bool) (fault : Fault) (others : Option Fault) → condition ≡ true → others ≡ None → needs condition fault others ≡ None
granted condition fault others is none = ap (λ (b : Bool). needs b fault others) is ∙ none

idle_or_pending : (phase : Phase) → (phase ≡ Idle) ⊎ (phase ≡ Pending) → (is_idle phase || is_pending phase) ≡ true
idle_or_pending phase either = ⊎_elim
    (λ is. ap (λ (it : Phase). is_idle it || is_pending it) is) (λ is. ap (λ (it : Phase). is_idle it || is_pending it) is) either

not_stopped : (phase : Phase) → phase ≢ Stopped → not (is_stopped phase) ≡ true
not_stopped Idle apart = refl
not_stopped Pending apart = refl
not_stopped Looked apart = refl
not_stopped Stopped apart = absurd (apart refl)

has_mark : {X : Type 0} (mark : Option X) → mark ≢ None → is_some mark ≡ true
has_mark None apart = absurd (apart refl)
has_mark (Some x) apart = refl

is_below : (n m : ℕ) → n < m → ltb n m ≡ true
is_below n m below = grind (arith, nat_tests)

-- an event's fault is determined by its worker and by what that worker has replayed
module _ (core : CoreState) (law : CoreLaw core) where
  told : (event : Event) (worker : WorkerState) → IsWorker core.shown (actor event) worker →
      ((replay : ReplayState) → slice_get core.replays (actor event) ≡ Some replay → refusal_by core event worker replay ≡ None) →
      refusal core event ≡ None
  told event worker at none =
      let replay = there core.replays (actor event) (omega (arith, law.kept, slice_get_within core.shown.workers (actor event) worker at)) in
      ap₂ (refusal_of core event) at replay.1 ∙ none replay.0 replay.1

  pub steps_are_enabled : StepsAreEnabled core
  steps_are_enabled (Announce number tenant command) new reply step =
      let shown = step.1 in
      told (Announce number tenant command) shown.0 shown.1 (λ replay at.
      granted _ _ _ (ap is_idle shown.2) (granted _ _ _ (is_below _ _ step.0) (granted _ _ _ (is_below _ _ shown.3) refl)))
  steps_are_enabled (Read number) new reply step =
      let shown = step.0 in
      told (Read number) shown.0 shown.1 (λ replay at. granted _ _ _ (idle_or_pending _ shown.2) (granted _ _ _ (is_below _ _ shown.3) refl))
  steps_are_enabled (Look number) new reply step =
      let shown = step.0 in
      told (Look number) shown.0 shown.1 (λ replay at.
      granted _ _ _ (ap is_pending shown.2) (granted _ _ _ (is_below _ _ shown.3) (granted _ _ _ (has_mark _ shown.4) refl)))
  steps_are_enabled (Propose number) new reply step =
      told (Propose number) step.0.0 step.0.1 (λ replay at. granted _ _ _ (ap is_looked step.0.2) refl)
  steps_are_enabled (Replay number) new reply step =
      told (Replay number) step.0 step.1 (λ replay at.
      let same = same_Some step.3 replay (sym step.4 ∙ at) in
      let more = ap (λ (it : ReplayState). ltb it.replayed (length step.0.learned)) (sym same) ∙ is_below _ _ step.5 in
      granted _ _ _ (not_stopped _ step.2) (granted _ _ _ more refl))
  steps_are_enabled (Stop number) new reply step =
      told (Stop number) step.0.0 step.0.1 (λ replay at. granted _ _ _ (not_stopped _ step.0.2) refl)

-- and conversely: if its conditions hold of its worker it has no fault, and an announcement that
-- has no place left has the fault `LogFull`
denied : (condition : Bool) (fault : Fault) (others : Option Fault) → condition ≡ false → needs condition fault others ≡ Some fault
denied condition fault others is = ap (λ (b : Bool). needs b fault others) is

not_idle : (phase : Phase) → phase ≢ Idle → is_idle phase ≡ false
not_idle Idle other = absurd (other refl)
not_idle Pending other = refl
not_idle Looked other = refl
not_idle Stopped other = refl

not_pending : (phase : Phase) → phase ≢ Pending → is_pending phase ≡ false
not_pending Idle other = refl
not_pending Pending other = absurd (other refl)
not_pending Looked other = refl
not_pending Stopped other = refl

not_looked : (phase : Phase) → phase ≢ Looked → is_looked phase ≡ false
not_looked Idle other = refl
not_looked Pending other = refl
not_looked Looked other = absurd (other refl)
not_looked Stopped other = refl

neither : (phase : Phase) → phase ≢ Idle → phase ≢ Pending → (is_idle phase || is_pending phase) ≡ false
neither Idle other pending = absurd (other refl)
neither Pending other pending = absurd (pending refl)
neither Looked other pending = refl
neither Stopped other pending = refl

is_not_below : (n m : ℕ) → m ≤ n → ltb n m ≡ false
is_not_below n m above = grind (arith, nat_tests)

module _ (core : CoreState) (number : ℕ) (worker : WorkerState) (replay : ReplayState) (has : HasReplica core number worker replay) where
  by_its_own : (event : Event) (fault : Option Fault) → actor event ≡ number → refusal_by core event worker replay ≡ fault → refusal core event ≡ fault
  by_its_own event fault mine is =
      ap₂ (refusal_of core event) (ap (slice_get core.shown.workers) mine ∙ has.0) (ap (slice_get core.replays) mine ∙ has.1) ∙ is

  nobody_waits : NobodyWaits core number worker replay
  nobody_waits = record {
    announces = λ tenant command phase known room. by_its_own (Announce number tenant command) None refl
        (granted _ _ _ (ap is_idle phase) (granted _ _ _ (is_below _ _ known) (granted _ _ _ (is_below _ _ room) refl)));
    reads = λ phase room. by_its_own (Read number) None refl (granted _ _ _ (idle_or_pending _ phase) (granted _ _ _ (is_below _ _ room) refl));
    looks = λ phase room marked. by_its_own (Look number) None refl
        (granted _ _ _ (ap is_pending phase) (granted _ _ _ (is_below _ _ room) (granted _ _ _ (has_mark _ marked) refl)));
    proposes = λ phase. by_its_own (Propose number) None refl (granted _ _ _ (ap is_looked phase) refl);
    replays = λ phase more. by_its_own (Replay number) None refl (granted _ _ _ (not_stopped _ phase) (granted _ _ _ (is_below _ _ more) refl));
    stops = λ phase. by_its_own (Stop number) None refl (granted _ _ _ (not_stopped _ phase) refl);
    full = λ tenant command phase known none. by_its_own (Announce number tenant command) (Some LogFull) refl
        (met_first (is_idle worker.phase) _ (ap is_idle phase) ∙ met_first _ _ (is_below _ _ known) ∙ denied _ _ _ (is_not_below _ _ none));
  }
    where
      met_first : (condition : Bool) (others : Option Fault) → condition ≡ true → needs condition BadEvent others ≡ others
      met_first condition others is = ap (λ (b : Bool). needs b BadEvent others) is

  -- a bad event, if the first condition fails, or a bad event comes of those after it
  bad_first : (condition : Bool) (others : Option Fault) → (condition ≡ false) ⊎ (others ≡ Some BadEvent) →
      needs condition BadEvent others ≡ Some BadEvent
  bad_first false others either = refl
  bad_first true others (inl is) = absurd (true≢false is)
  bad_first true others (inr is) = is

  passed : (condition : Bool) (others : Option Fault) → condition ≡ true → needs condition BadEvent others ≡ others
  passed condition others is = ap (λ (b : Bool). needs b BadEvent others) is

  faults_are_ordered : FaultsAreOrdered core number worker replay
  faults_are_ordered = record {
    announces = λ tenant command either. by_its_own (Announce number tenant command) (Some BadEvent) refl
        (bad_first _ _ (⊎_elim (λ other. inl (not_idle _ other)) (λ unknown. inr (denied _ _ _ (is_not_below _ _ unknown))) either));
    reads = λ either. by_its_own (Read number) (Some BadEvent) refl
        (bad_first _ _ (⊎_elim (λ other. inl (neither _ other.0 other.1)) (λ none. inr (denied _ _ _ (is_not_below _ _ none))) either));
    looks = λ other. by_its_own (Look number) (Some BadEvent) refl (bad_first _ _ (inl (not_pending _ other)));
    looks_full = λ phase none. by_its_own (Look number) (Some LogFull) refl
        (passed _ _ (ap is_pending phase) ∙ denied _ _ _ (is_not_below _ _ none));
    looks_unmarked = λ phase room none. by_its_own (Look number) (Some BadEvent) refl
        (passed _ _ (ap is_pending phase)
        ∙ ap (λ (b : Bool). needs b LogFull (needs (is_some worker.mark) BadEvent None)) (is_below _ _ room)
        ∙ denied _ _ _ (ap is_some none));
    proposes = λ other. by_its_own (Propose number) (Some BadEvent) refl (bad_first _ _ (inl (not_looked _ other)));
    replays = λ either. by_its_own (Replay number) (Some BadEvent) refl
        (bad_first _ _ (⊎_elim (λ stopped. inl (ap (λ (it : Phase). not (is_stopped it)) stopped))
        (λ none. inr (denied _ _ _ (is_not_below _ _ none))) either));
    stops = λ stopped. by_its_own (Stop number) (Some BadEvent) refl
        (bad_first _ _ (inl (ap (λ (it : Phase). not (is_stopped it)) stopped)));
  }

pub faults_stand : (core : CoreState) → FaultsStand core
faults_stand core number worker replay has = faults_are_ordered core number worker replay has

pub workers_are_free : (core : CoreState) → WorkersAreFree core
workers_are_free core number worker replay has = nobody_waits core number worker replay has

-- there is one worker of a number, so that an event of the shown log makes one state
shown_one : (size : LogSize) (old : ShownState) (event : ShownEvent) (new other : ShownState) →
    Step size old event new → Step size old event other → new ≡ other
shown_one size old (announces number) new other one two =
    one.4 ∙ ap (λ (it : WorkerState). with_worker old number (announce it)) (same_Some one.0 two.0 (sym one.1 ∙ two.1)) ∙ sym two.4
shown_one size old (reads number) new other one two =
    one.4 ∙ ap (λ (it : WorkerState). with_worker old number (read number (next old it) it)) (same_Some one.0 two.0 (sym one.1 ∙ two.1)) ∙ sym two.4
shown_one size old (looks number) new other one two =
    let makes : WorkerState → ShownState = λ it. with_worker old number (look (turn size it) (announced_by old (turn size it)) it) in
    one.5 ∙ ap makes (same_Some one.0 two.0 (sym one.1 ∙ two.1)) ∙ sym two.5
shown_one size old (proposes number) new other one two =
    let makes : WorkerState → ShownState = λ it. record {
      decided = decided_with (proposal number it) old.decided (next old it);
      workers = slice_set old.workers number (propose number (next old it) it);
    } in
    one.3 ∙ ap makes (same_Some one.0 two.0 (sym one.1 ∙ two.1)) ∙ sym two.3
shown_one size old (stops number) new other one two =
    one.3 ∙ ap (λ (it : WorkerState). with_worker old number (stop it)) (same_Some one.0 two.0 (sym one.1 ∙ two.1)) ∙ sym two.3

-- of the other events but the announcement only what is shown changes
only_shown : (old new other : CoreState) (event : ShownEvent) →
    Step (core_size old) old.shown event new.shown → Step (core_size old) old.shown event other.shown →
    new ≡ record old { shown = new.shown } → other ≡ record old { shown = other.shown } → new ≡ other
only_shown old new other event one two new_is other_is =
    new_is ∙ ap (λ (it : ShownState). record old { shown = it }) (shown_one (core_size old) old.shown event new.shown other.shown one two) ∙ sym other_is

-- a replay: the tables that take one entry's effect are determined place by place
module _ (old new other : CoreState) (number : ℕ) (reply other_reply : Option Reply)
    (one : CoreStep old (Replay number) new reply) (two : CoreStep old (Replay number) other other_reply) where
  same_replay : one.3 ≡ two.3
  same_replay = same_Some one.3 two.3 (sym one.4 ∙ two.4)

  same_tables : one.6 ≡ two.6
  same_tables = same_by_places one.6 two.6 (λ tenant.
      let takes : ReplayState → Option TableState = λ it.
      option_map (λ state. with_command state (own_command tenant (entry_at old it.replayed))) (slice_get it.tables tenant) in
      one.7 tenant ∙ ap takes same_replay ∙ sym (two.7 tenant))

  replays_one : (new ≡ other) × (reply ≡ other_reply)
  replays_one =
      let makes : ReplayState → List TableState → CoreState = λ it tables.
      record old { replays = slice_set old.replays number (record { replayed = it.replayed + 1; tables = tables }) } in
      let answers : ReplayState → Option Reply = λ it. reply_from number it.tables (entry_at old it.replayed) in
      (one.8 ∙ ap₂ makes same_replay same_tables ∙ sym two.8, one.9 ∙ ap answers same_replay ∙ sym two.9)

pub steps_are_one : (core : CoreState) → StepsAreOne core
steps_are_one core (Announce number tenant command) new other reply other_reply one two =
    let makes : ShownState → CoreState = λ it. record core { shown = it; entries = with_entry core.entries (announced_entry core number tenant command) } in
    (one.2 ∙ ap makes (shown_one (core_size core) core.shown (announces number) new.shown other.shown one.1 two.1) ∙ sym two.2, one.3 ∙ sym two.3)
steps_are_one core (Read number) new other reply other_reply one two =
    (only_shown core new other (reads number) one.0 two.0 one.1 two.1, one.2 ∙ sym two.2)
steps_are_one core (Look number) new other reply other_reply one two =
    (only_shown core new other (looks number) one.0 two.0 one.1 two.1, one.2 ∙ sym two.2)
steps_are_one core (Propose number) new other reply other_reply one two =
    (only_shown core new other (proposes number) one.0 two.0 one.1 two.1, one.2 ∙ sym two.2)
steps_are_one core (Stop number) new other reply other_reply one two =
    (only_shown core new other (stops number) one.0 two.0 one.1 two.1, one.2 ∙ sym two.2)
steps_are_one core (Replay number) new other reply other_reply one two = replays_one core new other number reply other_reply one two
