-- A list does one thing, unless it runs out of memory: the state determines its events, and each
-- leads one way.
use Rattle.std.proofs.Common.{◌≡◌, inl, inr, ℕ, zero, suc, List, [], ◌∷◌, ◌++◌, Some, None, refl, sym, ap, ap₂, subst, ◌∙◌, unwrap_or}
use Rattle.std.proofs.lemmas.Option.{none-some, same_Some}
use Rattle.mc_model.specs.declared.fault.Fault.{Fault}
use Rattle.mc_model.specs.declared.fault.Fault.TheVariants.{Memory}
use Rattle.uc_core.specs.Core.{CoreState}
use Rattle.uc_core.specs.Headline.{OfEveryRun, StepsAreEnabled, StepsAreOne}
use Rattle.uc_core.specs.Run.{Given, IsReachedCore, given_by}
use Rattle.uc_core.specs.declared.event.Event.{Event}
use Rattle.uc_core.specs.declared.event.Event.TheVariants.{Announce}
use Rattle.mc_schedules.specs.declared.schedule.Action.{Action}
use Rattle.mc_schedules.specs.declared.schedule.Action.TheVariants as action
use Rattle.mc_schedules.specs.declared.schedule.Item.{Item}
use Rattle.mc_schedules.specs.Doing.{Acts, Doing, DoesAll, Ending, Finishes, RanOut, TakesEvent, Then}
use Rattle.mc_schedules.proofs.Joined.{AreRuns, acting_runs, reached-on, taking_runs}

-- from a core that some run has led to, one and the other do the same where neither runs out of
-- memory
abbrev pub AreAlike : Doing → Doing → Type 0
AreAlike one two = (old new other : CoreState) (given other_given : List Given) (end other_end : Ending) → IsReachedCore old →
    one old new given end → two old other other_given other_end → ¬ RanOut end → ¬ RanOut other_end →
    (new ≡ other) × (given ≡ other_given) × (end ≡ other_end)

-- what is all done hasn't run out
not_out : ¬ RanOut None
not_out out = none-some (out.0, Memory) out.1

-- What is known of the core's events: one that leads on meets no fault, and it leads to one state.
module _ (enabled : OfEveryRun (λ core given. StepsAreEnabled core)) (one_way : (core : CoreState) → StepsAreOne core) where
  -- an event that leads on meets no fault but `Memory`
  only_memory : (old new : CoreState) (event : Event) (line : ℕ) (given other_given : List Given) (other : CoreState) (met : ℕ × Fault) →
      IsReachedCore old →
      TakesEvent line event old new given None → TakesEvent line event old other other_given (Some met) → RanOut (Some met)
  only_memory old new event line given other_given other met reached does meets =
      let none = enabled reached.0 reached.1 old reached.2 reached.3 event new does.0 does.1 in
      (met.0, ap (λ (fault : Fault). Some (met.0, fault)) (meets.1.0 ∙ ap (λ it. unwrap_or it Memory) none))

  -- an event is taken in one way, or it meets one fault
  pub taking_alike : (line : ℕ) (event : Event) → AreAlike (TakesEvent line event) (TakesEvent line event)
  taking_alike line event old new other given other_given None None reached does also stays other_stays =
      let same = one_way old event new other does.0 also.0 does.1 also.1 in
      (same.0, does.2 ∙ ap (given_by old event) same.1 ∙ sym also.2, refl)
  taking_alike line event old new other given other_given None (Some met) reached does also stays other_stays =
      absurd (other_stays (only_memory old new event line given other_given other met reached does also))
  taking_alike line event old new other given other_given (Some met) None reached does also stays other_stays =
      absurd (stays (only_memory old other event line other_given given new met reached also does))
  taking_alike line event old new other given other_given (Some met) (Some other_met) reached does also stays other_stays = (
    does.2 ∙ sym also.2,
    does.3 ∙ sym also.3,
    ap₂ (λ (number : ℕ) (fault : Fault). Some (number, fault)) (does.0 ∙ sym also.0) (does.1.0 ∙ sym also.1.0),
  )

  -- one thing and then another, each of which is alike
  pub then_alike : (one two next_one next_two : Doing) → AreRuns one → AreAlike one two → AreAlike next_one next_two →
      AreAlike (Then one next_one) (Then two next_two)
  then_alike one two next_one next_two runs first second old new other given other_given end other_end reached (inl does) (inl also) stays other_stays =
      first old new other given other_given end other_end reached does.2 also.2 stays other_stays
  then_alike one two next_one next_two runs first second old new other given other_given end other_end reached (inl does) (inr also) stays other_stays =
      let same = first old new also.0 given also.1 end None reached does.2 also.3 stays not_out in
      absurd (none-some does.0 (sym same.2 ∙ does.1))
  then_alike one two next_one next_two runs first second old new other given other_given end other_end reached (inr does) (inl also) stays other_stays =
      let same = first old does.0 other does.1 other_given None other_end reached does.3 also.2 not_out other_stays in
      absurd (none-some also.0 (same.2 ∙ also.1))
  then_alike one two next_one next_two runs first second old new other given other_given end other_end reached (inr does) (inr also) stays other_stays =
      let before = first old does.0 also.0 does.1 also.1 None None reached does.3 also.3 not_out not_out in
      let between = reached-on old does.0 does.1 reached (runs old does.0 does.1 None does.3) in
      let last = subst (λ (core : CoreState). next_two core other also.2 other_end) (sym before.0) also.4 in
      let after = second does.0 new other does.2 also.2 end other_end between does.4 last stays other_stays in
      (after.0, does.5 ∙ ap₂ (λ (earlier later : List Given). earlier ++ later) before.1 after.1 ∙ sym also.5, after.2)

  -- a worker needs one event at most, so that it finishes in one way
  pub finishing_alike : (events others line number : ℕ) → AreAlike (Finishes events line number) (Finishes others line number)
  finishing_alike zero zero line number old new other given other_given end other_end reached does also stays other_stays =
      (does.1.0 ∙ sym also.1.0, does.1.1 ∙ sym also.1.1, does.1.2 ∙ sym also.1.2)
  finishing_alike zero (suc others) line number old new other given other_given end other_end reached does also stays other_stays =
      absurd (none-some also.0 (sym does.0 ∙ also.1))
  finishing_alike (suc events) zero line number old new other given other_given end other_end reached does also stays other_stays =
      absurd (none-some does.0 (sym also.0 ∙ does.1))
  finishing_alike (suc events) (suc others) line number old new other given other_given end other_end reached does also stays other_stays =
      let same = same_Some also.0 does.0 (sym also.1 ∙ does.1) in
      let alike = then_alike (TakesEvent line does.0) (TakesEvent line does.0) (Finishes events line number) (Finishes others line number)
      (taking_runs line does.0) (taking_alike line does.0) (finishing_alike events others line number) in
      alike old new other given other_given end other_end reached does.2
      (subst (λ (event : Event). Then (TakesEvent line event) (Finishes others line number) old other other_given other_end) same also.2) stays other_stays

  -- what a line asks for is done in one way
  pub acting_alike : (line : ℕ) (asked : Action) → AreAlike (Acts line asked) (Acts line asked)
  acting_alike line (action.Event event) old new other given other_given end other_end reached does also stays other_stays =
      taking_alike line event old new other given other_given end other_end reached does also stays other_stays
  acting_alike line (action.Submit number tenant command) old new other given other_given end other_end reached does also stays other_stays =
      let event = Announce number tenant command in
      let alike = then_alike (TakesEvent line event) (TakesEvent line event) (Finishes does.0 line number) (Finishes also.0 line number)
      (taking_runs line event) (taking_alike line event) (finishing_alike does.0 also.0 line number) in
      alike old new other given other_given end other_end reached does.1 also.1 stays other_stays

  -- A list has one outcome, unless it runs out of memory.
  pub all_alike : (items : List Item) → AreAlike (DoesAll items) (DoesAll items)
  all_alike [] old new other given other_given end other_end reached does also stays other_stays =
      (does.0 ∙ sym also.0, does.1 ∙ sym also.1, does.2 ∙ sym also.2)
  all_alike (item ∷ items) old new other given other_given end other_end reached does also stays other_stays =
      let alike = then_alike (Acts item.line item.action) (Acts item.line item.action) (DoesAll items) (DoesAll items)
      (acting_runs item.line item.action) (acting_alike item.line item.action) (all_alike items) in
      alike old new other given other_given end other_end reached does also stays other_stays
