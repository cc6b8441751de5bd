-- What a list does is a run of the core.
use Rattle.std.proofs.Common.{inl, inr, ℕ, zero, suc, List, [], ◌∷◌, ◌++◌, Some, None, refl, sym, ap, subst, ◌∙◌}
use Rattle.std.proofs.lemmas.List.{append-nil, append_assoc}
use Rattle.uc_core.specs.Core.{CoreState, new_core}
use Rattle.uc_core.specs.Run.{Given, IsReachedCore, Runs, given_by}
use Rattle.uc_core.specs.declared.event.Event.{Event}
use Rattle.uc_core.specs.declared.event.Event.TheVariants.{Announce}
use Rattle.mc_schedules.specs.declared.schedule.Action.{Action}
use Rattle.mc_schedules.specs.declared.schedule.Action.TheVariants as action
use Rattle.mc_schedules.specs.declared.schedule.Item.{Item}
use Rattle.mc_schedules.specs.Doing.{Acts, Doing, DoesAll, Ending, Finishes, TakesEvent, Then}

-- some run leads from one state to another, and gives these replies
abbrev pub SomeRun : CoreState → CoreState → List Given → Type 0
SomeRun old new given = (events : List Event) × Runs old events new given

-- one run after another is a run
pub Runs-join : (old between new : CoreState) (events others : List Event) (earlier later : List Given) →
    Runs old events between earlier → Runs between others new later → Runs old (events ++ others) new (earlier ++ later)
Runs-join old between new [] others earlier later one other =
    subst (λ (given : List Given). Runs old others new given) (sym (ap (λ (given : List Given). given ++ later) one.1))
    (subst (λ (core : CoreState). Runs core others new later) one.0 other)
Runs-join old between new (event ∷ events) others earlier later one other = (
  one.0,
  one.1,
  one.2 ++ later,
  one.3,
  Runs-join one.0 between new events others one.2 later one.4 other,
  ap (λ (given : List Given). given ++ later) one.5 ∙ append_assoc (given_by old event one.1) one.2 later,
)

-- a run from a core that some run has led to leads to such a core
pub reached-on : (old new : CoreState) (given : List Given) → IsReachedCore old → SomeRun old new given → IsReachedCore new
reached-on old new given (settings, events, earlier, run) more =
    (settings, events ++ more.0, earlier ++ given, Runs-join (new_core settings) old new events more.0 earlier given run more.1)

-- whatever it does is a run
abbrev pub AreRuns : Doing → Type 0
AreRuns doing = (old new : CoreState) (given : List Given) (end : Ending) → doing old new given end → SomeRun old new given

-- an event that is taken is a run of one event, and a fault is a run of none
pub taking_runs : (line : ℕ) (event : Event) → AreRuns (TakesEvent line event)
taking_runs line event old new given None does =
    (event ∷ [], (new, does.0, [], does.1, (refl, refl), does.2 ∙ sym (append-nil (given_by old event does.0))))
taking_runs line event old new given (Some met) does = ([], (does.2, does.3))

-- one thing and then another
pub then_runs : (one other : Doing) → AreRuns one → AreRuns other → AreRuns (Then one other)
then_runs one other one_runs other_runs old new given end (inl does) = one_runs old new given end does.2
then_runs one other one_runs other_runs old new given end (inr does) =
    let first = one_runs old does.0 does.1 None does.3 in
    let second = other_runs does.0 new does.2 end does.4 in (
      first.0 ++ second.0,
      subst (λ (them : List Given). Runs old (first.0 ++ second.0) new them) (sym does.5)
          (Runs-join old does.0 new first.0 second.0 does.1 does.2 first.1 second.1),
    )

-- what a worker needs, one event after another
pub finishing_runs : (events line number : ℕ) → AreRuns (Finishes events line number)
finishing_runs zero line number old new given end does = ([], (does.1.0, does.1.1))
finishing_runs (suc events) line number old new given end does =
    then_runs (TakesEvent line does.0) (Finishes events line number) (taking_runs line does.0) (finishing_runs events line number) old new given end does.2

-- what a line asks for
pub acting_runs : (line : ℕ) (asked : Action) → AreRuns (Acts line asked)
acting_runs line (action.Event event) old new given end does = taking_runs line event old new given end does
acting_runs line (action.Submit number tenant command) old new given end does =
    then_runs (TakesEvent line (Announce number tenant command)) (Finishes does.0 line number)
    (taking_runs line (Announce number tenant command)) (finishing_runs does.0 line number) old new given end does.1

-- what all lines ask for
pub all_run : (items : List Item) → AreRuns (DoesAll items)
all_run [] old new given end does = ([], (does.0, does.1))
all_run (item ∷ items) old new given end does =
    then_runs (Acts item.line item.action) (DoesAll items) (acting_runs item.line item.action) (all_run items) old new given end does
