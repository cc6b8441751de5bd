-- Doing what an event list asks for: an event, what a submit stands for, a whole list; from which
-- state each leads to which, which replies it gives, and how it ends. This project's profile.
use Rattle.std.specs.Prelude.{◌≡◌, ◌⊎◌, ℕ, zero, suc, List, [], ◌∷◌, ◌++◌, Option, Some, None, Result, Ok, Err}
use Rattle.mc_model.specs.declared.fault.Fault.{Fault}
use Rattle.mc_model.specs.declared.fault.Fault.TheVariants.{Memory}
use Rattle.mc_model.specs.declared.reply.Reply.{Reply}
use Rattle.uc_core.specs.Core.{CoreState}
use Rattle.uc_core.specs.Run.{Given, IsFaultOf, given_by}
use Rattle.uc_core.specs.Step.{CoreStep}
use Rattle.uc_core.specs.declared.event.Event.{Event}
use Rattle.uc_core.specs.declared.event.Event.TheVariants.{Announce}
use Rattle.mc_schedules.specs.declared.schedule.Action.{Action}
use Rattle.mc_schedules.specs.declared.schedule.Action.TheVariants as action
use Rattle.mc_schedules.specs.declared.schedule.Item.{Item}
use Rattle.mc_schedules.specs.Needed.{needed}

-- how something ended: `None` if all of it was done, or the number of the line whose event met a
-- fault, and the fault
abbrev pub Ending : Type 0
Ending = Option (ℕ × Fault)

-- it ended because it ran out of memory
abbrev pub RanOut : Ending → Type 0
RanOut end = (line : ℕ) × (end ≡ Some (line, Memory))

-- from which state something leads to which, with which replies, and how it ends
abbrev pub Doing : Type 1
Doing = CoreState → CoreState → List Given → Ending → Type 0

-- Nothing is done.
abbrev pub DoesNothing : Doing
DoesNothing old new given end = (new ≡ old) × (given ≡ []) × (end ≡ None)

-- An event of a line is taken, or it meets a fault, which changes nothing.
abbrev pub TakesEvent : ℕ → Event → Doing
TakesEvent line event old new given None =
    (reply : Option Reply) × CoreStep old event new reply × (given ≡ given_by old event reply)
TakesEvent line event old new given (Some met) =
    (met.0 ≡ line) × IsFaultOf old event met.1 × (new ≡ old) × (given ≡ [])

-- One thing is done and then another; after a fault nothing more is done.
abbrev pub Then : Doing → Doing → Doing
Then one other old new given end =
    ((met : ℕ × Fault) × (end ≡ Some met) × one old new given end)
    ⊎ ((between : CoreState) × (earlier : List Given) × (later : List Given)
    × one old between earlier None × other between new later end × (given ≡ earlier ++ later))

-- A worker takes the events it needs, `events` of them, until it needs nothing more.
abbrev pub Finishes : ℕ → ℕ → ℕ → Doing
Finishes zero line number old new given end =
    (needed old number ≡ None) × DoesNothing old new given end
Finishes (suc events) line number old new given end =
    (event : Event) × (needed old number ≡ Some event)
    × Then (TakesEvent line event) (Finishes events line number) old new given end

-- What a line asks for is done: an event, or an announcement and all that its worker needs after
-- it.
abbrev pub Acts : ℕ → Action → Doing
Acts line (action.Event event) old new given end = TakesEvent line event old new given end
Acts line (action.Submit number tenant command) old new given end =
    (events : ℕ) × Then (TakesEvent line (Announce number tenant command))
    (Finishes events line number) old new given end

-- The lines' actions are done in order.
abbrev pub DoesAll : List Item → Doing
DoesAll [] old new given end = DoesNothing old new given end
DoesAll (item ∷ items) old new given end =
    Then (Acts item.line item.action) (DoesAll items) old new given end

-- how what a line asks for ended
abbrev pub ended : ℕ → Result (Unit {0}) Fault → Ending
ended line (Ok nothing) = None
ended line (Err fault) = Some (line, fault)

-- Something of a line is done from one state to another, and its replies are appended to those
-- before; it ends as a call's result says.
abbrev pub Did : Doing → ℕ → CoreState → CoreState → List Given → List Given →
    Result (Unit {0}) Fault → Type 0
Did doing line old new before after told =
    (given : List Given) × doing old new given (ended line told) × (after ≡ before ++ given)
