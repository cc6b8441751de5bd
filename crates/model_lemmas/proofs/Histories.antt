-- The state after no command and after one more, after a base and more, and how far its unique
-- gets.
use Rattle.std.specs.Prelude.{◌≡◌, ◌+◌, ◌≤◌, length, Bool, true, false, if◌then◌else◌, List, [], ◌∷◌, ◌++◌, refl}
use Rattle.std.specs.List.{fold}
use Rattle.std.proofs.Common.{ap, arith, sym, ◌∙◌}
use Rattle.std.proofs.lemmas.List.Sums.{fold-append, fold_push}
use Rattle.mc_model.specs.declared.command.Command.{Command}
use Rattle.mc_model.specs.declared.settings.Limits.{Limits}
use Rattle.mc_model.specs.Effect.{is_acceptance}
use Rattle.mc_model.specs.State.{TableState, empty_table, next_reply, next_state}
use Rattle.mc_model.specs.History.{StandsFor, StandsForMore, answer, answer_from, changes, state_after, state_from}

-- The state after no command, and after one more command at the end.
pub state_from-none : (opening : TableState) → state_from opening [] ≡ opening
unfolding state_from
state_from-none opening = refl

pub state_from-push : (opening : TableState) (list : List Command) (command : Command) →
    state_from opening (list ++ command ∷ []) ≡ next_state (state_from opening list) command
unfolding state_from
state_from-push opening list command = fold_push next_state opening list command

pub state_after-none : (opening : Limits) → state_after opening [] ≡ empty_table opening
state_after-none opening = state_from-none (empty_table opening)

pub state_after-push : (opening : Limits) (list : List Command) (command : Command) →
    state_after opening (list ++ command ∷ []) ≡ next_state (state_after opening list) command
state_after-push opening list command = state_from-push (empty_table opening) list command

-- If the opening stands for a base, the state after a list stands for the base followed by the
-- list, and the replies are those after both.
pub state_from-more : (opening : TableState) (base more : List Command) → state_from opening (base ++ more) ≡ state_from (state_from opening base) more
unfolding state_from
state_from-more opening base more = fold-append next_state opening base more

pub StandsFor-more : (limits : Limits) (base own : List Command) (opening : TableState) → StandsFor limits base opening →
    StandsFor limits (base ++ own) (state_from opening own)
StandsFor-more limits base own opening stands = ap (λ s. state_from s own) stands ∙ sym (state_from-more (empty_table limits) base own)

pub answer-more : (limits : Limits) (base own : List Command) (opening : TableState) (command : Command) → StandsFor limits base opening →
    answer_from opening own command ≡ answer limits (base ++ own) command
answer-more limits base own opening command stands = ap (λ s. next_reply s command) (StandsFor-more limits base own opening stands)

pub StandsFor-none : (opening : Limits) → StandsFor opening [] (empty_table opening)
StandsFor-none opening = sym (state_after-none opening)

pub StandsFor-push : (state : TableState) (command : Command) → StandsForMore state command (next_state state command)
StandsFor-push state command opening list stands = ap (λ s. next_state s command) stands ∙ sym (state_after-push opening list command)

-- a command counts as at most one change
pub uniques-le : (opening : TableState) (list : List Command) → (state_from opening list).last_unique ≤ opening.last_unique + length list
unfolding state_from
uniques-le opening list = few list opening
  where
    at_most_one : (b : Bool) → (if b then 1 else 0) ≤ 1
    at_most_one true = omega arith
    at_most_one false = omega arith

    few : (list : List Command) (state : TableState) → (fold next_state state list).last_unique ≤ state.last_unique + length list
    few [] state = omega arith
    few (command ∷ list) state = omega (arith, few list (next_state state command), at_most_one (is_acceptance (next_reply state command)))

pub changes-le : (opening : Limits) (list : List Command) → changes opening list ≤ length list
changes-le opening list = omega (arith, uniques-le (empty_table opening) list)
