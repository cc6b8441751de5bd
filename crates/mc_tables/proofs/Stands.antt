-- What stands for a list of commands stands for one more, once it has had that command's effect.
use Rattle.std.proofs.Common.{◌≡◌, Bool, Result, Ok, Err, OnOk, sym, subst, ◌∙◌, add-zero}
use Rattle.mc_model.specs.declared.command.Command.{Command}
use Rattle.mc_model.specs.declared.command.Command.TheVariants.{Get}
use Rattle.mc_model.specs.declared.key_list.KeyList.{KeyList}
use Rattle.model_lemmas.proofs.Histories.{StandsFor-push}
use Rattle.mc_model.specs.History.{StandsForMore}
use Rattle.mc_model.specs.State.{TableState, next_state}

pub StandsForMore-next : (command : Command) (old new : TableState) → new ≡ next_state old command → StandsForMore old command new
StandsForMore-next command old new is = subst (StandsForMore old command) (sym is) (StandsFor-push old command)

-- the same of a call that may have failed
pub OnOk-StandsForMore : {A E : Type 0} (result : Result A E) (command : Command) (old new : TableState) → OnOk result (new ≡ next_state old command) →
    OnOk result (StandsForMore old command new)
OnOk-StandsForMore (Ok value) command old new is = StandsForMore-next command old new is
OnOk-StandsForMore (Err error) command old new is = tt

-- a retrieval leaves the table
next_state-get : (state : TableState) (keys : KeyList) (uniques : Bool) → state ≡ next_state state (Get keys uniques)
next_state-get state keys uniques = λ i. record { limits = state.limits; table = state.table; last_unique = sym (add-zero state.last_unique) i }

pub StandsForMore-get : (state : TableState) (keys : KeyList) (uniques : Bool) → StandsForMore state (Get keys uniques) state
StandsForMore-get state keys uniques = StandsForMore-next (Get keys uniques) state state (next_state-get state keys uniques)

pub OnOk-StandsForMore-get : {A E : Type 0} (result : Result A E) (old new : TableState) (keys : KeyList) (uniques : Bool) → new ≡ old →
    OnOk result (StandsForMore old (Get keys uniques) new)
OnOk-StandsForMore-get (Ok value) old new keys uniques is = StandsForMore-next (Get keys uniques) old new (is ∙ next_state-get old keys uniques)
OnOk-StandsForMore-get (Err error) old new keys uniques is = tt
