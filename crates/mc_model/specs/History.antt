-- What a list of commands leaves of a tenant's table that was in a given state at first, or that
-- was opened with these quotas and is empty at first. The lists are in the order of the commands.
-- That each command acts on what those before it have left is Herlihy's universal construction
-- (Wait-Free Synchronization, TOPLAS 1991): the state at a cell of its list is that of the cell
-- before it, after one more operation. Quotas are this project's profile.
use Rattle.std.specs.Prelude.{◌≡◌, ℕ, Bool, List, [], ◌∷◌, ◌++◌}
use Rattle.std.specs.List.{fold}
use Rattle.mc_model.specs.declared.command.Command.{Command}
use Rattle.mc_model.specs.declared.reply.Reply.{Reply}
use Rattle.mc_model.specs.declared.settings.Limits.{Limits}
use Rattle.mc_model.specs.Effect.{is_acceptance}
use Rattle.mc_model.specs.State.{TableState, empty_table, next_reply, next_state}
use Rattle.mc_model.specs.Table.{Table}

-- the state after a list of commands, one after another, from this state on
unfoldable pub state_from : TableState → List Command → TableState
state_from opening list = fold next_state opening list

-- the reply to one more command then
abbrev pub answer_from : TableState → List Command → Command → Reply
answer_from opening list command = next_reply (state_from opening list) command

-- the same for a table that is empty at first
abbrev pub state_after : Limits → List Command → TableState
state_after opening list = state_from (empty_table opening) list

-- the quotas that apply from then on: those of the last command that sets them, or else those of
-- the opening
abbrev pub limits_after : Limits → List Command → Limits
limits_after opening list = (state_after opening list).limits

-- its table, and the number of changes
abbrev pub after : Limits → List Command → Table
after opening list = (state_after opening list).table

abbrev pub changes : Limits → List Command → ℕ
changes opening list = (state_after opening list).last_unique

-- the reply to one more command, and whether it is accepted
abbrev pub answer : Limits → List Command → Command → Reply
answer opening list command = next_reply (state_after opening list) command

abbrev pub accepts : Limits → List Command → Command → Bool
accepts opening list command = is_acceptance (answer opening list command)

-- the state stands for a list: a table opened with these quotas is in this state after the list
abbrev pub StandsFor : Limits → List Command → TableState → Type 0
StandsFor opening list state = state ≡ state_after opening list

-- whatever list the old state stood for, whatever the quotas of the opening, the new state stands
-- for that list with this command at the end
abbrev pub StandsForMore : TableState → Command → TableState → Type 0
StandsForMore old command new = (opening : Limits) (list : List Command) →
    StandsFor opening list old → StandsFor opening (list ++ command ∷ []) new
