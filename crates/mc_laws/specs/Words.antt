-- Terms of the laws: what they say of commands on one key, of quotas, and of the change that stored
-- an item. Only the contracts of laws rest on them. When a cas is let through, and that a key is
-- untouched, are after memcached's doc/protocol.txt, "Storage commands" ("only if no one else has
-- updated since I last fetched it"); quotas are this project's profile.
use Rattle.std.specs.Prelude.{◌≡◌, ◌≢◌, ◌⊎◌, ◌≤◌, false, IsTrue, List, [], ◌∷◌, ◌++◌, Some}
use Rattle.std.specs.FinMap as map
use Rattle.mc_model.specs.declared.command.Command.{Command}
use Rattle.mc_model.specs.declared.command.Command.TheVariants.{Store, Cas, Get, Delete, Incr, Decr, Flush, Limit}
use Rattle.mc_model.specs.declared.item.Item.{Item}
use Rattle.mc_model.specs.declared.key.Key.{Key}
use Rattle.mc_model.specs.declared.reply.Reply.{Reply}
use Rattle.mc_model.specs.declared.reply.Reply.TheVariants.{Stored, Refused}
use Rattle.mc_model.specs.declared.reply.TheConstants.WireNo.{NO_ROOM}
use Rattle.mc_model.specs.declared.settings.Limits.{Limits}
use Rattle.mc_model.specs.Effect.{Effect, is_refusal}
use Rattle.mc_model.specs.History.{accepts, after, answer, changes, limits_after, state_after}
use Rattle.mc_model.specs.Kinds.{SetsLimits}
use Rattle.mc_model.specs.State.{next_effect}
use Rattle.mc_model.specs.Table.{count_of, use_of}

-- the effect of a command after a list: two commands with the same effect do the same there
abbrev pub effect_after : Limits → List Command → Command → Effect
effect_after opening list command = next_effect (state_after opening list) command

-- whether the unique lets a cas through: it is then stored, or the quotas refuse it
abbrev pub IsLetThrough : Reply → Type 0
IsLetThrough reply = (reply ≡ Stored) ⊎ (reply ≡ Refused NO_ROOM)

-- the command, unless it is refused, changes the item under this key or removes it
abbrev pub ActsOn : Key → Command → Type 0
ActsOn key (Store verb other flags block) = other ≡ key
ActsOn key (Cas other flags block seen) = other ≡ key
ActsOn key (Get keys uniques) = ⊥
ActsOn key (Delete other) = other ≡ key
ActsOn key (Incr other by) = other ≡ key
ActsOn key (Decr other by) = other ≡ key
ActsOn key Flush = Unit {0}
ActsOn key (Limit limits) = ⊥

-- after a list, the command changes the item under the key or removes it
abbrev pub Touches : Limits → List Command → Key → Command → Type 0
Touches opening list key command =
    ActsOn key command × (is_refusal (answer opening list command) ≡ false)

-- none of the commands in between touches the key, each coming after those before it
abbrev pub IsUntouched : Limits → List Command → Key → List Command → Type 0
IsUntouched opening earlier key between = (front back : List Command) (command : Command) →
    between ≡ front ++ command ∷ back → Touches opening (earlier ++ front) key command → ⊥

-- no command of the list sets quotas
abbrev pub KeepsLimits : List Command → Type 0
KeepsLimits [] = Unit {0}
KeepsLimits (command ∷ list) = ¬ (SetsLimits command) × KeepsLimits list

-- after a list, the table has no more bytes and no more items than the quotas allow
abbrev pub IsWithinQuotas : Limits → List Command → Type 0
IsWithinQuotas opening list =
    (use_of (after opening list) ≤ (limits_after opening list).bytes)
    × (count_of (after opening list) ≤ (limits_after opening list).items)

-- the change that stored an item: the key didn't hold the item before the change, and holds it
-- right after
pub record IsStoredBy (opening : Limits) (list : List Command) (key : Key)
    (item : Item) : Type 0 where
  pub earlier : List Command
  pub change : Command
  pub later : List Command
  pub in_list : list ≡ earlier ++ change ∷ later
  pub accepted : IsTrue (accepts opening earlier change)
  pub absent : map.get (after opening earlier) key ≢ Some item
  pub stored : map.get (after opening (earlier ++ change ∷ [])) key ≡ Some item
  pub unique : item.unique ≡ changes opening (earlier ++ change ∷ [])
