-- What a command does to a table and what the reply is, after memcached's doc/protocol.txt,
-- "Storage commands", "Retrieval command", "Deletion", "Increment/Decrement" and, for flush_all,
-- "Other commands"; one equation per command. The order of the refusals, the refusal of joined data
-- that are too long, the quotas, the command that sets them and a decr without padding are this
-- project's profile.
use Rattle.std.specs.Prelude.{ℕ, ◌+◌, ◌-◌, ◌%◌, ◌^◌, ◌==◌, nat_le, Bool, true, false, if◌then◌else◌, ◌++◌, length, decimal, Option, Some, None}
use Rattle.std.specs.List.{filter_map}
use Rattle.std.specs.Option.{option_map}
use Rattle.std.specs.FinMap as map
use Rattle.mc_model.specs.declared.command.Command.{Command}
use Rattle.mc_model.specs.declared.command.Command.TheVariants.{Store, Cas, Get, Delete, Incr, Decr, Flush, Limit}
use Rattle.mc_model.specs.declared.command.Verb.TheVariants.{Set, Add, Replace, Append, Prepend}
use Rattle.mc_model.specs.declared.item.Data.{Data}
use Rattle.mc_model.specs.declared.item.Item.{Item}
use Rattle.mc_model.specs.declared.item.TheConstants.{DATA_BYTES}
use Rattle.mc_model.specs.declared.key.Key.{Key}
use Rattle.mc_model.specs.declared.reply.Reply.{Reply}
use Rattle.mc_model.specs.declared.reply.Reply.TheVariants.{Stored, NotStored, Exists, NotFound, Deleted, Ok, Number, Values, Refused}
use Rattle.mc_model.specs.declared.reply.Value.{Value}
use Rattle.mc_model.specs.declared.reply.TheConstants.WireNo.{NO_ROOM, NOT_A_NUMBER, TOO_LARGE}
use Rattle.mc_model.specs.declared.settings.Limits.{Limits}
use Rattle.mc_model.specs.Number.{numeric_value}
use Rattle.mc_model.specs.Table.{Table, is_within}

-- the table that a command leaves, and its reply
pub record Effect : Type 0 where
  pub table : Table
  pub reply : Reply

-- an item as a retrieval shows it
abbrev pub shown_item : Bool → Key → Item → Value
shown_item uniques key item = record {
  key = key;
  flags = item.flags;
  block = item.block;
  unique = if uniques then Some item.unique else None;
}

-- what a retrieval shows of a key: its item, or nothing if the key isn't held
abbrev pub shown_at : Table → Bool → Key → Option Value
shown_at table uniques key = option_map (shown_item uniques key) (map.get table key)

-- the table stays as it is
abbrev pub unchanged : Table → Reply → Effect
unchanged table reply = record { table = table; reply = reply }

-- puts an item under the key, over what the key held, if the table is then within the quotas
abbrev pub stored : Limits → Table → Key → Item → Reply → Effect
stored limits table key item reply =
    if is_within limits (map.insert table key item)
    then record { table = map.insert table key item; reply = reply }
    else unchanged table (Refused NO_ROOM)

-- one effect if there is no value, another of the value if there is one
abbrev pub none_or_some : {A : Type 0} → Option A → Effect → (A → Effect) → Effect
none_or_some None none some = none
none_or_some (Some value) none some = some value

-- stores joined data, if a block may have that many bytes
abbrev pub joined : Limits → Table → ℕ → Key → ℕ → Data → Effect
joined limits table unique key flags block =
    if nat_le (length block) DATA_BYTES
    then stored limits table key (record { flags = flags; block = block; unique = unique }) Stored
    else unchanged table (Refused TOO_LARGE)

-- replaces the number under a key by another, in decimal digits; the flags stay
abbrev pub renumbered : Limits → Table → ℕ → Key → Item → (ℕ → ℕ) → Effect
renumbered limits table unique key old next =
    none_or_some (numeric_value old.block) (unchanged table (Refused NOT_A_NUMBER))
    (λ number. stored limits table key
    (record { flags = old.flags; block = decimal (next number); unique = unique })
    (Number (next number)))

-- The effect of a command on a tenant's table, where a change gets this unique. decr subtracts
-- natural numbers, so it stops at 0.
abbrev pub effect : Limits → Table → ℕ → Command → Effect
effect limits table unique (Store Set key flags block) =
    stored limits table key (record { flags = flags; block = block; unique = unique }) Stored
effect limits table unique (Store Add key flags block) =
    none_or_some (map.get table key)
    (stored limits table key (record { flags = flags; block = block; unique = unique }) Stored)
    (λ old. unchanged table NotStored)
effect limits table unique (Store Replace key flags block) =
    none_or_some (map.get table key) (unchanged table NotStored)
    (λ old. stored limits table key
    (record { flags = flags; block = block; unique = unique }) Stored)
effect limits table unique (Store Append key new_flags block) =
    none_or_some (map.get table key) (unchanged table NotStored)
    (λ old. joined limits table unique key old.flags (old.block ++ block))
effect limits table unique (Store Prepend key new_flags block) =
    none_or_some (map.get table key) (unchanged table NotStored)
    (λ old. joined limits table unique key old.flags (block ++ old.block))
effect limits table unique (Cas key flags block seen) =
    none_or_some (map.get table key) (unchanged table NotFound)
    (λ old. if old.unique == seen
    then stored limits table key (record { flags = flags; block = block; unique = unique }) Stored
    else unchanged table Exists)
effect limits table unique (Get keys uniques) =
    unchanged table (Values (filter_map (shown_at table uniques) keys))
effect limits table unique (Delete key) =
    none_or_some (map.get table key) (unchanged table NotFound)
    (λ old. record { table = map.remove table key; reply = Deleted })
effect limits table unique (Incr key by) =
    none_or_some (map.get table key) (unchanged table NotFound)
    (λ old. renumbered limits table unique key old (λ number. (number + by) % (2 ^ 64)))
effect limits table unique (Decr key by) =
    none_or_some (map.get table key) (unchanged table NotFound)
    (λ old. renumbered limits table unique key old (λ number. number - by))
effect limits table unique Flush = record { table = map.empty; reply = Ok }
effect limits table unique (Limit new) = unchanged table Ok

-- whether a reply says that a command counts as a change: that it gave an item a unique
abbrev pub is_acceptance : Reply → Bool
is_acceptance Stored = true
is_acceptance (Number number) = true
is_acceptance _ = false

-- whether a reply says that a command was refused
abbrev pub is_refusal : Reply → Bool
is_refusal NotStored = true
is_refusal Exists = true
is_refusal NotFound = true
is_refusal (Refused refusal) = true
is_refusal _ = false
