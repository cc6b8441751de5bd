-- How a command changes what a key holds, after memcached's doc/protocol.txt, "Storage commands":
-- append adds data after existing data and prepend before, and both "ignore new flag and exptime
-- settings". Uniques that count up, and quotas, are this project's profile.
use Rattle.std.specs.Prelude.{ℕ, ◌+◌, Bool, if◌then◌else◌, ◌++◌, List, [], Option, Some, None}
use Rattle.std.specs.FinMap as map
use Rattle.mc_model.specs.declared.item.Item.{Item}
use Rattle.mc_model.specs.declared.key.Key.{Key}
use Rattle.mc_model.specs.State.{TableState}
use Rattle.mc_model.specs.Table.{Table}
use Rattle.mc_tables.specs.declared.storage.Change.{Change}
use Rattle.mc_tables.specs.declared.storage.Change.TheVariants.{Put, Append, Prepend}

-- the data of what is held
abbrev pub block_under : Option Item → List ℕ
block_under None = []
block_under (Some old) = old.block

-- the flags of what is held
abbrev pub flags_under : Option Item → ℕ
flags_under None = 0
flags_under (Some old) = old.flags

-- the data after a change
abbrev pub data_after : Option Item → Change → List ℕ
data_after old (Put flags block) = block.now
data_after old (Append block) = block_under old ++ block.now
data_after old (Prepend block) = block.now ++ block_under old

-- the flags after a change: those of what is held, except for a put
abbrev pub flags_after : Option Item → Change → ℕ
flags_after old (Put flags block) = flags
flags_after old (Append block) = flags_under old
flags_after old (Prepend block) = flags_under old

-- the item after a change
abbrev pub changed_item : Option Item → Change → ℕ → Item
changed_item old change unique =
    record { flags = flags_after old change; block = data_after old change; unique = unique }

-- the table after a change
abbrev pub with_change : Table → Key → Change → ℕ → Table
with_change table key change unique =
    map.insert table key (changed_item (map.get table key) change unique)

-- the state with one more change, which gets the next unique, if the quotas allow it
abbrev pub changed_if : Bool → TableState → Key → Change → TableState
changed_if fits state key change =
    if fits then record {
      limits = state.limits;
      table = with_change state.table key change (state.last_unique + 1);
      last_unique = state.last_unique + 1;
    } else state
