-- How much one key counts for in a table's use, which the tenant's quota of bytes limits; this
-- project's profile.
use Rattle.std.specs.Prelude.{ℕ, Option, Some, None}
use Rattle.std.specs.FinMap as map
use Rattle.mc_model.specs.declared.item.Item.{Item}
use Rattle.mc_model.specs.declared.key.Key.{Key}
use Rattle.mc_model.specs.Table.{Table, weight}

-- the weight of what is under a key, 0 if nothing is, and the same in a table
abbrev pub weight_of : Key → Option Item → ℕ
weight_of key None = 0
weight_of key (Some item) = weight (key, item)

abbrev pub use_under : Table → Key → ℕ
use_under table key = weight_of key (map.get table key)
