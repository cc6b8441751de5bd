-- What a command does to a number, after memcached's doc/protocol.txt, "Increment/Decrement".
use Rattle.std.specs.Prelude.{ℕ, ◌+◌, ◌-◌, ◌%◌, ◌^◌}
use Rattle.std.specs.FinMap as map
use Rattle.mc_model.specs.declared.key.Key.{Key}
use Rattle.mc_model.specs.declared.reply.Reply.TheVariants.{NotFound}
use Rattle.mc_model.specs.declared.settings.Limits.{Limits}
use Rattle.mc_model.specs.Effect.{Effect, none_or_some, renumbered, unchanged}
use Rattle.mc_model.specs.Table.{Table}
use Rattle.mc_tables.specs.declared.storage.Delta.{Delta}
use Rattle.mc_tables.specs.declared.storage.Delta.TheVariants.{Up, Down}

-- the number after it
abbrev pub number_after : Delta → ℕ → ℕ
number_after (Up by) number = (number + by) % (2 ^ 64)
number_after (Down by) number = number - by

-- the effect on the number under a key
abbrev pub renumbered_at : Limits → Table → ℕ → Key → Delta → Effect
renumbered_at limits table unique key delta =
    none_or_some (map.get table key) (unchanged table NotFound)
    (λ old. renumbered limits table unique key old (number_after delta))
