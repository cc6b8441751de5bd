use Rattle.std.proofs.Common.{drop}
use Rattle.mc_tables.specs.Entries.{laid_over, same_item, same_key}
use Rattle.mc_tables.specs.Maps.{map_table}
use Rattle.mc_tables.proofs.Copying.{IsLaying}
use Rattle.mc_tables.proofs.item_map.ItemMap.copy_into.Given as goal

-- but for the entries that are left, the copy has what it is to have
abbrev pub invariant-loop-place : goal.invariant-loop-place
invariant-loop-place l =
    IsLaying same_key (laid_over same_key same_item (map_table l.fn.copy) l.self.held.entries) (map_table l.copy) (drop l.place l.self.held.entries)
