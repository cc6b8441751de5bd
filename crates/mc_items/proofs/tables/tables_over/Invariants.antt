use Rattle.std.proofs.Common.{◌≡◌, take}
use Rattle.mc_items.proofs.tables.tables_over.Given as goal

abbrev pub invariant-loop-table : goal.invariant-loop-table
invariant-loop-table l = l.tables.items ≡ take l.table-index l.base
