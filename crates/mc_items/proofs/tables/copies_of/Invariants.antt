use Rattle.std.proofs.Common.{◌≡◌, take}
use Rattle.mc_items.proofs.tables.copies_of.Given as goal

abbrev pub invariant-loop-table : goal.invariant-loop-table
invariant-loop-table l = l.copies.items ≡ take l.table-index l.tables
