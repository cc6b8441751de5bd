use Rattle.std.proofs.Common.{drop}
use Rattle.mc_tables.specs.Entries.{item_of_cell, laid_over, lent_key}
use Rattle.mc_tables.specs.Layers.{owned_table}
use Rattle.mc_tables.proofs.Copying.{IsLaying}
use Rattle.mc_tables.proofs.copied.copy_over.Given as goal

-- but for the entries that are left, the copy has what it is to have
abbrev pub invariant-loop-place : goal.invariant-loop-place
invariant-loop-place l =
    IsLaying lent_key (laid_over lent_key item_of_cell (owned_table l.fn.copy) l.over.entries) (owned_table l.copy) (drop l.place l.over.entries)
