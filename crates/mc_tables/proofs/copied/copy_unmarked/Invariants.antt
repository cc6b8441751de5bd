use Rattle.mc_tables.specs.Layers.{owned_table, placed}
use Rattle.mc_tables.proofs.Copying.{IsRemoving}
use Rattle.mc_tables.proofs.copied.copy_unmarked.Given as goal

-- the copy lacks the keys whose places are marked, so far
abbrev pub invariant-loop-place : goal.invariant-loop-place
invariant-loop-place l = IsRemoving (owned_table l.base) (placed l.base) l.marks l.place (owned_table l.copy)
