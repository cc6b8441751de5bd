use Rattle.std.proofs.Common.{drop}
use Rattle.std.specs.Arc.{arc_value}
use Rattle.mc_tables.specs.Maps.{map_table}
use Rattle.mc_tables.proofs.Copying.{IsCopyingLeft, is_gone_from}
use Rattle.mc_tables.proofs.base.Base.copy_into.Given as goal

-- what was copied so far, before what is left, is all that isn't marked
abbrev pub invariant-loop-place : goal.invariant-loop-place
invariant-loop-place l =
    IsCopyingLeft (is_gone_from (arc_value l.self.items).held.entries l.self.marks.items) (map_table l.copy) (drop l.place (arc_value l.self.items).held.entries) (arc_value l.self.items).held.entries
