use Rattle.std.proofs.Common.{◌≡◌, take}
use Rattle.mc_model.specs.Replay.{empty_tables}
use Rattle.mc_items.proofs.tables.cell_tables.Given as goal

abbrev pub invariant-loop-quotas : goal.invariant-loop-quotas
invariant-loop-quotas l = l.tables.items ≡ empty_tables (take l.quotas-index l.limits)
