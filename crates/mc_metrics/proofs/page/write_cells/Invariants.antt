use Rattle.std.proofs.Common.{◌≡◌, ◌++◌, flat_map, take}
use Rattle.mc_metrics.specs.Page.{number_cell}
use Rattle.mc_metrics.proofs.page.write_cells.Given as goal

abbrev pub invariant-loop-number : goal.invariant-loop-number
invariant-loop-number l = l.out.items ≡ l.initial.out.items ++ flat_map number_cell (take l.number-index l.numbers)
