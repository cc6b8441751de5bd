use Rattle.std.proofs.Common.{◌≡◌, vec_len}
use Rattle.uc_cells.proofs.row.Row.open.Given as goal

abbrev pub invariant-loop-cell : goal.invariant-loop-cell
invariant-loop-cell l = vec_len l.cells ≡ l._cell
