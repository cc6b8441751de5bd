-- Where a sighting was made.
use Rattle.std.specs.Prelude.{◌≡◌}
use Rattle.uc_cells.specs.Cells.{CellsState, row_at}
use Rattle.uc_cells.specs.Sighting.{Sighting}

-- the sighting is one of a cell of these cells
abbrev pub IsSeenIn : CellsState → Sighting → Type 0
IsSeenIn cells seen = seen.row ≡ row_at cells seen.ticket
