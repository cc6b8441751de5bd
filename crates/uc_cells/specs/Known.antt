-- What a sighting knows: the row, the cell in it that is its ticket's, and the value of that cell.
-- Cells in rows are this project's profile.
use Rattle.std.specs.Prelude.{◌≡◌, ℕ, List, Option, Some, slice_get}
use Rattle.mc_model.specs.declared.id.Ticket.{Ticket}
use Rattle.mc_model.specs.declared.request.Entry.{Entry}
use Rattle.uc_cells.specs.Cells.{place_in_row}

-- a row as contracts see it: the names of its cells
abbrev pub RowCells : Type 0
RowCells = List ℕ

pub record IsKnown (ticket : Ticket) (known : Option RowCells) (cell : ℕ)
    (found : Option (Option Entry)) (value : Option Entry) : Type 0 where
  pub row : RowCells
  pub knows_row : known ≡ Some row
  pub is_there : slice_get row (place_in_row ticket.number) ≡ Some cell
  pub knows_value : found ≡ Some value

-- the same if the value isn't at hand, though it is known
abbrev pub IsSealed : Ticket → Option RowCells → ℕ → Option (Option Entry) → Type 0
IsSealed ticket known cell found = (value : Option Entry) × IsKnown ticket known cell found value
