-- The cells as contracts see them: this project's profile.
use Rattle.std.specs.Prelude.{ℕ, ◌+◌, ◌*◌, ◌/◌, ◌%◌, ◌<◌, List, refl, slice_index}
use Rattle.std.specs.Coded.{Coded, code_by, coded×, coded_ℕ, coded_list}
use Rattle.mc_model.specs.declared.id.Ticket.{Ticket}
use Rattle.uc_cells.specs.declared.cells.TheConstants.{ROW_CELLS}

-- the numbers of workers and places, and the names of the rows of cells, each worker's rows after
-- those of the worker before
pub record CellsState : Type 0 where
  pub workers : ℕ
  pub places : ℕ
  pub rows : List ℕ

-- how they are stored as a model's value
abbrev pub coded_cells : Coded CellsState
coded_cells =
    code_by (ℕ × (ℕ × List ℕ)) (coded× coded_ℕ (coded× coded_ℕ (coded_list coded_ℕ)))
    (λ c. (c.workers, (c.places, c.rows)))
    (λ p. record { workers = p.0; places = p.1.0; rows = p.1.1 }) (λ _. refl)

-- the ticket has a cell: its worker and number are below those of the cells
abbrev pub HasCell : CellsState → Ticket → Type 0
HasCell cells ticket = (ticket.worker < cells.workers) × (ticket.number < cells.places)

-- the number of rows that the cells of one worker take
abbrev pub rows_each : ℕ → ℕ
rows_each places = places / ROW_CELLS + 1

-- the index of the row that has the ticket's cell, and the index in its row of the cell with this
-- number
abbrev pub row_place : CellsState → Ticket → ℕ
row_place cells ticket = ticket.worker * rows_each cells.places + ticket.number / ROW_CELLS

abbrev pub place_in_row : ℕ → ℕ
place_in_row number = number % ROW_CELLS

-- the name of the row that has the ticket's cell
abbrev pub row_at : CellsState → Ticket → ℕ
row_at cells ticket = slice_index cells.rows (row_place cells ticket)
