-- Tickets whose cells stand at one place.
use Rattle.std.proofs.Common.{◌≡◌, ℕ, ◌+◌, ◌*◌, ◌/◌, ◌%◌, ◌<◌, sym, ap, ap₂, ◌∙◌, arith}
use Rattle.std.proofs.lemmas.Nat.{div-add-mod', div-mul-add, mod-mul-add}
use Rattle.mc_model.specs.declared.id.Ticket.{Ticket}
use Rattle.uc_cells.specs.declared.cells.TheConstants.{ROW_CELLS}
use Rattle.uc_cells.specs.Cells.{CellsState, HasCell, place_in_row, row_place, rows_each}

-- a number below that of the places stands in one of the rows
in_rows : (number places : ℕ) → number < places → number / ROW_CELLS < rows_each places
in_rows number places below = omega (arith, below)

-- numbers of one row, and of one place in it, are the same
same_number : (one other : ℕ) → one / ROW_CELLS ≡ other / ROW_CELLS → place_in_row one ≡ place_in_row other → one ≡ other
same_number one other row place =
    sym (div-add-mod' one ROW_CELLS) ∙ (ap₂ (λ (q : ℕ) (r : ℕ). q * ROW_CELLS + r) row place ∙ div-add-mod' other ROW_CELLS)

pub same_ticket : (cells : CellsState) (one other : Ticket) → HasCell cells one → HasCell cells other →
    row_place cells one ≡ row_place cells other → place_in_row one.number ≡ place_in_row other.number → one ≡ other
same_ticket cells one other has has_other row place =
    let rows = rows_each cells.places in
    let first = in_rows one.number cells.places has.1 in
    let second = in_rows other.number cells.places has_other.1 in
    let same_worker : one.worker ≡ other.worker =
    sym (div-mul-add one.worker rows (one.number / ROW_CELLS) first) ∙ (ap (λ (p : ℕ). p / rows) row ∙ div-mul-add other.worker rows (other.number / ROW_CELLS) second) in
    let same_row : one.number / ROW_CELLS ≡ other.number / ROW_CELLS =
    sym (mod-mul-add one.worker rows (one.number / ROW_CELLS) first) ∙ (ap (λ (p : ℕ). p % rows) row ∙ mod-mul-add other.worker rows (other.number / ROW_CELLS) second) in
    let same_number = same_number one.number other.number same_row place in
    λ i. record { worker = same_worker i; number = same_number i }
