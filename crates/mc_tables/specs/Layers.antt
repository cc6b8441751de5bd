-- Tables in layers: a base, marks on what of it was removed, and what was changed since. So this
-- project keeps a table in memory, its profile.
use Rattle.std.specs.Prelude.{ℕ, ◌*◌, ◌≤◌, List, [], ◌++◌, length, Option, Some, None}
use Rattle.std.specs.Arc.{arc_value}
use Rattle.std.specs.Borrow.{Bor}
use Rattle.std.specs.FinMap as map
use Rattle.std.specs.HashMap.{HashMap}
use Rattle.mc_model.specs.declared.item.Item.{Item}
use Rattle.mc_model.specs.declared.key.Key.{Key}
use Rattle.mc_model.specs.Table.{Table}
use Rattle.mc_tables.specs.declared.base.Base.{Base}
use Rattle.mc_tables.specs.declared.cell_item.CellItem.{CellItem}
use Rattle.mc_tables.specs.declared.owned.Owned.{Owned}
use Rattle.mc_tables.specs.Entries.{item_of_cell, laid_over, lent_key, same_item, same_key, unmarked, without}

-- the entries of the base, removed or not
abbrev pub base_entries : Option Base → List (Key × Item)
base_entries None = []
base_entries (Some base) = (arc_value base.items).held.entries

-- what is left of it
abbrev pub left : Option Base → Table
left None = map.empty
left (Some base) = unmarked (arc_value base.items).held.entries base.marks.items

-- a table in memory of its own: the changes, over what is left of the base
abbrev pub owned_table : Owned → Table
owned_table owned = laid_over same_key same_item (left owned.base) owned.changes.held.entries

-- all its entries, in the order of their places
abbrev pub placed : Owned → List (Key × Item)
placed owned = owned.changes.held.entries ++ base_entries owned.base

-- how many places the table below has
abbrev pub base_len : Option (Bor Owned) → ℕ
base_len None = 0
base_len (Some base) = length (placed base.now)

-- each of them has a mark
abbrev pub AreMarked : Option (Bor Owned) → List ℕ → Type 0
AreMarked base marks = base_len base ≤ 64 * length marks

-- what is left of the table below
abbrev pub below : Option (Bor Owned) → List ℕ → Table
below None marks = map.empty
below (Some base) marks = without (owned_table base.now) (placed base.now) marks

-- all layers of a table that borrows
abbrev pub layers : {S : Type 0} → Option (Bor Owned) → List ℕ → HashMap (Bor Key) CellItem S → Table
layers base marks over = laid_over lent_key item_of_cell (below base marks) over.entries
