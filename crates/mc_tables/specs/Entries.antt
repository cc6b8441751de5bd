-- The entries of a hash map, laid over a table: how this project keeps a table in memory, its
-- profile.
use Rattle.std.specs.Prelude.{ℕ, Bool, false, not, List, [], ◌∷◌, nat_eq, position, Option, Some, None}
use Rattle.std.specs.Borrow.{Bor}
use Rattle.std.specs.Cmp.Lexicographic.{pointwise}
use Rattle.std.specs.FinMap as map
use Rattle.std.specs.Map.{keys_of}
use Rattle.mc_model.specs.declared.item.Item.{Item}
use Rattle.mc_model.specs.declared.key.Key.{Key}
use Rattle.mc_model.specs.Table.{Table}
use Rattle.mc_tables.specs.declared.cell_item.CellItem.{CellItem}
use Rattle.mc_tables.specs.Marks.{is_set}

-- entries over a table: what an entry holds hides what the table has under its key
abbrev pub laid_over : {K V : Type 0} → (K → Key) → (V → Item) → Table → List (K × V) → Table
laid_over text item table [] = table
laid_over text item table (entry ∷ entries) =
    map.insert (laid_over text item table entries) (text entry.0) (item entry.1)

-- a key that is lent, and one that isn't
abbrev pub lent_key : Bor Key → Key
lent_key key = key.now

abbrev pub same_key : Key → Key
same_key key = key

-- an item that borrows its data, as an item
abbrev pub item_of_cell : CellItem → Item
item_of_cell kept = record { flags = kept.flags; block = kept.block; unique = kept.unique }

-- an item that owns its data is itself
abbrev pub same_item : Item → Item
same_item item = item

-- the entries of a map that owns its keys and items
abbrev pub owned_entries : List (Key × Item) → Table
owned_entries entries = laid_over same_key same_item map.empty entries

-- whether the place of a key is marked
abbrev pub is_marked : List ℕ → Option ℕ → Bool
is_marked marks None = false
is_marked marks (Some place) = is_set marks place

-- a table without the keys whose places among the entries are marked
abbrev pub without : Table → List (Key × Item) → List ℕ → Table
without table entries marks =
    map.retain_keys table (λ key. not (is_marked marks (position (pointwise nat_eq key) (keys_of entries))))

-- the entries whose places aren't marked
abbrev pub unmarked : List (Key × Item) → List ℕ → Table
unmarked entries marks = without (owned_entries entries) entries marks
