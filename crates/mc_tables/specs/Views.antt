-- The item that is seen in a table that borrows, whichever layer holds it; this project's profile.
use Rattle.mc_model.specs.declared.item.Item.{Item}
use Rattle.mc_tables.specs.declared.view.View.{View}
use Rattle.mc_tables.specs.declared.view.View.TheVariants.{Below, Over}
use Rattle.mc_tables.specs.Entries.{item_of_cell}

-- the item that is seen
abbrev pub item_in_view : View → Item
item_in_view (Below item) = item.now
item_in_view (Over kept) = item_of_cell kept.now
