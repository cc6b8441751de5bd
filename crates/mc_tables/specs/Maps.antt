-- What a map of items holds: how this project keeps a table in memory, its profile.
use Rattle.mc_model.specs.Table.{Table}
use Rattle.mc_tables.specs.declared.item_map.ItemMap.{ItemMap}
use Rattle.mc_tables.specs.Entries.{owned_entries}

-- the table of its entries
abbrev pub map_table : ItemMap → Table
map_table items = owned_entries items.held.entries
