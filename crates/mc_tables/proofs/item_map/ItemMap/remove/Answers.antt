use Rattle.std.proofs.Common.{◌≡◌, Some, sym, ◌∙◌}
use Rattle.std.specs.FinMap as map
use Rattle.std.specs.FinMap.{get-empty}
use Rattle.mc_model.specs.Table.{key_cmp}
use Rattle.mc_tables.specs.Entries.{same_item, same_key}
use Rattle.mc_tables.specs.Maps.{map_table}
use Rattle.mc_tables.proofs.Indexing.{index_at, laid-removed_at}
use Rattle.mc_tables.proofs.Layering.{nothing_there}
use Rattle.mc_tables.proofs.item_map.ItemMap.remove.Goals as goal

pub returns-in-Some : goal.returns-in-Some
returns-in-Some c =
    let old = c.args.self.now.held in
    let key = c.args.key.now in
    let at : index_at same_key old.entries key ≡ Some c.in-Some.place = sym c.place_of.ensures.place ∙ c.in-Some.is in
    laid-removed_at same_key same_item map.empty map.empty old c.swap_remove_index.new.self key c.in-Some.place c.swap_remove_index.result at
    c.swap_remove_index.ensures.entry c.swap_remove_index.ensures.updates (nothing_there map.empty key (get-empty key_cmp key))

pub returns-in_default : goal.returns-in_default
returns-in_default c = nothing_there (map_table c.args.self.now) c.args.key.now c.in_default.ensures.none
