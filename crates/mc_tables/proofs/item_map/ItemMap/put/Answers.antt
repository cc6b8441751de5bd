use Rattle.std.proofs.Common.{◌≡◌, Some, sym, ◌∙◌}
use Rattle.std.specs.FinMap as map
use Rattle.mc_tables.specs.Entries.{same_item, same_key}
use Rattle.mc_tables.proofs.Indexing.{index_at, laid-put_at}
use Rattle.mc_tables.proofs.item_map.ItemMap.put.Goals as goal

pub returns-in-Some-clause-table : goal.returns-in-Some-clause-table
returns-in-Some-clause-table c =
    let old = c.args.self.now.held in
    let key = c.args.key.now in
    let at : index_at same_key old.entries key ≡ Some c.in-Some.place = sym c.place_of.ensures.place ∙ c.in-Some.is in
    laid-put_at same_key same_item map.empty old key c.in-Some.place c.args.item c.get_index_mut.ensures.unique at
