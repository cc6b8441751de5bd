use Rattle.std.proofs.Common.{ap}
use Rattle.std.specs.FinMap as map
use Rattle.mc_tables.specs.Entries.{laid_over, same_item, same_key}
use Rattle.mc_tables.proofs.item_map.ItemMap.clear.Goals as goal

pub returns : goal.returns
returns c = ap (laid_over same_key same_item map.empty) c.clear.ensures.empty
