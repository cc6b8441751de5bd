use Rattle.std.proofs.Common.{ap}
use Rattle.std.specs.FinMap as map
use Rattle.mc_tables.specs.Entries.{laid_over, same_item, same_key}
use Rattle.mc_tables.proofs.item_map.ItemMap.with_capacity.Goals as goal

pub returns-clause-none : goal.returns-clause-none
returns-clause-none c = ap (laid_over same_key same_item map.empty) c.in_ok-held.ensures.empty
