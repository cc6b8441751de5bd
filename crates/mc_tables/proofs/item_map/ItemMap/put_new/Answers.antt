use Rattle.std.proofs.Common.{List, ℕ, ap, ◌∙◌}
use Rattle.std.specs.FinMap as map
use Rattle.mc_tables.specs.Entries.{same_item, same_key}
use Rattle.mc_tables.specs.Maps.{map_table}
use Rattle.mc_tables.proofs.Layering.{laid-put}
use Rattle.mc_tables.proofs.item_map.ItemMap.put_new.Goals as goal

pub returns-clause-table : goal.returns-clause-table
returns-clause-table c =
    laid-put same_key same_item map.empty c.args.self.now.held c.insert.new.self c.in_ok-try_clone.field-0 c.args.item c.in_ok-insert.ensures.updates
    ∙ ap (λ (key : List ℕ). map.insert (map_table c.args.self.now) key c.args.item) c.in_ok-try_clone.ensures.key
