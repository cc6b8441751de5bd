use Rattle.mc_tables.specs.Entries.{item_of_cell, lent_key}
use Rattle.mc_tables.specs.Layers.{below}
use Rattle.mc_tables.proofs.Layering.{laid-put}
use Rattle.mc_tables.proofs.layered.Layered.put.Goals as goal

pub returns-clause-put : goal.returns-clause-put
returns-clause-put c =
    laid-put lent_key item_of_cell (below c.args.self.now.base c.args.self.now.marks.items) c.args.self.now.over c.insert.new.self c.args.key.now c.args.kept c.in_ok-insert.ensures.updates
