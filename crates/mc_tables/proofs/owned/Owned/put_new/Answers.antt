use Rattle.mc_tables.specs.Layers.{left}
use Rattle.mc_tables.proofs.Layering.{items_over-put, on_ok}
use Rattle.mc_tables.proofs.owned.Owned.put_new.Goals as goal

pub returns-clause-table : goal.returns-clause-table
returns-clause-table c =
    let old = c.args.self.now in
    on_ok c.put_new.result (items_over-put (left old.base) old.changes.held.entries c.put_new.new.self.held.entries c.args.key.now c.args.item) c.put_new.ensures.table
