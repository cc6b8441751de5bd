use Rattle.std.proofs.Common.{refl}
use Rattle.mc_tables.specs.Layers.{left}
use Rattle.mc_tables.proofs.Layering.{items_over-put, items_over-same, on_err, on_ok}
use Rattle.mc_tables.proofs.owned.Owned.put.Goals as goal

pub returns-clause-table : goal.returns-clause-table
returns-clause-table c =
    let old = c.args.self.now in
    on_ok c.put.result (items_over-put (left old.base) old.changes.held.entries c.put.new.self.held.entries c.args.key.now c.args.item) c.put.ensures.table

pub returns-clause-unchanged : goal.returns-clause-unchanged
returns-clause-unchanged c =
    let old = c.args.self.now in
    on_err c.put.result (items_over-same (left old.base) (left old.base) old.changes.held.entries c.put.new.self.held.entries refl) c.put.ensures.unchanged
