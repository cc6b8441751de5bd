use Rattle.std.proofs.Common.{Some, ap, sym, ◌∙◌}
use Rattle.std.specs.FinMap as map
use Rattle.mc_tables.specs.Layers.{left}
use Rattle.mc_tables.proofs.Layering.{items_over-removed}
use Rattle.mc_tables.proofs.owned.Owned.take_out.Goals as goal

pub returns-in-Some : goal.returns-in-Some
returns-in-Some c =
    let old = c.args.self.now in
    let text = c.args.key.now in
    items_over-removed (left old.base) (left (Some c.remove-in-Some.new.self)) old.changes.held.entries c.remove.new.self.held.entries text c.remove.ensures
    (c.remove-in-Some.ensures.table ∙ ap (λ (table : _). map.remove table text) (ap left (sym c.in-Some.is)))
