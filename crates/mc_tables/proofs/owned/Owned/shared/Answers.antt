use Rattle.std.proofs.Common.{ap, ◌∙◌}
use Rattle.mc_tables.specs.Entries.{laid_over, same_item, same_key}
use Rattle.mc_tables.specs.Layers.{left}
use Rattle.mc_tables.proofs.Layering.{items_over-same}
use Rattle.mc_tables.proofs.owned.Owned.shared.Goals as goal

pub returns-clause-same : goal.returns-clause-same
returns-clause-same c =
    let old = c.args.self.now in
    items_over-same (left old.base) (left c.in_ok-base.base) old.changes.held.entries c.copy_into.new.copy.held.entries c.in_ok-base.ensures.same
    (c.in_ok-copy_into.ensures.over ∙ ap (λ (table : _). laid_over same_key same_item table old.changes.held.entries) c.in_ok-changes.ensures.none)
