use Rattle.std.proofs.Common.{Some, ◌∙◌}
use Rattle.mc_tables.specs.Layers.{left}
use Rattle.mc_tables.proofs.Layering.{items_over-none}
use Rattle.mc_tables.proofs.owned.Owned.on.Goals as goal

pub returns-clause-same : goal.returns-clause-same
returns-clause-same c = items_over-none (left (Some c.in_ok-new.field-0)) c.new-2.result.held.entries c.new-2.ensures ∙ c.in_ok-new.ensures.same
