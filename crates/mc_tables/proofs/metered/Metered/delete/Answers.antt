use Rattle.std.proofs.Common.{sym, ◌∙◌}
use Rattle.mc_tables.proofs.Totals.{one_of, part, without}
use Rattle.mc_tables.proofs.metered.Metered.delete.Goals as goal

pub overflow_sub-self : goal.overflow_sub-self
overflow_sub-self g c =
    let table = g.S.Storage.table c.self.inside.storage in
    let there = sym c.in-Some.is ∙ c.find.ensures.found in
    part table c.args.key.now c.self.inside.meter.used c.self.inside.meter.count c.weight_found.result c.self.invariant (c.weight_found.ensures table there)

pub overflow_sub-self-2 : goal.overflow_sub-self-2
overflow_sub-self-2 g c =
    let table = g.S.Storage.table c.self.inside.storage in
    one_of table c.args.key.now c.self.inside.meter.used c.self.inside.meter.count c.in-Some.old c.self.invariant (sym c.in-Some.is ∙ c.find.ensures.found)

pub invariant_of-self : goal.invariant_of-self
invariant_of-self g c =
    let table = g.S.Storage.table c.self.inside.storage in
    let there = sym c.in-Some.is ∙ c.find.ensures.found in
    without table (g.S.Storage.table c.remove.new.self) c.args.key.now c.self.inside.meter.used c.self.inside.meter.count c.weight_found.result c.in-Some.old c.self.invariant there
    (c.weight_found.ensures table there) c.remove.ensures
