use Rattle.std.proofs.Common.{subst, sym, ap, ◌∙◌}
use Rattle.mc_model.specs.State.{TableState}
use Rattle.mc_model.specs.Table.{Table}
use Rattle.mc_tables.proofs.Totals.{Totals}
use Rattle.mc_tables.proofs.metered.Metered.with_storage.Goals as goal

pub invariant_of-result : goal.invariant_of-result
invariant_of-result g c =
    let used = c.self.inside.meter.used in
    let count = c.self.inside.meter.count in
    subst (λ (t : Table). Totals t used count) (sym c.requires)
    (subst (λ (s : TableState). Totals s.table used count) c.self.view_is c.self.invariant)

pub returns : goal.returns
returns g c =
    ap (λ (t : Table). record { limits = c.self.inside.meter.limits; table = t; last_unique = c.self.inside.last_unique }) (c.requires ∙ sym (ap (λ (s : TableState). s.table) c.self.view_is))
    ∙ c.self.view_is
