use Rattle.std.proofs.Common.{[], subst, sym}
use Rattle.mc_model.specs.History.{StandsFor}
use Rattle.mc_model.specs.State.{TableState}
use Rattle.mc_model.specs.Table.{Table}
use Rattle.model_lemmas.proofs.Histories.{StandsFor-none}
use Rattle.mc_tables.proofs.Totals.{none_held}
use Rattle.mc_tables.proofs.metered.Metered.open.Goals as goal

pub invariant_of-result : goal.invariant_of-result
invariant_of-result g c = none_held (g.S.Storage.table c.args.storage) c.requires

pub returns-clause-stands : goal.returns-clause-stands
returns-clause-stands g c =
    let state : Table → TableState = λ table. record { limits = c.args.limits; table = table; last_unique = 0 } in
    subst (λ (table : Table). StandsFor c.args.limits [] (state table)) (sym c.requires) (StandsFor-none c.args.limits)
