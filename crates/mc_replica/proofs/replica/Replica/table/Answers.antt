use Rattle.std.proofs.Common.{◌≡◌, Some, slice_get, arith, sym, ◌∙◌}
use Rattle.std.proofs.lemmas.Grind.{common_steps}
use Rattle.std.proofs.lemmas.Option.{gets}
use Rattle.mc_replica.proofs.replica.Replica.table.Goals as goal

pub returns-clause-stands : goal.returns-clause-stands
returns-clause-stands c =
    let at : slice_get c.self.inside.tables.items c.args.tenant ≡ Some c.index.result.now = grind (arith, common_steps, gets) in
    rw (← c.self.view_is) (sym at ∙ c.self.invariant.stands c.args.tenant)
