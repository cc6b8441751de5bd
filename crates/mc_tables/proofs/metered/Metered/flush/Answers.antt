use Rattle.mc_tables.proofs.Totals.{none_held}
use Rattle.mc_tables.proofs.metered.Metered.flush.Goals as goal

pub invariant_of-self : goal.invariant_of-self
invariant_of-self g c = none_held (g.S.Storage.table c.clear.new.self) c.clear.ensures
