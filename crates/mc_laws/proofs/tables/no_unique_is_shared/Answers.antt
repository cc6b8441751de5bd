use Rattle.mc_laws.proofs.Histories.{has_own_uniques}
use Rattle.mc_laws.proofs.tables.no_unique_is_shared.Goals as goal

pub returns : goal.returns
returns c = has_own_uniques
