use Rattle.mc_connections.proofs.Comings.{ends_are_told, false_stays_noted}
use Rattle.mc_connections.proofs.laws.an_end_that_was_told_is_read.Goals as goal

pub returns-clause-ended : goal.returns-clause-ended
returns-clause-ended c = ends_are_told

pub returns-clause-stays : goal.returns-clause-stays
returns-clause-stays c = false_stays_noted
