use Rattle.mc_counters.proofs.Sums.{both_counted}
use Rattle.mc_counters.proofs.laws.tallies_add_up.Goals as goal

pub returns-clause-both : goal.returns-clause-both
returns-clause-both c = both_counted
