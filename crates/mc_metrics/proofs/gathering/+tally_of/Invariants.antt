use Rattle.std.proofs.Common.{length}
use Rattle.mc_metrics.proofs.gathering.+tally_of.Given as goal

abbrev pub decreases-tally_of : goal.decreases-tally_of
decreases-tally_of l = length l.workers.now
