use Rattle.std.proofs.Common.{length}
use Rattle.mc_metrics.proofs.gathering.+connections_of.Given as goal

abbrev pub decreases-connections_of : goal.decreases-connections_of
decreases-connections_of l = length l.workers.now
