use Rattle.std.proofs.Common.{length}
use Rattle.mc_metrics.proofs.gathering.+furthest.Given as goal

abbrev pub decreases-furthest : goal.decreases-furthest
decreases-furthest l = length l.workers.now
