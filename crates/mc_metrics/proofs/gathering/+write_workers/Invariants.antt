use Rattle.std.proofs.Common.{length}
use Rattle.mc_metrics.proofs.gathering.+write_workers.Given as goal

abbrev pub decreases-write_workers : goal.decreases-write_workers
decreases-write_workers l = length l.workers.now
