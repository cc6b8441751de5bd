use Rattle.std.proofs.Common.{length}
use Rattle.mc_metrics.proofs.gathering.+write_tenants.Given as goal

abbrev pub decreases-write_tenants : goal.decreases-write_tenants
decreases-write_tenants l = length l.names.now
