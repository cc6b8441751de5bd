use Rattle.mc_metrics.proofs.Furthest.{stays_furthest}
use Rattle.mc_metrics.proofs.gathering.+furthest.Goals as goal

pub returns-else-is_no_further : goal.returns-else-is_no_further
returns-else-is_no_further t c =
    stays_furthest c.args.workers.now _ c.first-item.result c.in-Some.other.now c.is_no_further.result c.in-len1-up.len_at_least c.first-item.is c.in-Some.ensures c.is_no_further.ensures c.if-is_no_further.false
