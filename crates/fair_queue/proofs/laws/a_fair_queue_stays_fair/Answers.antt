use Rattle.fair_queue.proofs.Behind.{after_charge, after_first}
use Rattle.fair_queue.proofs.Order.{after_push}
use Rattle.fair_queue.proofs.laws.a_fair_queue_stays_fair.Goals as goal

pub returns : goal.returns
returns c = record {
  comes = λ flow key old new within pushed fair. (after_push old new flow key within pushed fair).0;
  charged = λ spent old new charges fair. (after_charge old new spent charges fair).0.fair;
  given = λ flow key old new gives fair. (after_first old new flow key gives fair).0.fair;
}
