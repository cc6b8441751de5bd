use Rattle.fair_queue.proofs.Order.{in_order, is_given_after_those_ahead, moves_up}
use Rattle.fair_queue.proofs.laws.keys_are_given_in_their_order.Goals as goal

pub returns : goal.returns
returns c = record { order = in_order; place = moves_up; given = is_given_after_those_ahead }
