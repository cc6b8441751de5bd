use Rattle.mc_connections.proofs.Sharing.{others_take_one_turn_each, rounds_are_serves}
use Rattle.mc_connections.proofs.laws.others_take_one_turn_each.Goals as goal

pub returns-clause-share : goal.returns-clause-share
returns-clause-share c = others_take_one_turn_each c.a_flow_waits_for_one_quantum_of_each_other.ensures

pub returns-clause-rounds : goal.returns-clause-rounds
returns-clause-rounds c = rounds_are_serves
