use Rattle.mc_connections.proofs.SeenInOrder.{seen_first, sees_onward}
use Rattle.mc_connections.proofs.laws.what_a_client_has_seen_comes_first.Goals as goal

pub returns-clause-order : goal.returns-clause-order
returns-clause-order c = seen_first

pub returns-clause-onward : goal.returns-clause-onward
returns-clause-onward c = sees_onward
