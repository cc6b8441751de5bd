use Rattle.mc_connections.proofs.SeenInOrder.{sent_so_far}
use Rattle.mc_connections.proofs.laws.connections_are_answered_so_far.Goals as goal

pub returns : goal.returns
returns c = sent_so_far (record { read = c.parts_add_up.ensures.read; owed = c.parts_add_up.ensures.stays })
