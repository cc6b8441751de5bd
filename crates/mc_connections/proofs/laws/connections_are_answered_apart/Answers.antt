use Rattle.mc_connections.proofs.Owners.{apart_in_turn}
use Rattle.mc_connections.proofs.laws.connections_are_answered_apart.Goals as goal

pub returns : goal.returns
returns c = apart_in_turn (record { read = c.parts_add_up.ensures.read; owed = c.parts_add_up.ensures.stays })
