use Rattle.mc_connections.proofs.Lives.{answered_in_turn}
use Rattle.mc_connections.proofs.laws.connections_are_answered_over_logs.Goals as goal

pub returns : goal.returns
returns c = answered_in_turn (record { read = c.parts_add_up.ensures.read; owed = c.parts_add_up.ensures.stays })
