use Rattle.mc_connections.proofs.Owners.{asked_in_turn}
use Rattle.mc_connections.proofs.laws.commands_are_asked_for_over_logs.Goals as goal

pub returns : goal.returns
returns c = asked_in_turn (record { read = c.parts_add_up.ensures.read; owed = c.parts_add_up.ensures.stays })
