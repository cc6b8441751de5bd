use Rattle.mc_connections.proofs.Owners.{as_asked_in_turn}
use Rattle.mc_connections.proofs.laws.commands_answer_who_asked.Goals as goal

pub returns : goal.returns
returns c = as_asked_in_turn (record { read = c.parts_add_up.ensures.read; owed = c.parts_add_up.ensures.stays })
