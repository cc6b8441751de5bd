use Rattle.mc_connections.proofs.Sharing.{only_the_turn_goes_on}
use Rattle.mc_connections.proofs.laws.a_round_ends_with_a_turn.Goals as goal

pub returns : goal.returns
returns c = only_the_turn_goes_on
