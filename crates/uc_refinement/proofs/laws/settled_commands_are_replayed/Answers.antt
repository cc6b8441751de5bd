-- `Settled` shows it.
use Rattle.uc_refinement.proofs.Settled.{settled_commands_are_replayed}
use Rattle.uc_refinement.proofs.laws.settled_commands_are_replayed.Goals as goal

pub returns : goal.returns
returns c = settled_commands_are_replayed
