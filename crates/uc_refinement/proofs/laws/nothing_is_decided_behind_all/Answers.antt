-- `Behind` shows it.
use Rattle.uc_refinement.proofs.Behind.{nothing_behind_all}
use Rattle.uc_refinement.proofs.laws.nothing_is_decided_behind_all.Goals as goal

pub returns : goal.returns
returns c = nothing_behind_all
