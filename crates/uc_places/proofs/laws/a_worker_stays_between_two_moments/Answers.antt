-- `Between` shows it.
use Rattle.uc_places.proofs.Between.{runs_between}
use Rattle.uc_places.proofs.laws.a_worker_stays_between_two_moments.Goals as goal

pub returns : goal.returns
returns c = runs_between
