use Rattle.uc_worker.proofs.FewPlaces.{closes_at_its_end}
use Rattle.uc_worker.proofs.laws.a_log_with_few_places_closes_at_its_end.Goals as goal

pub returns : goal.returns
returns c = closes_at_its_end
