use Rattle.uc_worker.proofs.Closing.{closes_alone}
use Rattle.uc_worker.proofs.laws.a_log_of_one_worker_closes_at_its_end.Goals as goal

pub returns : goal.returns
returns c = closes_alone
