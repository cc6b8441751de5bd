-- `CoreRuns` shows it.
use Rattle.uc_laws.proofs.CoreRuns.{runs_as_core}
use Rattle.uc_laws.proofs.core_run.a_run_of_the_log_is_one_of_the_core.Goals as goal

pub returns : goal.returns
returns c = runs_as_core
