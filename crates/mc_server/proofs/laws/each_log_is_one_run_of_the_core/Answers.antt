-- `CoreRuns` shows it.
use Rattle.mc_server.proofs.CoreRuns.{closed_logs, last_logs, last_logs_back, owed_replies}
use Rattle.mc_server.proofs.laws.each_log_is_one_run_of_the_core.Goals as goal

pub returns-clause-closed : goal.returns-clause-closed
returns-clause-closed c = closed_logs c.all_workers_run_the_core.ensures.closed

pub returns-clause-last : goal.returns-clause-last
returns-clause-last c = last_logs c.all_workers_run_the_core.ensures.closed c.workers_go_on.ensures.through

pub returns-clause-back : goal.returns-clause-back
returns-clause-back c = last_logs_back c.all_workers_run_the_core.ensures.put

pub returns-clause-owed : goal.returns-clause-owed
returns-clause-owed c = owed_replies c.replies_are_those_of_the_run.ensures.earlier
