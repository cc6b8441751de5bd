use Rattle.mc_server.proofs.OneLog.{are_one_log, next_replies}
use Rattle.mc_server.proofs.laws.the_logs_of_a_run_are_one_log.Goals as goal

pub returns : goal.returns
returns c = record { stands = are_one_log; replies = next_replies }
