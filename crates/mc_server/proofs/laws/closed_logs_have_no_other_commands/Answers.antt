-- `CoreRuns` shows it.
use Rattle.mc_server.proofs.CoreRuns.{no_more_decided}
use Rattle.mc_server.proofs.laws.closed_logs_have_no_other_commands.Goals as goal

pub returns : goal.returns
returns c = no_more_decided c.nothing_is_decided_behind_all.ensures
