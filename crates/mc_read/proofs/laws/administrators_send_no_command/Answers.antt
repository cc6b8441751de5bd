use Rattle.mc_read.proofs.Setting.{no_block, no_logged}
use Rattle.mc_read.proofs.laws.administrators_send_no_command.Goals as goal

pub returns-clause-commands : goal.returns-clause-commands
returns-clause-commands c = no_logged

pub returns-clause-blocks : goal.returns-clause-blocks
returns-clause-blocks c = no_block
