use Rattle.mc_model.specs.declared.command.Command.TheVariants.{Limit}
use Rattle.mc_read.proofs.Lawful.{lawful_text, no_setting}
use Rattle.mc_read.proofs.laws.only_administrators_set_quotas.Goals as goal

pub returns-clause-requests : goal.returns-clause-requests
returns-clause-requests c = λ text name limits quiet is. no_setting name limits quiet text is

pub returns-clause-commands : goal.returns-clause-commands
returns-clause-commands c = λ text limits quiet is. lawful_text (Limit limits) quiet text is
