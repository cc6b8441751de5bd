use Rattle.mc_read.proofs.Lawful.{lawful_text}
use Rattle.mc_read.proofs.laws.only_lawful_commands_are_read.Goals as goal

pub returns : goal.returns
returns c = λ text command quiet is. lawful_text command quiet text is
