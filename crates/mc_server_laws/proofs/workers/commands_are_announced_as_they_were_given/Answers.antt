use Rattle.std.proofs.Common.{refl}
use Rattle.mc_server_laws.proofs.workers.commands_are_announced_as_they_were_given.Goals as goal

pub returns-clause-next : goal.returns-clause-next
returns-clause-next c = λ worker tenant command. refl

pub returns-clause-own : goal.returns-clause-own
returns-clause-own c = λ worker number tenant command. refl

pub returns-clause-seen : goal.returns-clause-seen
returns-clause-seen c = λ worker number tenant command. refl
