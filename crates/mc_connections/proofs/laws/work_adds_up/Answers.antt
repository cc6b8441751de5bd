use Rattle.mc_connections.specs.Working.{begins}
use Rattle.mc_connections.proofs.Workings.{works_admitting, works_catching, works_keep, works_known, works_onward, works_trans}
use Rattle.mc_connections.proofs.laws.work_adds_up.Goals as goal

pub returns-clause-none : goal.returns-clause-none
returns-clause-none c = λ until a. begins

pub returns-clause-through : goal.returns-clause-through
returns-clause-through c = λ until a b c. works_trans a b c

pub returns-clause-admits : goal.returns-clause-admits
returns-clause-admits c = λ until a worker old new arrival admission. works_admitting a worker old new arrival admission

pub returns-clause-catches_up : goal.returns-clause-catches_up
returns-clause-catches_up c = λ until a old new connections. works_catching a old new connections

pub returns-clause-goes_on : goal.returns-clause-goes_on
returns-clause-goes_on c = λ until a b. works_onward a b

pub returns-clause-known : goal.returns-clause-known
returns-clause-known c = λ until a b. works_known a b

pub returns-clause-keeps : goal.returns-clause-keeps
returns-clause-keeps c = λ until reserve a b. works_keep reserve a b
