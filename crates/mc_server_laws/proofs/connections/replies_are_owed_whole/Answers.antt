use Rattle.std.proofs.Common.{refl}
use Rattle.mc_server_laws.proofs.Demands.{local_is, quit_is}
use Rattle.mc_server_laws.proofs.connections.replies_are_owed_whole.Goals as goal

pub returns-clause-whole : goal.returns-clause-whole
returns-clause-whole c = λ reply. refl

pub returns-clause-quiet : goal.returns-clause-quiet
returns-clause-quiet c = λ reply. refl

pub returns-clause-local : goal.returns-clause-local
returns-clause-local c = λ role reply. local_is role reply

pub returns-clause-quit : goal.returns-clause-quit
returns-clause-quit c = λ role. quit_is role
