use Rattle.std.proofs.Common.{arith}
use Rattle.mc_connections.proofs.laws.what_a_serve_takes.Goals as goal

pub returns-clause-requests : goal.returns-clause-requests
returns-clause-requests c until before after old new state served = omega (arith, served.answers)

pub returns-clause-bytes : goal.returns-clause-bytes
returns-clause-bytes c until before after old new state served = omega (arith, served.reads)
