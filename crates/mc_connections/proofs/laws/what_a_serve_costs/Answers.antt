use Rattle.std.proofs.Common.{ap, arith, length, length-append}
use Rattle.mc_connections.specs.Life.{came_of, sent_of}
use Rattle.mc_connections.proofs.laws.what_a_serve_costs.Goals as goal

pub returns-clause-cost : goal.returns-clause-cost
returns-clause-cost c requests bytes few = omega (arith, few)

pub returns-clause-requests : goal.returns-clause-requests
returns-clause-requests c old new more is few = omega (arith, few, ap length is, length-append old.conn.past more)

pub returns-clause-bytes : goal.returns-clause-bytes
returns-clause-bytes c old new came went received sent few =
    omega (arith, few, ap length received, length-append (came_of old) came, ap length sent, length-append (sent_of old) went)
