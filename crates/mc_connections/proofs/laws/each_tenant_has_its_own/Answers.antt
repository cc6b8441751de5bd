use Rattle.std.proofs.Common.{arith}
use Rattle.mc_connections.proofs.laws.each_tenant_has_its_own.Goals as goal

pub returns-clause-flow : goal.returns-clause-flow
returns-clause-flow c tenants number within = omega (arith, within)

pub returns-clause-flow_of_admins : goal.returns-clause-flow_of_admins
returns-clause-flow_of_admins c tenants = omega arith

pub returns-clause-tally : goal.returns-clause-tally
returns-clause-tally c tenants number within = omega (arith, within)
