use Rattle.mc_server_laws.proofs.Names.{admin_is_reserved, metrics_is_reserved, names_are_own}
use Rattle.mc_server_laws.proofs.server.each_tenant_has_a_name_of_its_own.Goals as goal

pub returns-clause-own : goal.returns-clause-own
returns-clause-own c = names_are_own

pub returns-clause-admin : goal.returns-clause-admin
returns-clause-admin c = admin_is_reserved

pub returns-clause-metrics : goal.returns-clause-metrics
returns-clause-metrics c = metrics_is_reserved
