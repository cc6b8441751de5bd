use Rattle.std.proofs.Common.{refl, ap}
use Rattle.mc_conn.specs.Owed.{setting_of}
use Rattle.mc_server_laws.proofs.connections.each_request_is_for_its_roles_tenant.Goals as goal

pub returns-clause-lines : goal.returns-clause-lines
returns-clause-lines c = λ tenant. refl

pub returns-clause-admin_lines : goal.returns-clause-admin_lines
returns-clause-admin_lines c = λ names. refl

pub returns-clause-command : goal.returns-clause-command
returns-clause-command c = λ tenant command quiet. refl

pub returns-clause-quotas : goal.returns-clause-quotas
returns-clause-quotas c = λ names name limits quiet tenant is. ap (λ found. setting_of found limits quiet) is
