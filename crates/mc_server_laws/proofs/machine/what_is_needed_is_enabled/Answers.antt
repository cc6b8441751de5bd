use Rattle.mc_server_laws.proofs.Needs.{enabled_or_full, is_its_own, nothing_is_left}
use Rattle.mc_server_laws.proofs.machine.what_is_needed_is_enabled.Goals as goal

pub returns-clause-own : goal.returns-clause-own
returns-clause-own c = is_its_own

pub returns-clause-enabled : goal.returns-clause-enabled
returns-clause-enabled c = enabled_or_full

pub returns-clause-nothing : goal.returns-clause-nothing
returns-clause-nothing c = nothing_is_left
