use Rattle.mc_server_laws.proofs.Counted.{counted_once}
use Rattle.mc_server_laws.proofs.connections.each_request_is_counted.Goals as goal

pub returns-clause-one : goal.returns-clause-one
returns-clause-one c = counted_once
