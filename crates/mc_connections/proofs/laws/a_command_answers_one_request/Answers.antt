use Rattle.mc_connections.proofs.OneRequest.{logs_each, logs_logged, logs_once, owner_answers, taken_once}
use Rattle.mc_connections.proofs.laws.a_command_answers_one_request.Goals as goal

pub returns-clause-owner : goal.returns-clause-owner
returns-clause-owner c begun served ended apart later earlier connection is log number index has = (owner_answers begun served ended apart later earlier connection is log number index has).0

pub returns-clause-request : goal.returns-clause-request
returns-clause-request c = logs_once

pub returns-clause-logged : goal.returns-clause-logged
returns-clause-logged c = logs_logged

pub returns-clause-each : goal.returns-clause-each
returns-clause-each c = logs_each

pub returns-clause-since : goal.returns-clause-since
returns-clause-since c begun served ended apart later earlier connection is log number index first has = (owner_answers begun served ended apart later earlier connection is log number index has).1 first

pub returns-clause-taken : goal.returns-clause-taken
returns-clause-taken c = taken_once
