use Rattle.mc_connections.proofs.MoreToDo.{comes_to_wait, isnt_cut_short}
use Rattle.mc_connections.proofs.laws.who_has_more_to_do_waits.Goals as goal

pub returns-clause-waits : goal.returns-clause-waits
returns-clause-waits c = comes_to_wait

pub returns-clause-short : goal.returns-clause-short
returns-clause-short c = isnt_cut_short
