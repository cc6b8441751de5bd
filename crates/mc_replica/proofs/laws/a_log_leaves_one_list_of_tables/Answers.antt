use Rattle.mc_replica.proofs.Effects.{one_list}
use Rattle.mc_replica.proofs.laws.a_log_leaves_one_list_of_tables.Goals as goal

pub returns : goal.returns
returns c = one_list
