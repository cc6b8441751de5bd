use Rattle.std.proofs.Common.{◌+◌}
use Rattle.mc_model.specs.History.{after, changes}
use Rattle.mc_laws.proofs.Counting.{not_numeric, numeric_from, numeric_to}
use Rattle.mc_laws.proofs.Histories.{quotas}
use Rattle.mc_laws.proofs.tables.incr_and_decr_want_a_number.Goals as goal

pub returns-clause-numeric : goal.returns-clause-numeric
returns-clause-numeric c = λ block number. (numeric_from block number, numeric_to block number)

pub returns-clause-not_numeric : goal.returns-clause-not_numeric
returns-clause-not_numeric c = λ limits list key old by is value. not_numeric (quotas limits list) (after limits list) (changes limits list + 1) key old by is value
