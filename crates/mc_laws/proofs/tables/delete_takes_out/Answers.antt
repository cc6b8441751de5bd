use Rattle.std.proofs.Common.{◌+◌}
use Rattle.mc_model.specs.History.{after, changes}
use Rattle.mc_laws.proofs.Histories.{no_change, quotas}
use Rattle.mc_laws.proofs.OneKey.{delete_is_no_change, delete_there, get_absent, held_until}
use Rattle.mc_laws.proofs.tables.delete_takes_out.Goals as goal

pub returns-clause-gone : goal.returns-clause-gone
returns-clause-gone c = λ limits earlier between key uniques untouched.
    get_absent limits _ key uniques (held_until limits earlier between _ key _ untouched (delete_there (quotas limits earlier) (after limits earlier) (changes limits earlier + 1) key))

pub returns-clause-uniques : goal.returns-clause-uniques
returns-clause-uniques c = λ limits list key. no_change limits list _ (delete_is_no_change (quotas limits list) (after limits list) (changes limits list + 1) key)
