use Rattle.std.proofs.Common.{true}
use Rattle.mc_laws.proofs.OneKey.{append_there, get_held, held_until, prepend_there}
use Rattle.mc_laws.proofs.Histories.{quotas}
use Rattle.mc_laws.proofs.tables.joins_keep_the_flags.Goals as goal

pub returns-clause-append : goal.returns-clause-append
returns-clause-append c = λ limits earlier between key old flags block is stored untouched.
    get_held limits _ key true _ (held_until limits earlier between _ key _ untouched (append_there (quotas limits earlier) _ _ key old flags block is stored))

pub returns-clause-prepend : goal.returns-clause-prepend
returns-clause-prepend c = λ limits earlier between key old flags block is stored untouched.
    get_held limits _ key true _ (held_until limits earlier between _ key _ untouched (prepend_there (quotas limits earlier) _ _ key old flags block is stored))
