use Rattle.std.proofs.Common.{true}
use Rattle.mc_laws.proofs.Counting.{decr_leaves, incr_leaves}
use Rattle.mc_laws.proofs.OneKey.{get_held, held_until}
use Rattle.mc_laws.proofs.Histories.{quotas}
use Rattle.mc_laws.proofs.tables.numbers_keep_the_flags.Goals as goal

pub returns-clause-incr : goal.returns-clause-incr
returns-clause-incr c = λ limits earlier between key old by number is given untouched.
    get_held limits _ key true _ (held_until limits earlier between _ key _ untouched (incr_leaves (quotas limits earlier) _ _ key old by number is given))

pub returns-clause-decr : goal.returns-clause-decr
returns-clause-decr c = λ limits earlier between key old by number is given untouched.
    get_held limits _ key true _ (held_until limits earlier between _ key _ untouched (decr_leaves (quotas limits earlier) _ _ key old by number is given))
