use Rattle.std.proofs.Common.{refl}
use Rattle.model_lemmas.proofs.Uses.{within_from}
use Rattle.mc_laws.proofs.Counting.{decr_back, incr_leaves}
use Rattle.mc_laws.proofs.Histories.{quotas}
use Rattle.mc_laws.proofs.OneKey.{held_until}
use Rattle.mc_laws.proofs.tables.decr_undoes_incr.Goals as goal

pub returns : goal.returns
returns c = λ limits earlier between key old number by is value fits given untouched within.
    let held = held_until limits earlier between _ key _ untouched (incr_leaves (quotas limits earlier) _ _ key old by _ is given) in
    decr_back (quotas limits _) _ _ key _ number by (within_from (quotas limits _) _ within.0 within.1) held refl fits
