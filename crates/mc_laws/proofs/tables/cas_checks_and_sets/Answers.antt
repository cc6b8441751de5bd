use Rattle.std.proofs.Common.{◌+◌, ◌≤◌, ◌∙◌, arith}
use Rattle.mc_model.specs.History.{after, changes}
use Rattle.mc_laws.proofs.Histories.{HasUnique, has_bounded_uniques, quotas, still_there_is_untouched, untouched_is_still_there}
use Rattle.mc_laws.proofs.OneKey.{cas_exists, cas_is_set, cas_let_through, cas_not_found, cas_outcomes, let_through_has, shown_is_there}
use Rattle.mc_laws.proofs.tables.cas_checks_and_sets.Goals as goal

pub returns-clause-let_through : goal.returns-clause-let_through
returns-clause-let_through c = λ limits earlier between key shown unique flags block given is_unique.
    let has : HasUnique limits earlier key unique = shown_is_there limits earlier key shown unique given is_unique in
    let past : unique ≤ changes limits earlier = omega (arith, has.its_unique, (has_bounded_uniques limits earlier key has.item has.held).1) in (
      λ through. still_there_is_untouched limits earlier between key unique past (let_through_has limits _ key flags unique block through),
      λ untouched. cas_let_through limits _ key flags unique block (record { item = has.item; held = untouched_is_still_there limits earlier key between untouched ∙ has.held; its_unique = has.its_unique }),
    )

pub returns-clause-set : goal.returns-clause-set
returns-clause-set c = λ limits list key unique flags block through. cas_is_set limits list key flags unique block (let_through_has limits list key flags unique block through)

pub returns-clause-otherwise : goal.returns-clause-otherwise
returns-clause-otherwise c = λ limits list key unique flags block. cas_outcomes (quotas limits list) (after limits list) (changes limits list + 1) key flags unique block

pub returns-clause-exists : goal.returns-clause-exists
returns-clause-exists c = λ limits list key unique flags block. cas_exists (quotas limits list) (after limits list) (changes limits list + 1) key flags unique block

pub returns-clause-not_found : goal.returns-clause-not_found
returns-clause-not_found c = λ limits list key unique flags block. cas_not_found (quotas limits list) (after limits list) (changes limits list + 1) key flags unique block
