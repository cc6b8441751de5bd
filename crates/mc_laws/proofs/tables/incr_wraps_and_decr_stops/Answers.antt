use Rattle.std.proofs.Common.{◌≡◌, ◌+◌, ◌-◌, ◌%◌, ◌^◌, ◌∙◌, ap, arith}
use Rattle.mc_model.specs.declared.item.Item.{Item}
use Rattle.mc_model.specs.declared.reply.Reply.TheVariants.{Number}
use Rattle.mc_model.specs.Effect.{Effect}
use Rattle.mc_model.specs.History.{after, changes}
use Rattle.model_lemmas.proofs.Uses.{within_from}
use Rattle.mc_laws.proofs.Counting.{decr_spelt, decr_there, incr_there, numbered}
use Rattle.mc_laws.proofs.Histories.{quotas}
use Rattle.mc_laws.proofs.OneKey.{stored_or_refused}
use Rattle.mc_laws.proofs.Quotas.{stored_refused}
use Rattle.mc_laws.proofs.tables.incr_wraps_and_decr_stops.Goals as goal

pub returns-clause-sum : goal.returns-clause-sum
returns-clause-sum c = λ limits list key old number by is value.
    rw (ap (λ (e : Effect). e.reply) (incr_there (quotas limits list) (after limits list) (changes limits list + 1) key old number by is value))
    (stored_or_refused (quotas limits list) (after limits list) key _ (Number ((number + by) % (2 ^ 64))))

pub returns-clause-refused : goal.returns-clause-refused
returns-clause-refused c = λ limits list key old number by is value.
    let sum : Item = numbered (quotas limits list) (after limits list) (changes limits list + 1) key old ((number + by) % (2 ^ 64)) in
    rw (ap (λ (e : Effect). e.reply) (incr_there (quotas limits list) (after limits list) (changes limits list + 1) key old number by is value))
    (stored_refused (quotas limits list) (after limits list) key sum (Number ((number + by) % (2 ^ 64))) (λ same. cc))

pub returns-clause-less : goal.returns-clause-less
returns-clause-less c = λ limits list key old number by is value.
    rw (ap (λ (e : Effect). e.reply) (decr_spelt (quotas limits list) (after limits list) (changes limits list + 1) key old number by is value))
    (stored_or_refused (quotas limits list) (after limits list) key _ (Number (number - by)))

pub returns-clause-difference : goal.returns-clause-difference
returns-clause-difference c = λ limits list key old left by within is value.
    let back : left + by - by ≡ left = omega arith in
    ap (λ (e : Effect). e.reply) (decr_there (quotas limits list) (after limits list) (changes limits list + 1) key old (left + by) by (within_from (quotas limits list) (after limits list) within.0 within.1) is value) ∙ ap Number back

pub returns-clause-zero : goal.returns-clause-zero
returns-clause-zero c = λ limits list key old number by within is value below.
    let none : number - by ≡ 0 = omega (arith, below) in
    ap (λ (e : Effect). e.reply) (decr_there (quotas limits list) (after limits list) (changes limits list + 1) key old number by (within_from (quotas limits list) (after limits list) within.0 within.1) is value) ∙ ap Number none

pub returns-clause-above : goal.returns-clause-above
returns-clause-above c = λ limits list key old number by is value.
    let difference : Item = numbered (quotas limits list) (after limits list) (changes limits list + 1) key old (number - by) in
    rw (ap (λ (e : Effect). e.reply) (decr_spelt (quotas limits list) (after limits list) (changes limits list + 1) key old number by is value))
    (stored_refused (quotas limits list) (after limits list) key difference (Number (number - by)) (λ same. cc))
