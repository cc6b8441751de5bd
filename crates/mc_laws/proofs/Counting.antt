-- Incr and decr of what is under a key.
use Rattle.std.proofs.Common.{◌≡◌, ℕ, ◌+◌, ◌-◌, ◌%◌, ◌^◌, ◌<◌, ◌≤◌, ◌&&◌, ⊎_elim, true, false, List, Some, None, length, nat_le, refl, sym, ◌∙◌, ap, arith}
use Rattle.std.proofs.lemmas.Bool.{cond-true, le-leb, leb-true}
use Rattle.std.proofs.lemmas.Fmt.{decimal_is_IsNumeral, length-decimal-le}
use Rattle.std.proofs.lemmas.Int.Digits.{digits_value-lt}
use Rattle.std.specs.FinMap as map
use Rattle.std.specs.Prelude.{decimal}
use Rattle.std.specs.Str.Parse.{IsNumeral, digits_value}
use Rattle.mc_model.specs.declared.command.Command.TheVariants.{Decr, Incr}
use Rattle.mc_model.specs.declared.item.Item.{Item}
use Rattle.mc_model.specs.declared.key.Key.{Key}
use Rattle.mc_model.specs.declared.reply.Reply.TheVariants.{Number, Refused}
use Rattle.mc_model.specs.declared.reply.TheConstants.WireNo.{NOT_A_NUMBER}
use Rattle.mc_model.specs.declared.settings.Limits.{Limits}
use Rattle.mc_model.specs.Effect.{Effect, effect, is_refusal, none_or_some, renumbered, stored, unchanged}
use Rattle.mc_model.specs.Number.{is_numeral, number_up_to, numeric_value}
use Rattle.mc_model.specs.Table.{Table, is_within}
use Rattle.mc_laws.proofs.Effects.{stored_there}
use Rattle.model_lemmas.proofs.NumberTests.{number_test, number_up_to-some}
use Rattle.mc_laws.proofs.OneKey.{stored_or_refused}
use Rattle.mc_laws.proofs.Quotas.{replaced_within}

-- data that spell a number
abbrev pub IsNumeric : List ℕ → ℕ → Type 0
IsNumeric block number = (IsNumeral 10 block × (length block ≤ 20)) × ((digits_value 10 block ≡ number) × (number < 2 ^ 64))

pub numeric_from : (block : List ℕ) (number : ℕ) → numeric_value block ≡ Some number → IsNumeric block number
numeric_from block number is =
    elim (nat_le (length block) 20) as (λ b. nat_le (length block) 20 ≡ b → IsNumeric block number) [
      | true ↦ λ short. spelt short (rw short at is)
      | false ↦ λ long. let none = rw long at is in absurd (cc)
    ] refl
  where
    spelt : nat_le (length block) 20 ≡ true → number_up_to (2 ^ 64 - 1) block ≡ Some number → IsNumeric block number
    spelt short value =
        elim (is_numeral block && nat_le (digits_value 10 block) (2 ^ 64 - 1)) as (λ b. (is_numeral block && nat_le (digits_value 10 block) (2 ^ 64 - 1)) ≡ b → IsNumeric block number) [
          | true ↦ λ passed.
              let numeral = (number_test (2 ^ 64 - 1) block).0 passed in
              let some = rw passed at value in
              let same : digits_value 10 block ≡ number = cc in
              ((numeral.0, leb-true _ _ short), (same, omega (arith, numeral.1, same)))
          | false ↦ λ failed. let none = rw failed at value in absurd (cc)
        ] refl

pub numeric_to : (block : List ℕ) (number : ℕ) → IsNumeric block number → numeric_value block ≡ Some number
numeric_to block number is =
    cond-true _ _ _ (le-leb _ _ is.0.1) ∙ (number_up_to-some (2 ^ 64 - 1) block (is.0.0, omega (arith, is.1)) ∙ ap (λ (n : ℕ). Some n) is.1.0)

-- a number of 64 bits is read back from its decimal digits
numeric-decimal : (number : ℕ) → number < 2 ^ 64 → numeric_value (decimal number) ≡ Some number
numeric-decimal number fits =
    let numeral = decimal_is_IsNumeral number fits in
    numeric_to (decimal number) number ((numeral.0, length-decimal-le 20 number (omega arith) (omega arith) fits), (numeral.1, fits))

module _ (limits : Limits) (table : Table) (unique : ℕ) (key : Key) (old : Item) where
  -- an item with these digits, and the flags that were there
  abbrev pub numbered : ℕ → Item
  numbered number = record { flags = old.flags; block = decimal number; unique = unique }

  -- what incr and decr do where there is a number
  pub incr_there : (number by : ℕ) → map.get table key ≡ Some old → numeric_value old.block ≡ Some number →
      effect limits table unique (Incr key by) ≡ stored limits table key (numbered ((number + by) % (2 ^ 64))) (Number ((number + by) % (2 ^ 64)))
  incr_there number by is value = rw (is, value) refl

  pub decr_spelt : (number by : ℕ) → map.get table key ≡ Some old → numeric_value old.block ≡ Some number →
      effect limits table unique (Decr key by) ≡ stored limits table key (numbered (number - by)) (Number (number - by))
  decr_spelt number by is value = rw (is, value) refl

  -- a smaller number has no more digits, so the quotas let it through in a table that is within them
  pub decr_there : (number by : ℕ) → is_within limits table ≡ true → map.get table key ≡ Some old → numeric_value old.block ≡ Some number →
      effect limits table unique (Decr key by) ≡ record { table = map.insert table key (numbered (number - by)); reply = Number (number - by) }
  decr_there number by within is value =
      let spelt = numeric_from old.block number value in
      let below = digits_value-lt 10 old.block spelt.0.0.1 in
      let shorter : length (decimal (number - by)) ≤ length old.block =
      length-decimal-le (length old.block) (number - by) spelt.0.0.0 (omega (arith, below, spelt.1.0)) (omega (arith, spelt.1.1)) in
      let room : is_within limits (map.insert table key (numbered (number - by))) ≡ true = replaced_within limits table key old (numbered (number - by)) is shorter within in
      rw (is, value, room) refl

  pub not_numeric : (by : ℕ) → map.get table key ≡ Some old → numeric_value old.block ≡ None →
      ((effect limits table unique (Incr key by)).reply ≡ Refused NOT_A_NUMBER) × ((effect limits table unique (Decr key by)).reply ≡ Refused NOT_A_NUMBER)
  not_numeric by is value = (rw (is, value) refl, rw (is, value) refl)

  -- what is under the key once a number was answered
  renumbered_there : (next : ℕ → ℕ) (number : ℕ) → (renumbered limits table unique key old next).reply ≡ Number number →
      map.get (renumbered limits table unique key old next).table key ≡ Some (numbered number)
  renumbered_there next number =
      elim (numeric_value old.block) as (λ value.
      let done = none_or_some value (unchanged table (Refused NOT_A_NUMBER)) (λ n. stored limits table key (numbered (next n)) (Number (next n))) in
      done.reply ≡ Number number → map.get done.table key ≡ Some (numbered number)) [
        | None ↦ λ given. absurd (cc)
        | Some n ↦ λ given.
            let same : next n ≡ number =
            ⊎_elim (λ answered. let both = sym answered ∙ given in cc) (λ refused. let both = sym refused ∙ given in absurd (cc)) (stored_or_refused limits table key (numbered (next n)) (Number (next n))) in
            stored_there limits table key (numbered (next n)) (Number (next n)) (ap is_refusal given) ∙ ap (λ (m : ℕ). Some (numbered m)) same
      ]

  pub incr_leaves : (by number : ℕ) → map.get table key ≡ Some old → (effect limits table unique (Incr key by)).reply ≡ Number number →
      map.get (effect limits table unique (Incr key by)).table key ≡ Some (numbered number)
  incr_leaves by number is given = rw is (renumbered_there (λ n. (n + by) % (2 ^ 64)) number (rw is at given))

  pub decr_leaves : (by number : ℕ) → map.get table key ≡ Some old → (effect limits table unique (Decr key by)).reply ≡ Number number →
      map.get (effect limits table unique (Decr key by)).table key ≡ Some (numbered number)
  decr_leaves by number is given = rw is (renumbered_there (λ n. n - by) number (rw is at given))

-- a decr by what was added leaves the number that was there
pub decr_back : (limits : Limits) (table : Table) (unique : ℕ) (key : Key) (old : Item) (number by : ℕ) → is_within limits table ≡ true →
    map.get table key ≡ Some old → old.block ≡ decimal (number + by) → number + by < 2 ^ 64 →
    (effect limits table unique (Decr key by)).reply ≡ Number number
decr_back limits table unique key old number by within is digits fits =
    let back : number + by - by ≡ number = omega arith in
    let value : numeric_value old.block ≡ Some (number + by) = ap numeric_value digits ∙ numeric-decimal (number + by) fits in
    ap (λ (e : Effect). e.reply) (decr_there limits table unique key old (number + by) by within is value) ∙ ap Number back
