-- Digits are read from the left, and their value only grows.
use Rattle.std.proofs.Common.{◌≡◌, ℕ, suc, ◌+◌, ◌-◌, ◌*◌, ◌<◌, ◌≤◌, List, [], ◌∷◌, length, get_or, drop, subst, ap, ◌∙◌, drop_of_length-le, arith}
use Rattle.std.proofs.Math.Seq.{drop-cons}
use Rattle.std.proofs.lemmas.Bool.Decides.{nat_tests}
use Rattle.std.specs.Char.{digit_value}
use Rattle.std.specs.Int.{IsInRange}
use Rattle.std.specs.Str.Parse.{AllDigits, digits_value_after, digits_value}

-- the bytes before rest are digits, and spell the value
pub record SpellsSoFar (bytes rest : List ℕ) (value : ℕ) : Type 0 where
  pub same : digits_value_after 10 value rest ≡ digits_value 10 bytes
  pub back : AllDigits 10 rest → AllDigits 10 bytes
  pub on : AllDigits 10 bytes → AllDigits 10 rest

-- more digits never make the value smaller
pub digits_value_after-ge : (value : ℕ) (digits : List ℕ) → value ≤ digits_value_after 10 value digits
digits_value_after-ge value [] = omega arith
digits_value_after-ge value (c ∷ cs) = omega (arith, digits_value_after-ge (value * 10 + digit_value c) cs)

module _ (bytes : List ℕ) (i value : ℕ) (h : i < length bytes) (so_far : SpellsSoFar bytes (drop i bytes) value) where
  -- the next byte stands in front of what is left
  pub next_in_front : SpellsSoFar bytes (get_or bytes i 0 ∷ drop (i + 1) bytes) value
  next_in_front =
      let one_more : suc i ≡ i + 1 = omega arith in
      subst (λ rest. SpellsSoFar bytes rest value) (drop-cons bytes i 0 h ∙ ap (λ k. get_or bytes i 0 ∷ drop k bytes) one_more) so_far

  -- the next digit joins those before it
  pub SpellsSoFar-more : (next : ℕ) → digit_value (get_or bytes i 0) < 10 → next ≡ value * 10 + digit_value (get_or bytes i 0) → SpellsSoFar bytes (drop (i + 1) bytes) next
  SpellsSoFar-more next digit is = record {
    same = ap (λ n. digits_value_after 10 n (drop (i + 1) bytes)) is ∙ next_in_front.same;
    back = λ rest. next_in_front.back (digit, rest);
    on = λ all. (next_in_front.on all).1;
  }

  -- if the value exceeds the limit with the next digit, so does that of all digits
  pub too_large : (limit : ℕ) → limit ≤ value * 10 + digit_value (get_or bytes i 0) → AllDigits 10 bytes × (digits_value 10 bytes < limit) → ⊥
  too_large limit past all = omega (arith, next_in_front.same, digits_value_after-ge (value * 10 + digit_value (get_or bytes i 0)) (drop (i + 1) bytes))

-- when no byte is left, all are digits, and the value is theirs
pub SpellsSoFar-all : (bytes : List ℕ) (i value : ℕ) → length bytes ≤ i → SpellsSoFar bytes (drop i bytes) value → AllDigits 10 bytes × (value ≡ digits_value 10 bytes)
SpellsSoFar-all bytes i value over so_far =
    let done : SpellsSoFar bytes [] value = subst (λ rest. SpellsSoFar bytes rest value) (drop_of_length-le bytes over) so_far in
    (done.back tt, done.same)

-- a digit stands for how far it is past the digit zero
pub digit_value-at_digit : (c : ℕ) → IsInRange 48 57 c → digit_value c ≡ c - 48
digit_value-at_digit c range = grind (arith, nat_tests)
