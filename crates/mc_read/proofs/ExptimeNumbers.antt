-- An exptime is a numeral, after a minus or without one, and it is zero exactly if the numeral is.
use Rattle.std.proofs.Common.{◌≡◌, ℕ, ◌+◌, ◌*◌, Bool, true, false, cond, ◌==◌, List, [], ◌∷◌, ◌⊎◌, inl, inr, refl, sym, ◌∙◌, ap, subst, arith}
use Rattle.std.proofs.lemmas.Bool.{and_from, and_parts, cond-false, eqb-false, eqb-true, lt-ltb, ltb-true, ne_eqb}
use Rattle.std.proofs.lemmas.Str.{digit_value_digit}
use Rattle.std.proofs.lemmas.Str.Parse.{IsNumeralModel, digit_from_value, numerals_by_value, tells_all_ascii_digits}
use Rattle.std.specs.Bool.{Decides}
use Rattle.std.specs.Char.{digit_value}
use Rattle.std.specs.List.{list_all}
use Rattle.std.specs.Prelude.{◌↔◌, IsTrue}
use Rattle.std.specs.Str.{all_ascii_digits}
use Rattle.std.specs.Str.Parse.{AllDigits, IsNumeral, digits_value, digits_value_after}
use Rattle.mc_model.specs.Number.{is_numeral}
use Rattle.mc_read.specs.Word.{is_exptime, is_zero, without_minus}

-- the test of numerals passes for exactly those that std's terms name
numeral_test : (bytes : List ℕ) → Decides (is_numeral bytes) (IsNumeral 10 bytes)
numeral_test bytes = (
  λ passes. let parts = and_parts _ _ passes in (ltb-true _ _ parts.0, digits.to bytes parts.1),
  λ numeral. and_from _ _ (lt-ltb _ _ numeral.0) (digits.from bytes numeral.1),
)
  where
    digits : IsNumeralModel (λ (some : List ℕ). all_ascii_digits some ≡ true) (digits_value 10)
    digits = numerals_by_value (λ (some : List ℕ). all_ascii_digits some ≡ true) tells_all_ascii_digits

abbrev IsSpelled : List ℕ → Type 0
IsSpelled word = IsNumeral 10 word ⊎ ((digits : List ℕ) × (word ≡ 45 ∷ digits) × IsNumeral 10 digits)

-- a numeral doesn't begin with a minus
no_minus : (byte : ℕ) (bytes : List ℕ) → AllDigits 10 (byte ∷ bytes) → (byte == 45) ≡ false
no_minus byte bytes all = let range = digit_from_value byte all.0 in ne_eqb byte 45 (λ same. omega (arith, same, range.0))

head_is : (byte : ℕ) (bytes digits : List ℕ) → byte ∷ bytes ≡ 45 ∷ digits → byte ≡ 45
head_is byte bytes digits same = cc

tail_is : (byte : ℕ) (bytes digits : List ℕ) → byte ∷ bytes ≡ 45 ∷ digits → digits ≡ bytes
tail_is byte bytes digits same = cc

spelled_by_test : (byte : ℕ) (bytes : List ℕ) (minus : Bool) → (byte == 45) ≡ minus → IsTrue (is_numeral (cond minus bytes (byte ∷ bytes))) ↔ IsSpelled (byte ∷ bytes)
spelled_by_test byte bytes true is = (
  λ passes. inr (bytes, ap (λ first. first ∷ bytes) (eqb-true byte 45 is), (numeral_test bytes).0 passes),
  from,
)
  where
    from : IsSpelled (byte ∷ bytes) → IsTrue (is_numeral bytes)
    from (inl numeral) = absurd (eqb-false byte 45 (no_minus byte bytes numeral.1) (eqb-true byte 45 is))
    from (inr (digits, same, numeral)) = (numeral_test bytes).1 (subst (IsNumeral 10) (tail_is byte bytes digits same) numeral)
spelled_by_test byte bytes false is = (λ passes. inl ((numeral_test (byte ∷ bytes)).0 passes), from)
  where
    from : IsSpelled (byte ∷ bytes) → IsTrue (is_numeral (byte ∷ bytes))
    from (inl numeral) = (numeral_test (byte ∷ bytes)).1 numeral
    from (inr (digits, same, numeral)) = absurd (eqb-false byte 45 is (head_is byte bytes digits same))

pub exptime_is_spelled : (word : List ℕ) → IsTrue (is_exptime word) ↔ IsSpelled word
exptime_is_spelled [] = (λ passes. inl ((numeral_test []).0 passes), from)
  where
    from : IsSpelled [] → IsTrue (is_exptime [])
    from (inl numeral) = (numeral_test []).1 numeral
    from (inr (digits, same, numeral)) = absurd (never digits same)
      where
        never : (digits : List ℕ) → [] ≡ 45 ∷ digits → ⊥
        never digits same = cc
exptime_is_spelled (byte ∷ bytes) = spelled_by_test byte bytes (byte == 45) refl

-- Digits are all 0 exactly if their number is.
abbrev are_zeros : List ℕ → Bool
are_zeros digits = list_all (λ byte. byte == 48) digits

zeros_from_number : (before : ℕ) (digits : List ℕ) → AllDigits 10 digits → digits_value_after 10 before digits ≡ 0 → (before ≡ 0) × (are_zeros digits ≡ true)
zeros_from_number before [] all none = (none, refl)
zeros_from_number before (digit ∷ digits) all none =
    let rest = zeros_from_number (before * 10 + digit_value digit) digits all.1 none in
    let byte : digit_value digit + 48 ≡ digit = digit_value_digit digit (digit_from_value digit all.0) in
    let zero : digit ≡ 48 = omega (arith, rest.0, byte) in
    (omega (arith, rest.0), and_from (digit == 48) (are_zeros digits) (ap (λ d. d == 48) zero) rest.1)

number_from_zeros : (digits : List ℕ) → are_zeros digits ≡ true → digits_value_after 10 0 digits ≡ 0
number_from_zeros [] zeros = refl
number_from_zeros (digit ∷ digits) zeros =
    let parts = and_parts (digit == 48) (are_zeros digits) zeros in
    ap (λ d. digits_value_after 10 (0 * 10 + digit_value d) digits) (eqb-true digit 48 parts.0) ∙ number_from_zeros digits parts.1

pub zero_behind_minus : (digits : List ℕ) → IsNumeral 10 digits → IsTrue (is_zero (45 ∷ digits)) ↔ (digits_value 10 digits ≡ 0)
zero_behind_minus digits numeral = (number_from_zeros digits, λ none. (zeros_from_number 0 digits numeral.1 none).1)

no_sign : (digits : List ℕ) → AllDigits 10 digits → without_minus digits ≡ digits
no_sign [] all = refl
no_sign (digit ∷ digits) all = cond-false _ _ _ (no_minus digit digits all)

pub zero_without_minus : (digits : List ℕ) → IsNumeral 10 digits → IsTrue (is_zero digits) ↔ (digits_value 10 digits ≡ 0)
zero_without_minus digits numeral =
    let same : is_zero digits ≡ are_zeros digits = ap are_zeros (no_sign digits numeral.1) in
    (λ zero. number_from_zeros digits (sym same ∙ zero), λ none. same ∙ (zeros_from_number 0 digits numeral.1 none).1)
