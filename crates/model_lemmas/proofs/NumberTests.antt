-- The test of `number_up_to` passes for exactly the numbers that std's terms name.
use Rattle.std.specs.Prelude.{◌≡◌, ℕ, true, nat_le, ◌&&◌, List, Some, None}
use Rattle.std.specs.Bool.{Decides}
use Rattle.std.specs.Str.{all_ascii_digits}
use Rattle.std.specs.Str.Parse.{digits_value}
use Rattle.std.proofs.lemmas.Bool.{and_from, and_parts, cond-false, cond-true, false_from_ne_true, le-leb, leb-true, lt-ltb, ltb-true}
use Rattle.std.proofs.lemmas.Str.Parse.{IsNumeralModel, numerals_by_value, tells_all_ascii_digits}
use Rattle.mc_model.specs.Number.{is_numeral, number_up_to}
use Rattle.mc_model.specs.Numerals.{IsNumber}

-- the test of `number_up_to` passes for exactly the numbers that std's terms name
pub number_test : (limit : ℕ) (bytes : List ℕ) → Decides (is_numeral bytes && nat_le (digits_value 10 bytes) limit) (IsNumber limit bytes)
number_test limit bytes = (
  λ h. let both = and_parts _ _ h in let parts = and_parts _ _ both.0 in ((ltb-true _ _ parts.0, digits.to bytes parts.1), leb-true _ _ both.1),
  λ n. and_from _ _ (and_from _ _ (lt-ltb _ _ n.0.0) (digits.from bytes n.0.1)) (le-leb _ _ n.1),
)
  where
    digits : IsNumeralModel (λ (some : List ℕ). all_ascii_digits some ≡ true) (digits_value 10)
    digits = numerals_by_value (λ (some : List ℕ). all_ascii_digits some ≡ true) tells_all_ascii_digits

pub number_up_to-some : (limit : ℕ) (bytes : List ℕ) → IsNumber limit bytes → number_up_to limit bytes ≡ Some (digits_value 10 bytes)
number_up_to-some limit bytes n = cond-true _ _ _ ((number_test limit bytes).1 n)

pub number_up_to-none : (limit : ℕ) (bytes : List ℕ) → (IsNumber limit bytes → ⊥) → number_up_to limit bytes ≡ None
number_up_to-none limit bytes none = cond-false _ _ _ (false_from_ne_true _ (λ h. none ((number_test limit bytes).0 h)))
