use Rattle.std.proofs.Common.{◌≡◌, ◌<◌, ◌≤◌, ◌&&◌, ℕ, true, List, length, nat_le, ap, sym, None, Some, ◌∙◌, arith, rules}
use Rattle.std.specs.Str.{all_ascii_digits}
use Rattle.std.specs.Str.Parse.{AllDigits, digits_value}
use Rattle.std.proofs.lemmas.Bool.{and_from, and_parts, cond-false, cond-true, false_from_ne_true, le-leb, leb-true, lt-ltb}
use Rattle.std.proofs.lemmas.Str.Parse.{IsNumeralModel, numerals_by_value, tells_all_ascii_digits}
use Rattle.mc_model.specs.Number.{is_numeral, number_up_to}
use Rattle.mc_model.proofs.number.read_number.Goals as goal

-- the test of all digits in std's terms
digits : IsNumeralModel (λ (bytes : List ℕ). all_ascii_digits bytes ≡ true) (digits_value 10)
digits = numerals_by_value (λ (bytes : List ℕ). all_ascii_digits bytes ≡ true) tells_all_ascii_digits

-- what isn't such a number, and what is
none_of : (limit : ℕ) (bytes : List ℕ) → (AllDigits 10 bytes → digits_value 10 bytes ≤ limit → ⊥) → number_up_to limit bytes ≡ None
none_of limit bytes none = cond-false _ _ _ (false_from_ne_true (is_numeral bytes && nat_le (digits_value 10 bytes) limit)
    (λ h. let both = and_parts _ _ h in let parts = and_parts _ _ both.0 in none (digits.to bytes parts.1) (leb-true _ _ both.1)))

some_of : (limit : ℕ) (bytes : List ℕ) → 0 < length bytes → AllDigits 10 bytes → digits_value 10 bytes ≤ limit → number_up_to limit bytes ≡ Some (digits_value 10 bytes)
some_of limit bytes some all few = cond-true _ _ _ (and_from _ _ (and_from _ _ (lt-ltb _ _ some) (digits.from bytes all)) (le-leb _ _ few))

pub returns-in_err-value-clause-number : goal.returns-in_err-value-clause-number
returns-in_err-value-clause-number c =
    c.from_residual.ensures ∙ sym (none_of c.args.limit c.args.bytes.now (λ all few. c.in_err-value.ensures (all, omega (arith, c.ranges.limit.fits))))

pub returns-then-value-limit-clause-number : goal.returns-then-value-limit-clause-number
returns-then-value-limit-clause-number c =
    let spelt = c.in_ok-value.ensures in
    ap Some spelt.1 ∙ sym (some_of c.args.limit c.args.bytes.now (search rules) spelt.0.0 (omega (arith, spelt.1)))
