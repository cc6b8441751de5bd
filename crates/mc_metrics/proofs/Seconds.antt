-- The digits of a number of microseconds.
use Rattle.std.proofs.Common.{◌≡◌, ◌<◌, ◌+◌, ◌*◌, ◌/◌, ◌%◌, ℕ, List, [], ◌∷◌, arith}
use Rattle.std.proofs.lemmas.Str.{digit_value_digit}
use Rattle.std.specs.Char.{digit_value}
use Rattle.std.specs.Str.Parse.{AllDigits, digits_value}

-- the digit of a number below ten
digit : (n : ℕ) → n < 10 → digit_value (48 + n) ≡ n
digit n small = omega (arith, digit_value_digit (48 + n) (omega (arith, small), omega (arith, small)))

-- six digits
abbrev pub six : ℕ → ℕ → ℕ → ℕ → ℕ → ℕ → List ℕ
six a b c d e f = (48 + a) ∷ (48 + b) ∷ (48 + c) ∷ (48 + d) ∷ (48 + e) ∷ (48 + f) ∷ []

module _ (a b c d e f : ℕ) (is_a : a < 10) (is_b : b < 10) (is_c : c < 10) (is_d : d < 10) (is_e : e < 10) (is_f : f < 10) where
  pub six_value : digits_value 10 (six a b c d e f) ≡ a * 100000 + b * 10000 + c * 1000 + d * 100 + e * 10 + f
  six_value = omega (arith, digit a is_a, digit b is_b, digit c is_c, digit d is_d, digit e is_e, digit f is_f)

  pub six_digits : AllDigits 10 (six a b c d e f)
  six_digits = (omega (arith, digit a is_a), (omega (arith, digit b is_b), (omega (arith, digit c is_c), (omega (arith, digit d is_d), (omega (arith, digit e is_e), (omega (arith, digit f is_f), tt))))))

pub last_digit : (n : ℕ) → n % 10 < 10
last_digit n = omega arith

-- the six digits of what is left below a million
pub left_over : (n : ℕ) → (n / 100000 % 10) * 100000 + (n / 10000 % 10) * 10000 + (n / 1000 % 10) * 1000 + (n / 100 % 10) * 100 + (n / 10 % 10) * 10 + n % 10 ≡ n % 1000000
left_over n = omega arith
