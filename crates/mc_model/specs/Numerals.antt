-- Which bytes spell a number, in std's terms: those that pass the test of `number_up_to`.
use Rattle.std.specs.Prelude.{ℕ, ◌≤◌, List}
use Rattle.std.specs.Str.Parse.{IsNumeral, digits_value}

-- one or more decimal digits of a number of at most the limit
abbrev pub IsNumber : ℕ → List ℕ → Type 0
IsNumber limit bytes = IsNumeral 10 bytes × (digits_value 10 bytes ≤ limit)
