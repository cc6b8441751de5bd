-- Numbers in a line, in decimal digits, as memcached's doc/protocol.txt has flags, lengths, uniques
-- and deltas.
use Rattle.std.specs.Prelude.{ℕ, ◌-◌, ◌^◌, Bool, ◌&&◌, nat_lt, nat_le, if◌then◌else◌, List, length, Option, Some, None}
use Rattle.std.specs.Str.{all_ascii_digits}
use Rattle.std.specs.Str.Parse.{digits_value}

-- one or more decimal digits, and nothing else; leading zeros are accepted
abbrev pub is_numeral : List ℕ → Bool
is_numeral bytes = nat_lt 0 (length bytes) && all_ascii_digits bytes

-- the number that the bytes spell, if they spell one of at most the limit
abbrev pub number_up_to : ℕ → List ℕ → Option ℕ
number_up_to limit bytes =
    if is_numeral bytes && nat_le (digits_value 10 bytes) limit
    then Some (digits_value 10 bytes) else None

-- The number that data spell, if they are numeric: a "decimal representation of a 64-bit unsigned
-- integer" ("Increment/Decrement") of at most 20 digits.
abbrev pub numeric_value : List ℕ → Option ℕ
numeric_value block = if nat_le (length block) 20 then number_up_to (2 ^ 64 - 1) block else None
