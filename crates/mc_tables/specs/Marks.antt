-- Marks on places, in words of 64 bits, by which a table in layers tells what was removed below;
-- this project's profile.
use Rattle.std.specs.Prelude.{ℕ, ◌/◌, ◌%◌, Bool, List, get_or, nat_eq}
use Rattle.std.specs.Int.{bit_at}

-- whether a place is marked: the bit of its remainder by 64, in the word of its quotient, is 1
abbrev pub is_set : List ℕ → ℕ → Bool
is_set marks place = nat_eq (bit_at (get_or marks (place / 64) 0) (place % 64)) 1
