-- How many bytes streams move; this project's profile.
use Rattle.std.specs.Prelude.{ℕ, ◌-◌, ◌^◌, List, length, min}
use Rattle.mc_stream.specs.Event.{Event, moved}

-- how many bytes were moved by these pulls or pushes, as a number of 64 bits that stays at the
-- greatest
abbrev pub byte_count : List Event → ℕ
byte_count events = min (length (moved events)) (2 ^ 64 - 1)
