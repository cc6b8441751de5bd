-- The words of a line, and what a single word can be. After memcached's doc/protocol.txt,
-- "Commands" and "Storage commands"; that a line feed alone ends a line, and the spelling of an
-- exptime, are this project's profile.
use Rattle.std.specs.Prelude.{ℕ, ◌-◌, Bool, ◌==◌, nat_eq, nat_lt, if◌then◌else◌, List, [], ◌∷◌, length, take, filter, slice_index, codes}
use Rattle.std.specs.Cmp.Lexicographic.{pointwise}
use Rattle.std.specs.List.{list_all, slice_split}
use Rattle.mc_model.specs.Number.{is_numeral}

-- a line without a carriage return at its end, of which at most one is removed; std's `slice_index`
-- is 0 out of bounds
abbrev pub without_return : List ℕ → List ℕ
without_return line =
    if slice_index line (length line - 1) == 13 then take (length line - 1) line else line

abbrev pub is_space : ℕ → Bool
is_space byte = byte == 32

-- what runs of the space byte separate; no other byte does
abbrev pub spaced_words : List ℕ → List (List ℕ)
spaced_words text = filter (λ piece. nat_lt 0 (length piece)) (slice_split is_space text)

abbrev pub words : List ℕ → List (List ℕ)
words line = spaced_words (without_return line)

-- the word is this name, byte for byte
abbrev pub is_word : List ℕ → List ℕ → Bool
is_word word name = pointwise nat_eq word name

abbrev pub is_noreply : List ℕ → Bool
is_noreply word = is_word word (codes "noreply")

-- an exptime without its sign
abbrev pub without_minus : List ℕ → List ℕ
without_minus [] = []
without_minus (byte ∷ bytes) = if byte == 45 then bytes else byte ∷ bytes

-- an optional minus and one or more digits
abbrev pub is_exptime : List ℕ → Bool
is_exptime word = is_numeral (without_minus word)

-- an exptime whose digits are all 0
abbrev pub is_zero : List ℕ → Bool
is_zero word = list_all (λ byte. byte == 48) (without_minus word)
