-- Where the first line ends, found in a window of the bytes.
use Rattle.std.proofs.Common.{◌≡◌, ℕ, ◌+◌, ◌-◌, ◌<◌, ◌≤◌, not, List, length, get_or, take, drop, Some, None, refl, sym, ◌∙◌, ap, ⊎_elim, length-append, length-drop, length-take, ◌++◌, arith}
use Rattle.std.proofs.lemmas.Bool.{cases_lt, false_from_ne_true}
use Rattle.std.proofs.lemmas.List.{drop-append-le, get_or-drop, get_or-take, take-append-le}
use Rattle.std.proofs.Math.Seq.{drop-append-add}
use Rattle.std.proofs.lemmas.List.Sums.{fails_before_first, passes_at_first, position_or_len_is, prefix_len-le-length}
use Rattle.memchr.specs.Find.{IsFirstByte, is_byte}
use Rattle.mc_read.specs.First.{is_line_feed, line_length}

pub line_length_le : (bytes : List ℕ) → line_length bytes ≤ length bytes
line_length_le bytes = prefix_len-le-length (λ byte. not (is_line_feed byte)) bytes

module _ (bytes : List ℕ) (searched limit : ℕ) (in_vain : searched ≤ line_length bytes) (window : searched ≤ limit) (within : limit ≤ length bytes) where
  -- a byte of the window is one of the bytes
  in_window : (k : ℕ) → k < limit - searched → get_or (take (limit - searched) (drop searched bytes)) k 0 ≡ get_or bytes (searched + k) 0
  in_window k below = get_or-take (limit - searched) (drop searched bytes) k 0 below ∙ get_or-drop searched bytes k 0

  window_length : length (take (limit - searched) (drop searched bytes)) ≡ limit - searched
  window_length = omega (arith, length-take (limit - searched) (drop searched bytes), length-drop searched bytes, within, window)

  -- the first line feed of the window is the first of all
  pub line_in_window : (place : ℕ) → IsFirstByte (is_byte 10) (take (limit - searched) (drop searched bytes)) (Some place) → (line_length bytes ≡ searched + place) × (searched + place < limit)
  line_in_window place h =
      let below : place < limit - searched = omega (arith, h.0.high, window_length) in (
        position_or_len_is is_line_feed bytes (searched + place) 0 (omega (arith, below, within))
            (λ k before. ⊎_elim
            (λ early. fails_before_first is_line_feed bytes k 0 (omega (arith, early, in_vain)))
            (λ late.
            let place_of_k : k ≡ searched + (k - searched) = omega (arith, late) in
            let fails = false_from_ne_true _ (h.0.before (k - searched) (omega arith) (omega (arith, before, late))) in
            ap (λ n. is_line_feed (get_or bytes n 0)) place_of_k ∙ (ap is_line_feed (sym (in_window (k - searched) (omega (arith, before, late, below)))) ∙ fails))
            (cases_lt k searched))
            (λ _. ap is_line_feed (sym (in_window place below)) ∙ h.1),
        omega (arith, below),
      )

  -- without one the first line goes past the window
  pub no_line_in_window : IsFirstByte (is_byte 10) (take (limit - searched) (drop searched bytes)) None → limit ≤ line_length bytes
  no_line_in_window h =
      ⊎_elim
      (λ early.
      let k = line_length bytes - searched in
      let place_of_k : searched + k ≡ line_length bytes = omega (arith, in_vain) in
      let below : k < limit - searched = omega (arith, early, in_vain) in
      let passes = passes_at_first is_line_feed bytes 0 (omega (arith, early, within)) in
      absurd (h k (omega arith) (omega (arith, below, window_length)) (ap is_line_feed (in_window k below) ∙ (ap (λ n. is_line_feed (get_or bytes n 0)) place_of_k ∙ passes))))
      (λ late. late)
      (cases_lt (line_length bytes) limit)

-- A window of the bytes that stand in front, and one of those behind them.
module _ (rest piece : List ℕ) (searched end : ℕ) (in_vain : searched ≤ line_length (rest ++ piece)) where
  front_window : searched ≤ end → end ≤ length rest → take (end - searched) (drop searched (rest ++ piece)) ≡ take (end - searched) (drop searched rest)
  front_window start stop =
      rw (drop-append-le searched rest piece (omega arith)) (take-append-le (end - searched) (drop searched rest) piece (omega (arith, length-drop searched rest)))

  pub line_in_front : (place : ℕ) → searched ≤ end → end ≤ length rest → IsFirstByte (is_byte 10) (take (end - searched) (drop searched rest)) (Some place) → (line_length (rest ++ piece) ≡ searched + place) × (searched + place < end)
  line_in_front place start stop h =
      line_in_window (rest ++ piece) searched end in_vain start (omega (arith, length-append rest piece)) place (rw (front_window start stop) h)

  pub no_line_in_front : searched ≤ end → end ≤ length rest → IsFirstByte (is_byte 10) (take (end - searched) (drop searched rest)) None → end ≤ line_length (rest ++ piece)
  no_line_in_front start stop h =
      no_line_in_window (rest ++ piece) searched end in_vain start (omega (arith, length-append rest piece)) (rw (front_window start stop) h)

  back_window : length rest ≤ searched → take (length rest + end - searched) (drop searched (rest ++ piece)) ≡ take (end - (searched - length rest)) (drop (searched - length rest) piece)
  back_window behind =
      let n : length rest + end - searched ≡ end - (searched - length rest) = omega arith in
      let e : length rest + (searched - length rest) ≡ searched = omega arith in
      let d : drop searched (rest ++ piece) ≡ drop (searched - length rest) piece = (rw e at (drop-append-add rest piece (searched - length rest))) in
      rw (n, d) refl

  pub line_behind : (place : ℕ) → length rest ≤ searched → searched - length rest ≤ end → end ≤ length piece → IsFirstByte (is_byte 10) (take (end - (searched - length rest)) (drop (searched - length rest) piece)) (Some place)
      → (line_length (rest ++ piece) ≡ searched + place) × (searched + place < length rest + end)
  line_behind place behind start stop h =
      line_in_window (rest ++ piece) searched (length rest + end) in_vain (omega arith) (omega (arith, length-append rest piece)) place (rw (back_window behind) h)

  pub no_line_behind : length rest ≤ searched → searched - length rest ≤ end → end ≤ length piece → IsFirstByte (is_byte 10) (take (end - (searched - length rest)) (drop (searched - length rest) piece)) None
      → length rest + end ≤ line_length (rest ++ piece)
  no_line_behind behind start stop h =
      no_line_in_window (rest ++ piece) searched (length rest + end) in_vain (omega arith) (omega (arith, length-append rest piece)) (rw (back_window behind) h)
