-- Where a byte stands first, and the words of a text, one after another.
use Rattle.std.proofs.Common.{◌≡◌, ℕ, ◌<◌, true, false, cond, nat_lt, List, [], ◌∷◌, ◌++◌, length, filter, Some, None, refl, sym, ◌∙◌, ap, ⊎_elim, append-nil, append_assoc, arith}
use Rattle.std.proofs.lemmas.Bool.{cases_lt, false_from_ne_true, lt-ltb}
use Rattle.std.proofs.lemmas.List.{drop_all, take_all}
use Rattle.std.proofs.lemmas.List.Splits.{slice_split_first, slice_split_none}
use Rattle.std.proofs.lemmas.List.Sums.{fails_before_first, position_or_len_is}
use Rattle.std.specs.List.{after_first, before_first, position_or_len, slice_split}
use Rattle.memchr.specs.Find.{IsFirstByte, is_byte}
use Rattle.mc_read.specs.Word.{is_space, spaced_words}

-- the place that a search gives is the first one
pub position-from_search : (byte : ℕ) (text : List ℕ) (place : ℕ) → IsFirstByte (is_byte byte) text (Some place) → (place < length text) × (position_or_len (is_byte byte) text ≡ place)
position-from_search byte text place h =
    (h.0.high, position_or_len_is (is_byte byte) text place 0 (omega (arith, h.0.high)) (λ k below. false_from_ne_true _ (h.0.before k (omega arith) below)) (λ _. h.1))

pub position-from_no_place : (byte : ℕ) (text : List ℕ) → IsFirstByte (is_byte byte) text None → position_or_len (is_byte byte) text ≡ length text
position-from_no_place byte text h =
    position_or_len_is (is_byte byte) text (length text) 0 (omega arith) (λ k below. false_from_ne_true _ (h k (omega arith) below)) (λ past. absurd (omega (arith, past)))

-- a piece as a word, where it isn't empty
abbrev pub word_of : List ℕ → List (List ℕ)
word_of piece = filter (λ word. nat_lt 0 (length word)) (piece ∷ [])

word_in_front : (piece : List ℕ) (pieces : List (List ℕ)) → filter (λ word. nat_lt 0 (length word)) (piece ∷ pieces) ≡ word_of piece ++ filter (λ word. nat_lt 0 (length word)) pieces
word_in_front piece pieces =
    let others = filter (λ word. nat_lt 0 (length word)) pieces in
    elim (nat_lt 0 (length piece)) as (λ b. cond b (piece ∷ others) others ≡ cond b (piece ∷ []) [] ++ others) [ true ↦ refl | false ↦ refl ]

-- the words of a text are its first piece and the words after it
pub spaced_words_first : (text : List ℕ) → spaced_words text ≡ word_of (before_first is_space text) ++ spaced_words (after_first is_space text)
spaced_words_first text =
    ⊎_elim
    (λ stands. ap (filter (λ word. nat_lt 0 (length word))) (slice_split_first is_space text 0 stands) ∙ word_in_front (before_first is_space text) (slice_split is_space (after_first is_space text)))
    (λ past.
    let whole : before_first is_space text ≡ text = take_all _ text past in
    let nothing : after_first is_space text ≡ [] = drop_all _ text (omega (arith, past)) in
    let one_piece = slice_split_none is_space text (λ k d below. fails_before_first is_space text k d (omega (arith, below, past))) in
    ap (filter (λ word. nat_lt 0 (length word))) one_piece ∙ (sym (append-nil (word_of text)) ∙ rw (whole, nothing) refl))
    (cases_lt (position_or_len is_space text) (length text))

-- a first piece that isn't empty joins the words before it
pub word_joins : (found : List (List ℕ)) (text word others : List ℕ) → word ≡ before_first is_space text → others ≡ after_first is_space text → 0 < length word → (found ++ word ∷ []) ++ spaced_words others ≡ found ++ spaced_words text
word_joins found text word others is_first is_after some =
    let is_word : word_of word ≡ word ∷ [] = ap (λ b. cond b (word ∷ []) []) (lt-ltb 0 (length word) some) in
    let words_of_text : spaced_words text ≡ (word ∷ []) ++ spaced_words others =
    spaced_words_first text ∙ (rw (← is_first, ← is_after) (ap (λ words. words ++ spaced_words others) is_word)) in
    append_assoc found (word ∷ []) (spaced_words others) ∙ ap (λ words. found ++ words) (sym words_of_text)
