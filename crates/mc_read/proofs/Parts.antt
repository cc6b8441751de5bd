-- Bytes in two lists, of which parts are moved or copied.
use Rattle.std.proofs.Common.{◌≡◌, ℕ, ◌+◌, ◌-◌, ◌≤◌, ◌⊎◌, inl, inr, List, [], ◌++◌, length, take, drop, min, sym, ◌∙◌, ap, append-nil, length-drop, arith, ⊎_elim}
use Rattle.std.proofs.lemmas.Bool.{cases_lt}
use Rattle.std.proofs.lemmas.List.{append_assoc, drop_all, drop-append-le, take_all, take-append-drop}
use Rattle.std.proofs.Math.Seq.{drop-append-add, take-append-add}

-- what stands from a place behind the first list on
pub behind_rest : (rest piece : List ℕ) (start : ℕ) → length rest ≤ start → drop start (rest ++ piece) ≡ drop (start - length rest) piece
behind_rest rest piece start behind =
    let place : start ≡ length rest + (start - length rest) = omega (arith, behind) in
    ap (λ n. drop n (rest ++ piece)) place ∙ drop-append-add rest piece (start - length rest)

-- what stands from a place in the first list to one in the second
pub across : (rest piece : List ℕ) (start end : ℕ) → start ≤ length rest → length rest ≤ end → drop start rest ++ take (end - length rest) piece ≡ take (end - start) (drop start (rest ++ piece))
across rest piece start end inside past =
    let span : end - start ≡ length (drop start rest) + (end - length rest) = omega (arith, inside, past, length-drop start rest) in
    sym (ap (λ bytes. take (end - start) bytes) (drop-append-le start rest piece inside)
    ∙ (ap (λ n. take n (drop start rest ++ piece)) span ∙ take-append-add (drop start rest) piece (end - length rest)))

-- what is moved from the front of both lists behind other bytes
pub moved_front : (body rest piece : List ℕ) (some more : ℕ) → (length rest ≤ some) ⊎ (more ≡ 0) → ((body ++ take some rest) ++ take more piece) ++ (drop some rest ++ drop more piece) ≡ body ++ (rest ++ piece)
moved_front body rest piece some more (inl all) =
    let whole : take some rest ≡ rest = take_all some rest all in
    let none : drop some rest ≡ [] = drop_all some rest all in
    (λ i. ((body ++ whole i) ++ take more piece) ++ (none i ++ drop more piece))
    ∙ (append_assoc (body ++ rest) (take more piece) (drop more piece)
    ∙ (ap (λ bytes. (body ++ rest) ++ bytes) (take-append-drop more piece) ∙ append_assoc body rest piece))
moved_front body rest piece some more (inr none) =
    (λ i. ((body ++ take some rest) ++ take (none i) piece) ++ (drop some rest ++ drop (none i) piece))
    ∙ (ap (λ bytes. bytes ++ (drop some rest ++ piece)) (append-nil (body ++ take some rest))
    ∙ (append_assoc body (take some rest) (drop some rest ++ piece)
    ∙ ap (λ bytes. body ++ bytes) (sym (append_assoc (take some rest) (drop some rest) piece) ∙ ap (λ bytes. bytes ++ piece) (take-append-drop some rest))))

-- if not all of the first list found room, there is none for the second
pub room_left : (body rest piece most some more : ℕ) → body ≤ most → some ≡ min rest (most - body) → more ≡ min piece (most - (body + some)) → (rest ≤ some) ⊎ (more ≡ 0)
room_left body rest piece most some more within is are =
    ⊎_elim (λ few. inr (omega (arith, few, within, is, are))) (λ all. inl all) (cases_lt some rest)
