-- Bytes that are given in pieces.
use Rattle.std.proofs.Common.{◌≡◌, ℕ, ◌+◌, List, ◌++◌, length, take, drop, sym, ap, ◌∙◌}
use Rattle.std.proofs.lemmas.List.{drop-drop, take-append-drop, take_at}

-- what is given is no longer left
pub left_less : (bytes buffer piece : List ℕ) (given count : ℕ) → length piece ≡ count → piece ≡ take count (drop given bytes) →
    drop given bytes ≡ take count (piece ++ drop count buffer) ++ drop (given + count) bytes
left_less bytes buffer piece given count long is =
    sym (take-append-drop count (drop given bytes))
    ∙ (ap (λ rest. take count (drop given bytes) ++ rest) (drop-drop count given bytes)
    ∙ ap (λ front. front ++ drop (given + count) bytes) (sym (take_at piece (drop count buffer) count long ∙ is)))
