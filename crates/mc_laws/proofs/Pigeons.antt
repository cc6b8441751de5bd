-- The pigeonhole principle, in the form that a list of numbers has.
use Rattle.std.proofs.Common.{◌≡◌, ◌≢◌, ℕ, suc, ◌<◌, ◌≤◌, List, length, All, AllPairs, true, true≢false, sym, ◌∙◌, arith, ne_eqb, eqb}
use Rattle.std.specs.List.{list_any}
use Rattle.std.proofs.Math.Decide.{dec_le}
use Rattle.std.proofs.lemmas.Bool.Decides.{Decides-eqb}
use Rattle.std.proofs.lemmas.List.Folds.{list_any_none}
use Rattle.std.proofs.lemmas.Map.Made.{IsDistinct-from_AllPairs}
use Rattle.std.proofs.lemmas.Map.Steps.{length-le_from_distinct_below}

-- distinct numbers below n are at most n
pub few_distinct : (numbers : List ℕ) (n : ℕ) → AllPairs (λ x y. x ≢ y) numbers → All (λ x. x < n) numbers → length numbers ≤ n
few_distinct numbers n apart below = length-le_from_distinct_below numbers n (IsDistinct-from_AllPairs Decides-eqb numbers apart) is_below
  where
    is_below : (q : ℕ) → list_any (eqb q) numbers ≡ true → q < n
    is_below q there = by_size (dec_le (suc q) n)
      where
        by_size : Dec (suc q ≤ n) → q < n
        by_size (yes inside) = inside
        by_size (no outside) = absurd (true≢false (sym there ∙ list_any_none (eqb q) numbers
            (λ place d within. let small = below place d within in ne_eqb q _ (omega arith))))
