-- The worker that has come furthest of the rest has come furthest of all, unless it has come no
-- further than the first.
use Rattle.std.proofs.Common.{◌≡◌, ◌≤◌, ◌<◌, ◌-◌, ◌↔◌, inl, inr, ⊎_elim, Bool, true, false, IsTrue, suc, List, [], ◌∷◌, length, take, drop, get_or, sym, subst, arith}
use Rattle.std.proofs.lemmas.Bool.{cases_lt}
use Rattle.std.proofs.Math.Nat.{eq-or-lt_of_le}
use Rattle.std.proofs.lemmas.List.{take_all}
use Rattle.std.proofs.lemmas.List.Elements.{All-cons}
use Rattle.mc_counters.specs.declared.board.WorkerShown.{WorkerShown}
use Rattle.mc_metrics.specs.Gathering.{IsFurthest, IsNoFurther}
use Rattle.mc_metrics.specs.declared.gathering.Shown.{Shown}

either : (one other : WorkerShown) → ¬ (IsNoFurther one other) → IsNoFurther other one
either one other further =
    ⊎_elim
    (λ (less : other.generation < one.generation). inl less)
    (λ (most : one.generation ≤ other.generation). ⊎_elim
    (λ (same : one.generation ≡ other.generation). ⊎_elim
    (λ (less : other.replayed < one.replayed). inr (sym same, omega (arith, less)))
    (λ (most : one.replayed ≤ other.replayed). absurd (further (inr (same, most))))
    (cases_lt other.replayed one.replayed))
    (λ (less : one.generation < other.generation). absurd (further (inl less)))
    (eq-or-lt_of_le most))
    (cases_lt other.generation one.generation)

rest_is : (x : Shown) (xs : List Shown) → take (length (x ∷ xs) - 1) (drop 1 (x ∷ xs)) ≡ xs
rest_is x xs = take_all (length (x ∷ xs) - 1) xs (omega arith)

pub stays_furthest : (workers : List Shown) (some first other : Shown) (is : Bool) → 1 ≤ length workers → first ≡ get_or workers 0 some
    → IsFurthest (take (length workers - 1) (drop 1 workers)) other → IsTrue is ↔ IsNoFurther other.worker first.worker → is ≡ false → IsFurthest workers other
stays_furthest [] some first other is low at rest says further = absurd (omega (arith, low))
stays_furthest (x ∷ xs) some first other is low at rest says further =
    let known = subst (λ list. IsFurthest list other) (rest_is x xs) rest in
    let P : Shown → Type 0 = λ one. IsNoFurther one.worker other.worker in
    let none : ¬ (IsNoFurther other.worker first.worker) = λ no. let passes : is ≡ true = says.1 no in absurd cc in
    record {
      among = (suc known.among.0, omega (arith, known.among.1), known.among.2);
      most = All-cons P x xs (subst P at (either other.worker first.worker none)) known.most;
    }
