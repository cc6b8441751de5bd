-- Lists place by place.
use Rattle.std.proofs.Common.{◌≡◌, ℕ, zero, suc, ◌+◌, ◌<◌, List, [], ◌∷◌, length, slice_get, slice_set, Some, sym, refl, ap, ap₂, ◌∙◌, arith}
use mathlib.Core.Logic.{dite}
use native.Mathlib.Decide.{ℕ_discrete}
use Rattle.std.proofs.lemmas.Option.{none-some, same_Some}

-- lists that are the same at each place are equal
pub same_by_places : {X : Type 0} (xs ys : List X) → ((k : ℕ) → slice_get xs k ≡ slice_get ys k) → xs ≡ ys
same_by_places [] [] same = refl
same_by_places [] (y ∷ ys) same = absurd (none-some y (same 0))
same_by_places (x ∷ xs) [] same = absurd (none-some x (sym (same 0)))
same_by_places (x ∷ xs) (y ∷ ys) same = ap₂ (λ first rest. first ∷ rest) (same_Some x y (same 0)) (same_by_places xs ys (λ k. same (suc k)))

-- lists of one length that are the same at each place are equal
pub same_where_long : {X : Type 0} (xs ys : List X) → length xs ≡ length ys → ((place : ℕ) → place < length xs → slice_get xs place ≡ slice_get ys place) → xs ≡ ys
same_where_long [] [] long same = refl
same_where_long [] (y ∷ ys) long same = absurd (omega arith)
same_where_long (x ∷ xs) [] long same = absurd (omega arith)
same_where_long (x ∷ xs) (y ∷ ys) long same = λ i. same_Some x y (same 0 (omega arith)) i ∷ same_where_long xs ys (omega arith) (λ place below. same (suc place) (omega arith)) i

-- to write what stands there changes nothing
pub set_same : {X : Type 0} (xs : List X) (place : ℕ) (x : X) → slice_get xs place ≡ Some x → slice_set xs place x ≡ xs
set_same [] place x at = absurd (none-some x at)
set_same (y ∷ xs) zero x at = ap (λ (z : _). z ∷ xs) (sym (same_Some y x at))
set_same (y ∷ xs) (suc place) x at = ap (λ (zs : List _). y ∷ zs) (set_same xs place x at)

-- the same below a place and there is the same below the next
pub one_more_place : {X : Type 0} (xs ys : List X) (here : ℕ) → ((place : ℕ) → place < here → slice_get xs place ≡ slice_get ys place) → slice_get xs here ≡ slice_get ys here →
    (place : ℕ) → place < here + 1 → slice_get xs place ≡ slice_get ys place
one_more_place xs ys here below at place before =
    dite (ℕ_discrete place here) (λ is. ap (slice_get xs) is ∙ (at ∙ ap (slice_get ys) (sym is))) (λ apart. below place (omega arith))
