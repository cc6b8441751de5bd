-- What is true of each element of a list, and what a function makes of all of them.
use Rattle.std.proofs.Common.{◌≡◌, ℕ, zero, suc, List, [], ◌∷◌, ◌++◌, length, map, replicate, Some, refl, sym, ap, ◌∙◌, ap₂, subst, slice_get, slice_set}
use Rattle.std.proofs.lemmas.Option.{none-some, same_Some}

-- it is true of each element
abbrev pub EachIs : {X : Type 0} → (X → Type 0) → List X → Type 0
EachIs {X} P xs = (number : ℕ) (x : X) → slice_get xs number ≡ Some x → P x

-- one more element, and one that changes
pub EachIs-push : {X : Type 0} (P : X → Type 0) (xs : List X) (y : X) → EachIs P xs → P y → EachIs P (xs ++ y ∷ [])
EachIs-push P [] y each last zero x is = subst P (same_Some y x is) last
EachIs-push P [] y each last (suc number) x is = absurd (none-some x is)
EachIs-push P (z ∷ xs) y each last zero x is = each 0 x is
EachIs-push P (z ∷ xs) y each last (suc number) x is = EachIs-push P xs y (λ k. each (suc k)) last number x is

pub EachIs-set : {X : Type 0} (P : X → Type 0) (xs : List X) (n : ℕ) (new : X) → EachIs P xs → P new → EachIs P (slice_set xs n new)
EachIs-set P [] n new each holds number x is = each number x is
EachIs-set P (y ∷ xs) zero new each holds zero x is = subst P (same_Some new x is) holds
EachIs-set P (y ∷ xs) zero new each holds (suc number) x is = each (suc number) x is
EachIs-set P (y ∷ xs) (suc n) new each holds zero x is = each 0 x is
EachIs-set P (y ∷ xs) (suc n) new each holds (suc number) x is = EachIs-set P xs n new (λ k. each (suc k)) holds number x is

-- the images of all are one value
pub map-alike : {X Y : Type 0} (f : X → Y) (y : Y) (xs : List X) → EachIs (λ x. f x ≡ y) xs → map f xs ≡ replicate (length xs) y
map-alike f y [] each = refl
map-alike f y (x ∷ xs) each = ap₂ (λ first rest. first ∷ rest) (each 0 x refl) (map-alike f y xs (λ k. each (suc k)))

-- an element changes in nothing that the function reads
pub map-kept : {X Y : Type 0} (f : X → Y) (xs : List X) (n : ℕ) (x new : X) → slice_get xs n ≡ Some x → f new ≡ f x →
    map f (slice_set xs n new) ≡ map f xs
map-kept f [] n x new at same = refl
map-kept f (y ∷ xs) zero x new at same = ap (λ z. z ∷ map f xs) (same ∙ sym (ap f (same_Some y x at)))
map-kept f (y ∷ xs) (suc n) x new at same = ap (λ zs. f y ∷ zs) (map-kept f xs n x new at same)
