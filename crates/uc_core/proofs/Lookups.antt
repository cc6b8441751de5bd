-- What stands at a place of a list and of a longer one, and a list parted at a place.
use Rattle.std.proofs.Common.{◌≡◌, ℕ, zero, suc, ◌+◌, ◌<◌, List, [], ◌∷◌, ◌++◌, length, map, take, drop, Some, slice_get, refl, sym, ap, ap₂, arith, add-one}
use Rattle.std.proofs.lemmas.Option.{none-some, same_Some}
use Rattle.lists.proofs.Public.{take_more}

module _ {X : Type 0} where
  -- within the list there is an element
  pub there : (xs : List X) (k : ℕ) → k < length xs → (x : X) × (slice_get xs k ≡ Some x)
  there [] k inside = absurd (omega (arith, inside))
  there (x ∷ xs) zero inside = (x, refl)
  there (x ∷ xs) (suc k) inside = there xs k (omega (arith, inside))

  -- two lists with the same element at each place are equal
  pub same_by_places : (xs ys : List X) → ((k : ℕ) → slice_get xs k ≡ slice_get ys k) → xs ≡ ys
  same_by_places [] [] same = refl
  same_by_places [] (y ∷ ys) same = absurd (none-some y (same 0))
  same_by_places (x ∷ xs) [] same = absurd (none-some x (sym (same 0)))
  same_by_places (x ∷ xs) (y ∷ ys) same = ap₂ (λ first rest. first ∷ rest) (same_Some x y (same 0)) (same_by_places xs ys (λ k. same (suc k)))

  -- what stands in a list stands in a longer one
  pub at_longer : (xs ys : List X) (k : ℕ) (x : X) → slice_get xs k ≡ Some x → slice_get (xs ++ ys) k ≡ Some x
  at_longer [] ys k x at = absurd (none-some x at)
  at_longer (y ∷ xs) ys zero x at = at
  at_longer (y ∷ xs) ys (suc k) x at = at_longer xs ys k x at

  -- what stands in a list stands somewhere in one that ends with it
  pub at_further : (xs ys : List X) (k : ℕ) (x : X) → slice_get ys k ≡ Some x → (n : ℕ) × (slice_get (xs ++ ys) n ≡ Some x)
  at_further [] ys k x at = (k, at)
  at_further (y ∷ xs) ys k x at = let rest = at_further xs ys k x at in (suc rest.0, rest.1)

  -- a list parts at a place in what stands before it, its element and the rest
  pub parts_at : (xs : List X) (k : ℕ) (x : X) → slice_get xs k ≡ Some x → xs ≡ take k xs ++ x ∷ drop (suc k) xs
  parts_at [] k x at = absurd (none-some x at)
  parts_at (y ∷ xs) zero x at = ap (λ first. first ∷ xs) (same_Some y x at)
  parts_at (y ∷ xs) (suc k) x at = ap (λ rest. y ∷ rest) (parts_at xs k x at)

  pub take-more_at : (xs : List X) (k : ℕ) (x : X) → slice_get xs k ≡ Some x → take (k + 1) xs ≡ take k xs ++ x ∷ []
  take-more_at xs k x at = rw add-one (take_more xs k x at)

-- two functions that agree on the elements of a list
pub map-agree : {X Y : Type 0} (f g : X → Y) (xs : List X) → ((k : ℕ) (x : X) → slice_get xs k ≡ Some x → f x ≡ g x) → map f xs ≡ map g xs
map-agree f g [] agree = refl
map-agree f g (x ∷ xs) agree = ap₂ (λ first rest. first ∷ rest) (agree 0 x refl) (map-agree f g xs (λ k y at. agree (suc k) y at))
