-- Lemmas on lists of labels.
use Rattle.std.proofs.Common.{◌≡◌, ◌++◌, List, [], ◌∷◌, ap, flat_map, map, refl, ℕ}

-- what is made of what a function gives is made of the list itself
pub flat_map_of_map : {X Y : Type 0} (f : Y → List ℕ) (g : X → Y) (xs : List X) → flat_map f (map g xs) ≡ flat_map (λ x. f (g x)) xs
flat_map_of_map f g [] = refl
flat_map_of_map f g (x ∷ xs) = ap (λ rest. f (g x) ++ rest) (flat_map_of_map f g xs)
