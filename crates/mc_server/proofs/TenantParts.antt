-- Where a tenant's word is cut: its parts lack the bytes that end them.
use Rattle.std.proofs.Common.{◌≡◌, ◌≢◌, ℕ, ◌<◌, List, ◌∷◌, ◌++◌, length, get_or, Option, Some, None, Bor, subst}
use Rattle.std.proofs.lemmas.List.Elements.{All-from_get_or, All-get_or}
use Rattle.std.proofs.lemmas.Str.Pattern.{IsSplitOnceResult, split_after, split_parts}
use Rattle.mc_server.specs.TenantWord.{Lacks}

lacks_at : (c : ℕ) (text : List ℕ) → Lacks c text → (i : ℕ) → i < length text → get_or text i 0 ≢ c
lacks_at c text lacks i low = All-get_or (λ other. other ≢ c) text i 0 low lacks

-- a text with a byte in it is cut
pub is_cut : (c : ℕ) (text front back : List ℕ) (r : Option (Bor (List ℕ) × Bor (List ℕ))) → IsSplitOnceResult c text r → c < 128 → text ≡ front ++ (c ∷ back)
    → Lacks c front → r ≡ None → ⊥
is_cut c text front back None h low e lacks none = split_after c text front back None h low e (lacks_at c front lacks)
is_cut c text front back (Some x) h low e lacks none = cc

-- and it is cut there
pub is_cut_at : (c : ℕ) (text front back : List ℕ) (r : Option (Bor (List ℕ) × Bor (List ℕ))) (x y : Bor (List ℕ)) → IsSplitOnceResult c text r → c < 128
    → text ≡ front ++ (c ∷ back) → Lacks c front → r ≡ Some (x, y) → (x.now ≡ front) × (y.now ≡ back)
is_cut_at c text front back None x y h low e lacks some = cc
is_cut_at c text front back (Some p) x y h low e lacks some =
    let parts = split_after c text front back (Some p) h low e (lacks_at c front lacks) in
    let first : p.0 ≡ x = cc in
    let second : p.1 ≡ y = cc in
    rw (first, second) at parts

-- what stands before a byte at which a text was cut lacks it
pub front_lacks : (c : ℕ) (text : List ℕ) (r : Option (Bor (List ℕ) × Bor (List ℕ))) (x y : Bor (List ℕ)) → IsSplitOnceResult c text r → c < 128 → r ≡ Some (x, y) → Lacks c x.now
front_lacks c text None x y h low some = cc
front_lacks c text (Some p) x y h low some =
    let first : p.0 ≡ x = cc in
    subst (λ (front : Bor (List ℕ)). Lacks c front.now) first (All-from_get_or (λ other. other ≢ c) p.0.now 0 (split_parts c text (Some p) h low).1)
