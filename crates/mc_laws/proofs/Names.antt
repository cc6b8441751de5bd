-- A valid name, spelled out, and whose a name is.
use Rattle.std.proofs.Common.{◌≡◌, ◌≢◌, ◌↔◌, ◌⊎◌, ℕ, ◌<◌, ◌≤◌, true, cond, nat_lt, List, [], ◌∷◌, length, get_or, take, Some, None, refl, sym, ◌∙◌, ap, length-take, arith}
use Rattle.std.proofs.lemmas.Bool.{and_from, and_parts, both_ways, cond-true, false_from_ne_true, le-leb, leb-true, lt-ltb, ltb-true}
use Rattle.std.proofs.lemmas.Bool.Decides.{nat_tests}
use Rattle.std.proofs.lemmas.List.{get_or-take}
use Rattle.std.proofs.lemmas.List.Elements.{All-from_recursion, recursion_from_All}
use Rattle.std.proofs.lemmas.List.Quantifiers.{position-Some}
use Rattle.std.proofs.lemmas.List.Sums.{position_or_len_is}
use Rattle.std.proofs.lemmas.Option.{get_or_from_slice_get, slice_get-get_or, slice_get_within}
use Rattle.std.specs.Cmp.Lexicographic.{bytes_decides, pointwise}
use Rattle.std.specs.List.{AllByRecursion, list_all, slice_get}
use Rattle.std.specs.Prelude.{All, IsTrue, nat_eq}
use Rattle.mc_model.specs.declared.id.TheConstants.{TENANTS}
use Rattle.mc_model.specs.declared.name.TheConstants.{NAME_BYTES}
use Rattle.mc_model.specs.Name.{is_lawful_name, is_name_byte, tenant_named}

abbrev IsSpelled : ℕ → Type 0
IsSpelled byte = (97 ≤ byte) × (byte ≤ 122) ⊎ (48 ≤ byte) × (byte ≤ 57) ⊎ (byte ≡ 45) ⊎ (byte ≡ 95)

spelled_from : (byte : ℕ) → is_name_byte byte ≡ true → IsSpelled byte
spelled_from byte passed = grind (arith, nat_tests, passed)

spelled_to : (byte : ℕ) → IsSpelled byte → is_name_byte byte ≡ true
spelled_to byte spelled = grind (arith, nat_tests, spelled)

all_spelled_from : (bytes : List ℕ) → list_all is_name_byte bytes ≡ true → AllByRecursion IsSpelled bytes
all_spelled_from [] passed = tt
all_spelled_from (byte ∷ bytes) passed = let parts = and_parts _ _ passed in (spelled_from byte parts.0, all_spelled_from bytes parts.1)

all_spelled_to : (bytes : List ℕ) → AllByRecursion IsSpelled bytes → list_all is_name_byte bytes ≡ true
all_spelled_to [] spelled = refl
all_spelled_to (byte ∷ bytes) spelled = and_from _ _ (spelled_to byte spelled.0) (all_spelled_to bytes spelled.1)

pub lawful_is_spelled : (bytes : List ℕ) → IsTrue (is_lawful_name bytes) ↔ (((0 < length bytes) × (length bytes ≤ NAME_BYTES)) × All IsSpelled bytes)
lawful_is_spelled bytes = (
  λ lawful.
      let parts = and_parts _ _ lawful in
      let few = and_parts _ _ parts.0 in
      ((ltb-true _ _ few.0, leb-true _ _ few.1), All-from_recursion IsSpelled bytes (all_spelled_from bytes parts.1)),
  λ spelled. and_from _ _ (and_from _ _ (lt-ltb _ _ spelled.0.0) (le-leb _ _ spelled.0.1)) (all_spelled_to bytes (recursion_from_All IsSpelled bytes spelled.1)),
)

-- the name stands at the tenant's number, and nowhere before
abbrev StandsFirst : List (List ℕ) → List ℕ → ℕ → Type 0
StandsFirst names name tenant =
    (tenant < TENANTS) × (slice_get names tenant ≡ Some name) × ((before : ℕ) → before < tenant → slice_get names before ≢ Some name)

module _ (names : List (List ℕ)) (name : List ℕ) (tenant : ℕ) where
  named_first : tenant_named names name ≡ Some tenant → StandsFirst names name tenant
  named_first is =
      let parts = position-Some (λ other. pointwise nat_eq other name) (take TENANTS names) tenant [] is in
      let below : tenant < TENANTS = omega (arith, parts.0, length-take TENANTS names) in
      let within : tenant < length names = omega (arith, parts.0, length-take TENANTS names) in
      let at : get_or (take TENANTS names) tenant [] ≡ get_or names tenant [] = get_or-take TENANTS names tenant [] below in (
        below,
        slice_get-get_or names tenant [] within ∙ ap Some (sym at ∙ (bytes_decides (get_or (take TENANTS names) tenant []) name).0 parts.1),
        λ before early same.
            let is_name : get_or (take TENANTS names) before [] ≡ name = get_or-take TENANTS names before [] (omega (arith, early, below)) ∙ get_or_from_slice_get names before name [] same in
            both_ways _ (parts.2 before early) ((bytes_decides (get_or (take TENANTS names) before []) name).1 is_name),
      )

  first_named : StandsFirst names name tenant → tenant_named names name ≡ Some tenant
  first_named stands =
      let named = take TENANTS names in
      let all : tenant < length names = slice_get_within names tenant name stands.1 in
      let below : tenant < length named = omega (arith, all, stands.0, length-take TENANTS names) in
      let is_name : get_or named tenant [] ≡ name = get_or-take TENANTS names tenant [] stands.0 ∙ get_or_from_slice_get names tenant name [] stands.1 in
      let place = position_or_len_is (λ other. pointwise nat_eq other name) named tenant [] (omega (arith, below))
      (λ before early. false_from_ne_true _ (λ passes.
      let same : get_or named before [] ≡ get_or names before [] = get_or-take TENANTS names before [] (omega (arith, early, stands.0)) in
      stands.2 before early (slice_get-get_or names before [] (omega (arith, early, all)) ∙ ap Some (sym same ∙ (bytes_decides (get_or named before []) name).0 passes))))
      (λ _. (bytes_decides (get_or named tenant []) name).1 is_name) in
      ap (λ n. cond (nat_lt n (length named)) (Some n) None) place ∙ cond-true _ _ _ (lt-ltb tenant (length named) below)

  pub named_is_first : (tenant_named names name ≡ Some tenant) ↔ StandsFirst names name tenant
  named_is_first = (named_first, first_named)
