-- A valid key, spelled out.
use Rattle.std.proofs.Common.{◌≡◌, ◌≢◌, ◌↔◌, ℕ, ◌<◌, ◌≤◌, true, List, [], ◌∷◌, length, refl, arith}
use Rattle.std.proofs.lemmas.Bool.{and_from, and_parts, le-leb, leb-true, lt-ltb, ltb-true}
use Rattle.std.proofs.lemmas.Bool.Decides.{nat_tests}
use Rattle.std.proofs.lemmas.List.Elements.{All-from_recursion, recursion_from_All}
use Rattle.std.specs.List.{AllByRecursion, list_all}
use Rattle.std.specs.Prelude.{All, IsTrue}
use Rattle.mc_model.specs.declared.key.TheConstants.{KEY_BYTES}
use Rattle.mc_model.specs.Key.{is_key_byte, is_lawful_key}

abbrev IsPlain : ℕ → Type 0
IsPlain byte = (32 < byte) × (byte ≢ 127)

plain_from : (byte : ℕ) → is_key_byte byte ≡ true → IsPlain byte
plain_from byte passed = grind (arith, nat_tests, passed)

plain_to : (byte : ℕ) → IsPlain byte → is_key_byte byte ≡ true
plain_to byte plain = grind (arith, nat_tests, plain)

all_plain_from : (bytes : List ℕ) → list_all is_key_byte bytes ≡ true → AllByRecursion IsPlain bytes
all_plain_from [] passed = tt
all_plain_from (byte ∷ bytes) passed = let parts = and_parts _ _ passed in (plain_from byte parts.0, all_plain_from bytes parts.1)

all_plain_to : (bytes : List ℕ) → AllByRecursion IsPlain bytes → list_all is_key_byte bytes ≡ true
all_plain_to [] plain = refl
all_plain_to (byte ∷ bytes) plain = and_from _ _ (plain_to byte plain.0) (all_plain_to bytes plain.1)

pub lawful_is_plain : (bytes : List ℕ) → IsTrue (is_lawful_key bytes) ↔ (((0 < length bytes) × (length bytes ≤ KEY_BYTES)) × All IsPlain bytes)
lawful_is_plain bytes = (
  λ lawful.
      let parts = and_parts _ _ lawful in
      let few = and_parts _ _ parts.0 in
      ((ltb-true _ _ few.0, leb-true _ _ few.1), All-from_recursion IsPlain bytes (all_plain_from bytes parts.1)),
  λ plain. and_from _ _ (and_from _ _ (lt-ltb _ _ plain.0.0) (le-leb _ _ plain.0.1)) (all_plain_to bytes (recursion_from_All IsPlain bytes plain.1)),
)
