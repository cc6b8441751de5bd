-- Two shown values are equal exactly where all their fields are.
use Rattle.std.proofs.Common.{◌≡◌, ℕ, true, Option, Some, None, refl, ap, subst}
use Rattle.std.proofs.lemmas.Bool.{and_from, and_parts}
use Rattle.std.proofs.lemmas.Bool.Decides.{Decides-eqb}
use Rattle.std.specs.Bool.{Decides}
use Rattle.std.specs.Cmp.Lexicographic.{bytes_decides}
use Rattle.std.specs.Option.{option_eq}
use Rattle.std.specs.Prelude.{nat_eq}
use Rattle.mc_model.specs.declared.reply.Value.{Value}
use Rattle.mc_model.specs.contracts.reply.ValuePartialEq.TheImpl as shown

same_option : (one other : Option ℕ) → option_eq nat_eq one other ≡ true → one ≡ other
same_option None None is = refl
same_option None (Some m) is = absurd (cc)
same_option (Some n) None is = absurd (cc)
same_option (Some n) (Some m) is = ap (λ (k : ℕ). Some k) ((Decides-eqb n m).0 is)

option_itself : (one : Option ℕ) → option_eq nat_eq one one ≡ true
option_itself None = refl
option_itself (Some n) = (Decides-eqb n n).1 refl

itself : (value : Value) → shown.ghosts.eq value value ≡ true
itself value =
    and_from _ _ ((bytes_decides value.key value.key).1 refl)
    (and_from _ _ ((Decides-eqb value.flags value.flags).1 refl) (and_from _ _ ((bytes_decides value.block value.block).1 refl) (option_itself value.unique)))

pub value_decides : (value other : Value) → Decides (shown.ghosts.eq value other) (value ≡ other)
value_decides value other = (
  λ is.
      let keys = and_parts _ _ is in
      let flags = and_parts _ _ keys.1 in
      let blocks = and_parts _ _ flags.1 in
      let same_key = (bytes_decides value.key other.key).0 keys.0 in
      let same_flags = (Decides-eqb value.flags other.flags).0 flags.0 in
      let same_block = (bytes_decides value.block other.block).0 blocks.0 in
      let same_unique = same_option value.unique other.unique blocks.1 in
      λ i. record { key = same_key i; flags = same_flags i; block = same_block i; unique = same_unique i },
  λ same. subst (λ (v : Value). shown.ghosts.eq value v ≡ true) same (itself value),
)
