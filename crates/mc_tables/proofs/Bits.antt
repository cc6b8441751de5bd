-- Marks in words, and what setting one leaves.
use Rattle.std.proofs.Common.{◌≡◌, ◌≢◌, ℕ, ◌/◌, ◌%◌, ◌^◌, ◌<◌, ◌||◌, Bool, true, false, List, length, get_or, set, max, refl, true≢false, sym, ap, ◌∙◌, arith}
use Rattle.std.proofs.lemmas.Bool.Decides.{nat_tests}
use Rattle.std.proofs.lemmas.List.{get_or-set_same, get_or-set_other}
use Rattle.std.proofs.lemmas.Option.{same_Some, slice_get-get_or}
use Rattle.std.proofs.lemmas.Nat.Bits.{bit_at-lt, bit_at-pow_other, bit_at-pow_same, bit_at_or}
use Rattle.std.specs.Int.{bit_at}
use Rattle.std.specs.Int.Bits.{bit_or}
use Rattle.std.specs.Prelude.{nat_eq}
use Rattle.mc_tables.specs.Marks.{is_set}

-- what is read within a list needs no default
pub any_default : (xs : List ℕ) (i d e : ℕ) → i < length xs → get_or xs i d ≡ get_or xs i e
any_default xs i d e inside = sym (same_Some _ _ (sym (slice_get-get_or xs i e inside) ∙ slice_get-get_or xs i d inside))

either_bit : (b : ℕ) → b < 2 → nat_eq (max b 1) 1 ≡ true
either_bit b lt = grind (arith, nat_tests)

-- two places that are apart differ in their words or in their bits
same_place : (i j : ℕ) → j / 64 ≡ i / 64 → j % 64 ≡ i % 64 → j ≡ i
same_place i j word bit = omega (arith, word, bit)

pub one_set : (marks : List ℕ) (place word other : ℕ) → place / 64 < length marks → word ≡ get_or marks (place / 64) 0 →
    is_set (set marks (place / 64) (bit_or word (2 ^ (place % 64)))) other ≡ (nat_eq other place || is_set marks other)
one_set marks place word other inside is = by_word (nat_eq (other / 64) (place / 64)) refl
  where
    now : ℕ
    now = bit_or word (2 ^ (place % 64))

    by_bit : (b : Bool) → nat_eq (other % 64) (place % 64) ≡ b → other / 64 ≡ place / 64 → is_set (set marks (place / 64) now) other ≡ (nat_eq other place || is_set marks other)
    by_bit true bit at =
        let here : other ≡ place = same_place place other at (grind (arith, nat_tests)) in
        let found : nat_eq other place ≡ true = grind (arith, nat_tests) in
        let bits : other % 64 ≡ place % 64 = ap (λ n. n % 64) here in
        let one : bit_at now (place % 64) ≡ max (bit_at word (place % 64)) 1 = bit_at_or word (2 ^ (place % 64)) (place % 64) ∙ ap (max (bit_at word (place % 64))) (bit_at-pow_same (place % 64)) in
        ap (λ n. nat_eq (bit_at (get_or (set marks (place / 64) now) n 0) (other % 64)) 1) at
        ∙ ap (λ w. nat_eq (bit_at w (other % 64)) 1) (get_or-set_same marks (place / 64) now 0 inside)
        ∙ ap (λ n. nat_eq (bit_at now n) 1) bits ∙ ap (λ b. nat_eq b 1) one ∙ either_bit (bit_at word (place % 64)) (bit_at-lt word (place % 64))
        ∙ sym (ap (λ b. b || is_set marks other) found)
    by_bit false bit at =
        let apart : other % 64 ≢ place % 64 = λ e. absurd (true≢false (sym (grind (arith, nat_tests)) ∙ bit)) in
        let elsewhere : nat_eq other place ≡ false = grind (arith, nat_tests) in
        let kept : bit_at now (other % 64) ≡ bit_at word (other % 64) =
        bit_at_or word (2 ^ (place % 64)) (other % 64) ∙ ap (max (bit_at word (other % 64))) (bit_at-pow_other (place % 64) (other % 64) apart) ∙ omega arith in
        ap (λ n. nat_eq (bit_at (get_or (set marks (place / 64) now) n 0) (other % 64)) 1) at
        ∙ ap (λ w. nat_eq (bit_at w (other % 64)) 1) (get_or-set_same marks (place / 64) now 0 inside)
        ∙ ap (λ b. nat_eq b 1) kept ∙ ap (λ w. nat_eq (bit_at w (other % 64)) 1) is ∙ ap (λ n. nat_eq (bit_at (get_or marks n 0) (other % 64)) 1) (sym at)
        ∙ sym (ap (λ b. b || is_set marks other) elsewhere)

    by_word : (b : Bool) → nat_eq (other / 64) (place / 64) ≡ b → is_set (set marks (place / 64) now) other ≡ (nat_eq other place || is_set marks other)
    by_word true at = by_bit (nat_eq (other % 64) (place % 64)) refl (grind (arith, nat_tests))
    by_word false at =
        let apart : other / 64 ≢ place / 64 = λ e. absurd (true≢false (sym (grind (arith, nat_tests)) ∙ at)) in
        let elsewhere : nat_eq other place ≡ false = grind (arith, nat_tests) in
        ap (λ w. nat_eq (bit_at w (other % 64)) 1) (get_or-set_other marks (place / 64) (other / 64) now 0 apart)
        ∙ sym (ap (λ b. b || is_set marks other) elsewhere)
