use Rattle.std.proofs.Common.{arith, ap, refl, sym, ℕ, ◌-◌, ◌^◌, Option, Some, None, ◌≡◌, ◌∙◌, Result, Ok, Err}
use Rattle.std.specs.Prelude.{option_and_then}
use Rattle.std.specs.Str.Parse.{ExplainsUnsignedError, HasUnsignedDigitsIfOk, ParsesUnsigned, without_leading_plus}
use Rattle.clap.specs.Words.{ReadsOne, Text}
use Rattle.model_lemmas.proofs.NumberTests.{number_up_to-some, number_up_to-none}
use Rattle.mc_programs.specs.Words.{u64_of}
use Rattle.mc_programs.proofs.words.number.Goals as goal

-- what `get_one::<u64>` gives for a text
reads_u64 : {E : Type 0} (gives : Text → Result ℕ E → Type 0) → ((t : Text) (r : Result ℕ E) → gives t r → ParsesUnsigned 64 10 t r)
    → (o : Option Text) (r : Option ℕ) → (o ≡ None → r ≡ None) → ((t : Text) → o ≡ Some t → ReadsOne gives t r) → r ≡ option_and_then u64_of o
reads_u64 gives parses None r none value = none refl
reads_u64 {E} gives parses (Some t) r none value = go r (value t refl)
  where
    go : (r : Option ℕ) → ReadsOne gives t r → r ≡ u64_of t
    go (Some v) h =
        let p = parses t (Ok v) h in
        ap Some p.1 ∙ sym (number_up_to-some (2 ^ 64 - 1) (without_leading_plus t) (p.0.0, omega (arith, p.0.1)))
    go None h =
        let p = parses t (Err h.0) h.1 in
        sym (number_up_to-none (2 ^ 64 - 1) (without_leading_plus t) (λ n. p (n.0, omega (arith, n.1))))

pub returns : goal.returns
returns c = reads_u64 (λ t r. ParsesUnsigned 64 10 t r × ExplainsUnsignedError 10 t r × HasUnsignedDigitsIfOk t r) (λ t r g. g.0) _ _ c.get_one.ensures.none c.get_one.ensures.value
