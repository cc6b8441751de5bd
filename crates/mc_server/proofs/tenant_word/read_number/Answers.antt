use Rattle.std.proofs.Common.{arith, ap, sym, ℕ, List, ◌-◌, ◌^◌, Some, ◌≡◌, ◌∙◌, Result, Ok, Err}
use Rattle.std.specs.Str.Parse.{ParsesUnsigned, without_leading_plus}
use Rattle.std.specs.Result.{result_ok}
use Rattle.model_lemmas.proofs.NumberTests.{number_up_to-some, number_up_to-none}
use Rattle.mc_programs.specs.Words.{u64_of}
use Rattle.mc_server.proofs.tenant_word.read_number.Goals as goal

-- what std's `parse` gives, as an option
parses_u64 : {E : Type 0} (text : List ℕ) (r : Result ℕ E) → ParsesUnsigned 64 10 text r → result_ok r ≡ u64_of text
parses_u64 text (Ok v) h = ap Some h.1 ∙ sym (number_up_to-some (2 ^ 64 - 1) (without_leading_plus text) (h.0.0, omega (arith, h.0.1)))
parses_u64 text (Err e) h = sym (number_up_to-none (2 ^ 64 - 1) (without_leading_plus text) (λ n. h (n.0, omega (arith, n.1))))

pub returns : goal.returns
returns c = c.ok.ensures.value ∙ parses_u64 c.args.text.now _ c.parse.ensures.value.0
