use Rattle.std.proofs.Common.{ap, refl, sym, codes, true, map, string_bytes, ◌≡◌, ◌∙◌}
use Rattle.std.specs.Prelude.{option_and_then, unwrap_or}
use Rattle.clap.specs.Words.{Text, app_of, fault_of, found_of, is_simple, is_simple_and_free, matches_of, one_of}
use Rattle.clap.proofs.OnLiterals.{clap_on_literals}
use Rattle.clap.proofs.WalkLemmas.{one_text-rows}
use Rattle.mc_programs.specs.Options.{stdin_app}
use Rattle.mc_programs.specs.Words.{u64_of}
use Rattle.mc_programs.proofs.options.read_words.Goals as goal

app_is_simple : is_simple stdin_app ≡ true
unfolding clap_on_literals
app_is_simple = refl

app_is_free : is_simple_and_free stdin_app ≡ true
unfolding clap_on_literals
app_is_free = refl

pub returns : goal.returns
returns c =
    let app_is : app_of c.in_ok-stdin_command.field-0 ≡ stdin_app = c.in_ok-stdin_command.ensures in
    let taken = sym (ap (λ a. fault_of a (map string_bytes c.args.words.now)) app_is) ∙ c.in_ok-matches.ensures.kinds (ap is_simple_and_free app_is ∙ app_is_free) in
    let rows = (c.in_ok-matches.ensures.matches (ap is_simple app_is ∙ app_is_simple)).0 ∙ ap (λ a. matches_of a (map string_bytes c.args.words.now)) app_is in
    let number_of = λ (name : Text). ap (option_and_then u64_of) (one_text-rows (found_of c.in_ok-matches.matches) name ∙ ap (one_of name) rows) in
    let items = c.unwrap_or.ensures ∙ ap (λ o. unwrap_or o 1048576) (c.number.ensures ∙ number_of (codes "items")) in
    let bytes = c.unwrap_or-2.ensures ∙ ap (λ o. unwrap_or o 67108864) (c.number-2.ensures ∙ number_of (codes "bytes")) in
    let places = c.unwrap_or-3.ensures ∙ ap (λ o. unwrap_or o 65536) (c.number-3.ensures ∙ number_of (codes "places")) in
    let generations = c.unwrap_or-4.ensures ∙ ap (λ o. unwrap_or o 1) (c.number-4.ensures ∙ number_of (codes "generations")) in
    record { outcome = record { taken = taken; places = places; generations = generations; limits = λ i. record { items = items i; bytes = bytes i } } }
