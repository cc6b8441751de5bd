use Rattle.std.proofs.Common.{ap, refl, sym, codes, true, false, map, string_bytes, ◌≡◌, ◌∙◌, Bool, Option, List, ℕ}
use Rattle.std.specs.Option.{option_map_or}
use Rattle.std.specs.Str.{bytes_eq}
use Rattle.clap.specs.Words.{Text, app_of, fault_of, found_of, is_simple, is_simple_and_free, matches_of, one_of}
use Rattle.clap.proofs.OnLiterals.{clap_on_literals}
use Rattle.clap.proofs.WalkLemmas.{one_text-rows}
use Rattle.mc_programs.specs.Lists.{schedule_app}
use Rattle.mc_programs.proofs.schedule_words.read_words.Goals as goal

app_is_simple : is_simple schedule_app ≡ true
unfolding clap_on_literals
app_is_simple = refl

app_is_free : is_simple_and_free schedule_app ≡ true
unfolding clap_on_literals
app_is_free = refl

-- whether a flag was given, by its text
abbrev says_given : Option (List ℕ) → Bool
says_given text = option_map_or (λ (text : List ℕ). bytes_eq text (codes "true")) text false

pub returns : goal.returns
returns c =
    let app_is : app_of c.in_ok-schedule_command.field-0 ≡ schedule_app = c.in_ok-schedule_command.ensures in
    let taken = sym (ap (λ a. fault_of a (map string_bytes c.args.words.now)) app_is) ∙ c.in_ok-matches.ensures.kinds (ap is_simple_and_free app_is ∙ app_is_free) in
    let rows = (c.in_ok-matches.ensures.matches (ap is_simple app_is ∙ app_is_simple)).0 ∙ ap (λ a. matches_of a (map string_bytes c.args.words.now)) app_is in
    let given = λ (name : Text). ap says_given (one_text-rows (found_of c.in_ok-matches.matches) name ∙ ap (one_of name) rows) in
    record { outcome = record { taken = taken; quiet = c.flag.ensures ∙ given (codes "quiet"); picture = c.flag-2.ensures ∙ given (codes "picture") } }
