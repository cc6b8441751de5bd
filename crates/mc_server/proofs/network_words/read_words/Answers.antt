use Rattle.std.proofs.Common.{ap, refl, subst, sym, codes, true, false, map, string_bytes, ◌≡◌, ◌∙◌, ◌∷◌, ℕ, Bool, List, [], Option, Some, None, Bor}
use Rattle.std.proofs.lemmas.Result.{err_from_is_err_and}
use Rattle.std.specs.Option.{option_map, option_map_or}
use Rattle.std.specs.Prelude.{option_and_then, slice_get, unwrap_or}
use Rattle.std.specs.Str.{bytes_eq}
use Rattle.clap.specs.Words.{HasKind, Text, all_of, app_of, fault_of, found_of, is_simple, matched_of, raw_values, is_simple_and_free, matches_of, one_of}
use Rattle.clap.specs.declared.parser.matches.MatchedArg.{MatchedArg}
use Rattle.clap.proofs.OnLiterals.{clap_on_literals}
use Rattle.clap.proofs.WalkLemmas.{one_text-rows, raw_values-rows}
use Rattle.mc_server.specs.NetworkWords.{network_app}
use Rattle.mc_programs.specs.Words.{u64_of}
use Rattle.mc_server.proofs.network_words.read_words.Goals as goal

app_is_simple : is_simple network_app ≡ true
unfolding clap_on_literals
app_is_simple = refl

app_is_free : is_simple_and_free network_app ≡ true
unfolding clap_on_literals
app_is_free = refl

-- the words of a list that is lent, where there is one
lent_words : (o : Option (Bor (List (Bor Text)))) (some : Bor (List (Bor Text))) → some.now ≡ [] → map (λ word. word.now) (unwrap_or o some).now ≡ unwrap_or (option_map (λ s. map (λ v. v.now) s.now) o) []
lent_words None some none = ap (map (λ word. word.now)) none
lent_words (Some x) some none = refl

-- the first value of an option, in what was matched
first_text : (texts : List (Bor Text)) → option_map (λ (s : Bor Text). s.now) (slice_get texts 0) ≡ slice_get (map (λ (s : Bor Text). s.now) texts) 0
first_text [] = refl
first_text (x ∷ xs) = refl

first_of : (matched : Option MatchedArg) → option_and_then (λ (a : MatchedArg). option_map (λ (s : Bor Text). s.now) (slice_get a.vals.items 0)) matched ≡ option_and_then (λ texts. slice_get texts 0) (option_map raw_values matched)
first_of None = refl
first_of (Some a) = first_text a.vals.items

-- whether a flag was given, by its text
abbrev says_given : Option (List ℕ) → Bool
says_given text = option_map_or (λ (text : List ℕ). bytes_eq text (codes "true")) text false

pub returns-in_err-matches : goal.returns-in_err-matches
returns-in_err-matches c =
    let app_is : app_of c.in_ok-network_command.field-0 ≡ network_app = c.in_ok-network_command.ensures in
    let words = map string_bytes c.args.words.now in
    let kind = subst (λ app. HasKind (fault_of app words) c.in_err-matches.field-0.0) app_is (c.in_err-matches.ensures.kinds (ap is_simple_and_free app_is ∙ app_is_free)) in
    let left = err_from_is_err_and c.from_residual-in_err-matches.result c.from_residual-in_err-matches.ensures.1 in
    record { outcome = rw (left.1, left.2) kind }

pub returns : goal.returns
returns c =
    let app_is : app_of c.in_ok-network_command.field-0 ≡ network_app = c.in_ok-network_command.ensures in
    let taken = sym (ap (λ a. fault_of a (map string_bytes c.args.words.now)) app_is) ∙ c.in_ok-matches.ensures.kinds (ap is_simple_and_free app_is ∙ app_is_free) in
    let rows = (c.in_ok-matches.ensures.matches (ap is_simple app_is ∙ app_is_simple)).0 ∙ ap (λ a. matches_of a (map string_bytes c.args.words.now)) app_is in
    let number_of = λ (name : Text). ap (option_and_then u64_of) (one_text-rows (found_of c.in_ok-matches.matches) name ∙ ap (one_of name) rows) in
    let workers = c.unwrap_or.ensures ∙ ap (λ o. unwrap_or o 2) (c.number.ensures ∙ number_of (codes "workers")) in
    let places = c.unwrap_or-2.ensures ∙ ap (λ o. unwrap_or o 65536) (c.number-2.ensures ∙ number_of (codes "places")) in
    let generations = c.unwrap_or-3.ensures ∙ ap (λ o. unwrap_or o 1) (c.number-3.ensures ∙ number_of (codes "generations")) in
    let log_bytes = c.unwrap_or-4.ensures ∙ ap (λ o. unwrap_or o 1073741824) (c.number-4.ensures ∙ number_of (codes "log-bytes")) in
    let reserve = c.unwrap_or-5.ensures ∙ ap (λ o. unwrap_or o 0) (c.number-5.ensures ∙ number_of (codes "reserve")) in
    let connections = c.unwrap_or-6.ensures ∙ ap (λ o. unwrap_or o 0) (c.number-6.ensures ∙ number_of (codes "connections")) in
    let first = λ (name : Text). first_of (matched_of (found_of c.in_ok-matches.matches) name) ∙ ap (option_and_then (λ texts. slice_get texts 0)) (raw_values-rows (found_of c.in_ok-matches.matches) name ∙ ap (all_of name) rows) in
    let admin = c.get_str.ensures ∙ first (codes "admin") in
    let metrics = c.get_str-2.ensures ∙ first (codes "metrics") in
    let check = c.flag.ensures ∙ ap says_given (one_text-rows (found_of c.in_ok-matches.matches) (codes "check") ∙ ap (one_of (codes "check")) rows) in
    let raw = c.get_raw.ensures ∙ raw_values-rows (found_of c.in_ok-matches.matches) (codes "tenants") ∙ ap (all_of (codes "tenants")) rows in
    let tenants = ap (map (λ word. word.now)) (c.in_ok-tenants.ensures.items ∙ ap (λ lent. lent.now) c.unwrap_or-tenants.ensures) ∙ lent_words c.get_raw.result _ refl ∙ ap (λ o. unwrap_or o []) raw in
    record { outcome = record { taken = taken; check = check; given = λ i. record { workers = workers i; places = places i; generations = generations i; log_bytes = log_bytes i; reserve = reserve i; connections = connections i; admin = admin i; metrics = metrics i; tenants = tenants i } } }
