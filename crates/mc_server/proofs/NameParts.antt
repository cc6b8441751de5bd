-- The names of tenants' words: what stands before the first `=`, and which of them stand twice.
use Rattle.std.proofs.Common.{◌≡◌, ◌≢◌, ◌≤◌, ◌<◌, ◌-◌, ◌+◌, ◌==◌, ◌||◌, cond, Bool, true, false, not, ℕ, zero, suc, List, [], ◌∷◌, ◌++◌, Option, Some, None, Result, Ok, Err, Bor, length, map, take, drop, get_or, refl, sym, ap, ◌∙◌, arith, subst}
use Rattle.std.proofs.lemmas.Bool.{ne_eqb}
use Rattle.std.proofs.lemmas.List.{take_all}
use Rattle.std.proofs.lemmas.List.Elements.{All-head, All-tail}
use Rattle.std.proofs.lemmas.Slice.Eq.{bytes_eq-Decides}
use Rattle.std.specs.List.{AllByRecursion, AllZip, IsDistinct, before_first, list_any, position_or_len, slice_get}
use Rattle.std.specs.Option.{MatchOption, option_map}
use Rattle.std.specs.Prelude.{MatchResult}
use Rattle.std.specs.Str.{bytes_eq}
use Rattle.clap.specs.Walk.{Text}
use Rattle.mc_server.specs.Complaints.{StandsTwice, name_part}
use Rattle.mc_server.specs.NetworkWords.{NetworkGiven, admin_name, metrics_name, name_if, reserved_names}
use Rattle.mc_server.specs.TenantWord.{Lacks, Says, TenantAsked}
use Rattle.mc_server.proofs.TenantForms.{name_lacks}
use Rattle.mc_server.proofs.TenantLists.{mapped}

-- ---- what stands before the first `=`

one_further : (is : Bool) (count byte : ℕ) (text front : Text) → is ≡ false → take count text ≡ front → take (cond (not is) (1 + count) 0) (byte ∷ text) ≡ byte ∷ front
one_further true count byte text front e stands = absurd cc
one_further false count byte text front e stands = let more : 1 + count ≡ suc count = omega arith in ap (λ n. take n (byte ∷ text)) more ∙ ap (λ list. byte ∷ list) stands

before : (name rest : Text) → Lacks 61 name → before_first (λ byte. byte == 61) (name ++ 61 ∷ rest) ≡ name
before [] rest lacks = refl
before (x ∷ xs) rest lacks =
    one_further (x == 61) (position_or_len (λ byte. byte == 61) (xs ++ 61 ∷ rest)) x (xs ++ 61 ∷ rest) xs
    (ne_eqb x 61 (All-head (λ byte. byte ≢ 61) x xs lacks)) (before xs rest (All-tail (λ byte. byte ≢ 61) x xs lacks))

-- it is the name of the tenant that the word says
pub name_is : (word : Text) (tenant : TenantAsked) → Says word tenant → name_part word ≡ tenant.name
name_is word tenant says = ap name_part says.spelled ∙ before tenant.name _ (name_lacks tenant.name says.is_name)

pub names_are_said : (words : List Text) (tenants : List TenantAsked) → AllZip Says words tenants → map name_part words ≡ map (λ (tenant : TenantAsked). tenant.name) tenants
names_are_said [] [] say = refl
names_are_said [] (t ∷ ts) say = absurd say
names_are_said (w ∷ ws) [] say = absurd say
names_are_said (w ∷ ws) (t ∷ ts) say = let rest = names_are_said ws ts say.1 in λ i. name_is w t say.0 i ∷ rest i

-- ---- names that stand twice

abbrev part_of : Bor Text → Text
part_of word = name_part word.now

abbrev pub parts_of_words : List (Bor Text) → List Text
parts_of_words words = map (λ word. name_part word.now) words

abbrev pub uses : Text → List (Bor Text) → Bool
uses name = list_any (λ word. bytes_eq name (name_part word.now))

either : (a b : Bool) → (a || b) ≡ false → (a ≡ false) × (b ≡ false)
either true b e = absurd (cc)
either false true e = absurd (cc)
either false false e = (refl, refl)

-- no word uses a name that none of them was found to use
none_uses : (name : Text) (words : List (Bor Text)) → uses name words ≡ false → AllByRecursion (λ other. bytes_eq name other ≡ false) (parts_of_words words)
none_uses name [] e = tt
none_uses name (x ∷ xs) e = let both = either (bytes_eq name (part_of x)) (uses name xs) e in (both.0, none_uses name xs both.1)

-- a name that was found to be used stands somewhere
abbrev Stands : List Text → Text → Type 0
Stands names name = (place : ℕ) × (slice_get names place ≡ Some name)

one_uses : (name : Text) (words : List (Bor Text)) → uses name words ≡ true → Stands (parts_of_words words) name
one_uses name [] e = absurd (cc)
one_uses name (x ∷ xs) e = go (bytes_eq name (part_of x)) refl (λ rest. one_uses name xs rest)
  where
    go : (b : Bool) → bytes_eq name (part_of x) ≡ b → (uses name xs ≡ true → Stands (parts_of_words xs) name) → Stands (parts_of_words (x ∷ xs)) name
    go true is later = (0, ap Some (sym ((bytes_eq-Decides name (part_of x)).0 is)))
    go false is later = let rest = later (ap (λ b. b || uses name xs) (sym is) ∙ e) in (suc rest.0, rest.1)

rest_is : (x : Bor Text) (xs : List (Bor Text)) → take (length (x ∷ xs) - 1) (drop 1 (x ∷ xs)) ≡ xs
rest_is x xs = take_all (length (x ∷ xs) - 1) xs (omega arith)

-- the first's name is used by another
pub first_stands_twice : (words : List (Bor Text)) (some : Bor Text) (name : Text) (has : Bool) → 1 ≤ length words
    → has ≡ uses name (take (length words - 1) (drop 1 words)) → has ≡ true → name ≡ name_part (get_or words 0 some).now
    → StandsTwice (parts_of_words words) name
first_stands_twice [] some name has low e used is = absurd (omega arith)
first_stands_twice (x ∷ xs) some name has low e used is =
    let found = subst (λ rest. has ≡ uses name rest) (rest_is x xs) e in
    let at = one_uses name xs (sym found ∙ used) in
    (0, suc at.0, omega arith, ap Some (sym is), at.1)

-- a name that stands twice in the rest stands twice
pub later_stands_twice : (words : List (Bor Text)) (name : Text) → 1 ≤ length words
    → StandsTwice (parts_of_words (take (length words - 1) (drop 1 words))) name → StandsTwice (parts_of_words words) name
later_stands_twice [] name low twice = absurd (omega arith)
later_stands_twice (x ∷ xs) name low twice =
    let rest = subst (λ words. StandsTwice (parts_of_words words) name) (rest_is x xs) twice in
    (suc rest.0, suc rest.1, omega (arith, rest.2), rest.3, rest.4)

-- all names are distinct, if the first's is used by no other
pub all_distinct : (words : List (Bor Text)) (some : Bor Text) (name : Text) (has : Bool) → 1 ≤ length words
    → has ≡ uses name (take (length words - 1) (drop 1 words)) → has ≡ false → name ≡ name_part (get_or words 0 some).now
    → IsDistinct bytes_eq (parts_of_words (take (length words - 1) (drop 1 words))) → IsDistinct bytes_eq (parts_of_words words)
unfolding IsDistinct
all_distinct [] some name has low e unused is rest = absurd (omega arith)
all_distinct (x ∷ xs) some name has low e unused is rest =
    let found = subst (λ words. (has ≡ uses name words) × IsDistinct bytes_eq (parts_of_words words)) (rest_is x xs) (e, rest) in
    let free = none_uses name xs (sym found.0 ∙ unused) in
    (subst (λ one. AllByRecursion (λ other. bytes_eq one other ≡ false) (parts_of_words xs)) is free, found.1)

pub no_words : (words : List (Bor Text)) → length words < 1 → IsDistinct bytes_eq (parts_of_words words)
unfolding IsDistinct
no_words [] low = tt
no_words (x ∷ xs) low = absurd (omega arith)

pub twice_behind : (front : Text) (names : List Text) (name : Text) → StandsTwice names name → StandsTwice (front ∷ names) name
twice_behind front names name twice = (suc twice.0, suc twice.1, omega (arith, twice.2), twice.3, twice.4)

-- what the rest has come to, where the first's name is used by no other
pub of_rest : (words : List (Bor Text)) (some : Bor Text) (name : Text) (has : Bool) → 1 ≤ length words
    → has ≡ uses name (take (length words - 1) (drop 1 words)) → has ≡ false → name ≡ name_part (get_or words 0 some).now
    → (result : Result (Unit {0}) (Bor Text))
    → MatchResult result (λ _. IsDistinct bytes_eq (parts_of_words (take (length words - 1) (drop 1 words)))) (λ one. StandsTwice (parts_of_words (take (length words - 1) (drop 1 words))) one.now)
    → MatchResult result (λ _. IsDistinct bytes_eq (parts_of_words words)) (λ one. StandsTwice (parts_of_words words) one.now)
of_rest words some name has low e unused is (Ok done) rest = all_distinct words some name has low e unused is rest
of_rest words some name has low e unused is (Err one) rest = later_stands_twice words one.now low rest

-- the names of what is given, beside the one that is reserved
pub names_given_are : (given : NetworkGiven) (words : List (Bor Text)) → given.tenants ≡ map (λ word. word.now) words → map name_part given.tenants ≡ parts_of_words words
names_given_are given words e = ap (map name_part) e ∙ mapped (λ (word : Bor Text). word.now) name_part words

pub twice_given : (front names : List Text) (name : Text) → StandsTwice names name → StandsTwice (front ++ names) name
twice_given [] names name twice = twice
twice_given (x ∷ xs) names name twice = twice_behind x (xs ++ names) name (twice_given xs names name twice)

stands_behind : (front names : List Text) (name : Text) → Stands names name → Stands (front ++ names) name
stands_behind [] names name at = at
stands_behind (x ∷ xs) names name at = let rest = stands_behind xs names name at in (suc rest.0, rest.1)

-- the name of a listener is found to be used by a word, if there is to be one
abbrev pub IsFound : Option (Bor Text) → Text → List (Bor Text) → Bool → Type 0
IsFound word name words has = MatchOption word (has ≡ false) (λ _. has ≡ uses name words)

pub admin_twice : (word : Option (Bor Text)) (admin metrics : Option Text) (words : List (Bor Text)) (has : Bool) → admin ≡ option_map (λ word. word.now) word
    → IsFound word admin_name words has → has ≡ true → StandsTwice (reserved_names admin metrics ++ parts_of_words words) admin_name
admin_twice None admin metrics words has e found used = absurd cc
admin_twice (Some word) admin metrics words has e found used =
    let at = stands_behind (name_if metrics_name metrics) (parts_of_words words) admin_name (one_uses admin_name words (sym found ∙ used)) in
    let twice : StandsTwice (reserved_names (Some word.now) metrics ++ parts_of_words words) admin_name = (0, suc at.0, omega arith, refl, at.1) in
    subst (λ admin. StandsTwice (reserved_names admin metrics ++ parts_of_words words) admin_name) (sym e) twice

pub metrics_twice : (word : Option (Bor Text)) (admin metrics : Option Text) (words : List (Bor Text)) (has : Bool) → metrics ≡ option_map (λ word. word.now) word
    → IsFound word metrics_name words has → has ≡ true → StandsTwice (reserved_names admin metrics ++ parts_of_words words) metrics_name
metrics_twice None admin metrics words has e found used = absurd cc
metrics_twice (Some word) admin metrics words has e found used =
    let at = one_uses metrics_name words (sym found ∙ used) in
    let twice : StandsTwice (metrics_name ∷ parts_of_words words) metrics_name = (0, suc at.0, omega arith, refl, at.1) in
    subst (λ metrics. StandsTwice (reserved_names admin metrics ++ parts_of_words words) metrics_name) (sym e) (beside admin twice)
  where
    beside : (admin : Option Text) → StandsTwice (metrics_name ∷ parts_of_words words) metrics_name → StandsTwice (reserved_names admin (Some word.now) ++ parts_of_words words) metrics_name
    beside None twice = twice
    beside (Some text) twice = twice_behind admin_name (metrics_name ∷ parts_of_words words) metrics_name twice

pub none_twice : (chief scrapes : Option (Bor Text)) (admin metrics : Option Text) (words : List (Bor Text)) (has used : Bool) → admin ≡ option_map (λ word. word.now) chief
    → metrics ≡ option_map (λ word. word.now) scrapes → IsFound chief admin_name words has → IsFound scrapes metrics_name words used → has ≡ false → used ≡ false
    → IsDistinct bytes_eq (parts_of_words words) → IsDistinct bytes_eq (reserved_names admin metrics ++ parts_of_words words)
unfolding IsDistinct
none_twice chief scrapes admin metrics words has used a m found shown free apart distinct =
    subst (λ (pair : Option Text × Option Text). IsDistinct bytes_eq (reserved_names pair.0 pair.1 ++ parts_of_words words)) (λ i. (sym a i, sym m i)) (go chief scrapes found shown)
  where
    go : (chief scrapes : Option (Bor Text)) → IsFound chief admin_name words has → IsFound scrapes metrics_name words used
        → IsDistinct bytes_eq (reserved_names (option_map (λ (word : Bor Text). word.now) chief) (option_map (λ (word : Bor Text). word.now) scrapes) ++ parts_of_words words)
    go None None found shown = distinct
    go (Some x) None found shown = (none_uses admin_name words (sym found ∙ free), distinct)
    go None (Some y) found shown = (none_uses metrics_name words (sym shown ∙ apart), distinct)
    go (Some x) (Some y) found shown = ((refl, none_uses admin_name words (sym found ∙ free)), (none_uses metrics_name words (sym shown ∙ apart), distinct))

-- ---- distinct names stand once

differs : (name : Text) (names : List Text) (place : ℕ) → AllByRecursion (λ other. bytes_eq name other ≡ false) names → slice_get names place ≡ Some name → ⊥
differs name [] place all stands = cc
differs name (x ∷ xs) zero all stands =
    let same : x ≡ name = cc in
    let equal : bytes_eq name x ≡ true = (bytes_eq-Decides name x).1 (sym same) in
    let other : bytes_eq name x ≡ false = all.0 in cc
differs name (x ∷ xs) (suc place) all stands = differs name xs place all.1 stands

pub once : (names : List Text) (name : Text) → IsDistinct bytes_eq names → StandsTwice names name → ⊥
unfolding IsDistinct
once names name distinct twice = go names twice.0 twice.1 distinct twice.2 twice.3 twice.4
  where
    go : (names : List Text) (first second : ℕ) → IsDistinct bytes_eq names → first < second → slice_get names first ≡ Some name → slice_get names second ≡ Some name → ⊥
    go [] first second distinct low one other = cc
    go (x ∷ xs) first zero distinct low one other = absurd (omega (arith, low))
    go (x ∷ xs) zero (suc second) distinct low one other = let same : x ≡ name = cc in differs name xs second (rw same at distinct.0) other
    go (x ∷ xs) (suc first) (suc second) distinct low one other = go xs first second distinct.1 (omega (arith, low)) one other
