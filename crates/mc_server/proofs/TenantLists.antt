-- Lists of tenants, each the only one that its word says.
use Rattle.std.proofs.Common.{◌≡◌, ◌≢◌, ◌≤◌, ℕ, All, Bool, IsTrue, List, [], ◌∷◌, ◌++◌, if◌then◌else◌, map, min, Option, Some, None, ap, subst, sym, ◌∙◌, refl}
use Rattle.std.proofs.Math.Nat.{min-le_right}
use Rattle.std.proofs.lemmas.Bool.{ne_eqb}
use Rattle.std.proofs.lemmas.List.Elements.{All-cons, All-nil}
use Rattle.std.proofs.lemmas.Slice.Zip.{AllZip-left, all_zipped_more}
use Rattle.std.specs.List.{AllZip, slice_get}
use Rattle.std.specs.Option.{IsSomeAnd, MatchOption}
use Rattle.clap.specs.Walk.{Text}
use Rattle.mc_model.specs.Name.{is_lawful_name}
use Rattle.mc_model.specs.declared.settings.Limits.{Limits}
use Rattle.mc_server.specs.NetworkWords.{Asks, NetworkAsked, NetworkGiven, settings_asked, workers_for}
use Rattle.mc_server.specs.TenantWord.{IsOnly, Says, TenantAsked, asked_of}
use Rattle.mc_server.specs.declared.tenant_word.Tenant.{Tenant}

pub all_say : (words : List Text) (tenants : List TenantAsked) → AllZip IsOnly words tenants → AllZip Says words tenants
all_say [] [] h = tt
all_say [] (t ∷ ts) h = h
all_say (w ∷ ws) [] h = h
all_say (w ∷ ws) (t ∷ ts) h = (h.0.says, all_say ws ts h.1)

pub all_only : (words : List Text) (tenants others : List TenantAsked) → AllZip IsOnly words tenants → AllZip Says words others → others ≡ tenants
all_only [] [] [] h k = refl
all_only [] [] (o ∷ os) h k = absurd k
all_only [] (t ∷ ts) others h k = absurd h
all_only (w ∷ ws) [] others h k = absurd h
all_only (w ∷ ws) (t ∷ ts) [] h k = absurd k
all_only (w ∷ ws) (t ∷ ts) (o ∷ os) h k = λ i. h.0.only o k.0 i ∷ all_only ws ts os h.1 k.1 i

-- one more word was read
map_push : {A B : Type 0} (f : A → B) (xs : List A) (x : A) → map f (xs ++ x ∷ []) ≡ map f xs ++ f x ∷ []
map_push f [] x = refl
map_push f (y ∷ ys) x = ap (λ rest. f y ∷ rest) (map_push f ys x)

pub one_more : {A B : Type 0} (read : A → Text) (view : B → TenantAsked) (words taken : List A) (tenants : List B) (word : A) (tenant : B)
    → AllZip IsOnly (map read words) (map view tenants) → IsOnly (read word) (view tenant) → taken ≡ words ++ word ∷ []
    → AllZip IsOnly (map read taken) (map view (tenants ++ tenant ∷ []))
one_more read view words taken tenants word tenant h only e =
    let more = all_zipped_more IsOnly (map read words) (map view tenants) (read word) (view tenant) h only in
    rw (e, map_push read words word, map_push view tenants tenant) more

-- a word that says nothing is in no list that says tenants
pub none_say : (words : List Text) (others : List TenantAsked) (place : ℕ) (word : Text) → slice_get words place ≡ Some word → ((other : TenantAsked) → Says word other → ⊥)
    → AllZip Says words others → ⊥
none_say words others place word is none h = go (slice_get words place) (slice_get others place) is (AllZip-left Says words others h place)
  where
    go : (o : Option Text) (p : Option TenantAsked) → o ≡ Some word → MatchOption o (Unit {0}) (λ x. IsSomeAnd p (Says x)) → ⊥
    go None p e h = cc
    go (Some x) None e h = h
    go (Some x) (Some t) e h = let same : x ≡ word = cc in none t (rw same at h)

-- what is asked, in what was read
pub mapped : {A B C : Type 0} (f : A → B) (g : B → C) (xs : List A) → map g (map f xs) ≡ map (λ x. g (f x)) xs
mapped f g [] = refl
mapped f g (x ∷ xs) = ap (λ rest. g (f x) ∷ rest) (mapped f g xs)

pub limits_are : (tenants : List Tenant) → map (λ (tenant : TenantAsked). tenant.limits) (map asked_of tenants) ≡ map (λ tenant. tenant.limits) tenants
limits_are tenants = mapped asked_of (λ tenant. tenant.limits) tenants

pub names_are_read : (tenants : List Tenant) → map (λ (tenant : TenantAsked). tenant.name) (map asked_of tenants) ≡ map (λ tenant. tenant.name.now) tenants
names_are_read tenants = mapped asked_of (λ tenant. tenant.name) tenants

-- their names are valid
pub names_lawful : (words : List Text) (tenants : List Tenant) → AllZip IsOnly words (map asked_of tenants) → All (λ (tenant : Tenant). IsTrue (is_lawful_name tenant.name.now)) tenants
names_lawful [] [] h = All-nil (λ (tenant : Tenant). IsTrue (is_lawful_name tenant.name.now))
names_lawful [] (t ∷ ts) h = absurd h
names_lawful (w ∷ ws) [] h = All-nil (λ (tenant : Tenant). IsTrue (is_lawful_name tenant.name.now))
names_lawful (w ∷ ws) (t ∷ ts) h = All-cons (λ (tenant : Tenant). IsTrue (is_lawful_name tenant.name.now)) t ts h.0.says.is_name (names_lawful ws ts h.1)

pub settings_are : (given : NetworkGiven) (asked : NetworkAsked) (tenants : List Tenant) (workers : ℕ) (quotas : List Limits) → Asks given asked → asked.tenants ≡ map asked_of tenants
    → workers ≡ workers_for given → quotas ≡ map (λ tenant. tenant.limits) tenants → settings_asked asked ≡ record { workers = workers; places = given.places; tenants = quotas }
settings_are given asked tenants workers quotas asks e w q =
    let limits : map (λ tenant. tenant.limits) asked.tenants ≡ quotas = ap (map (λ tenant. tenant.limits)) e ∙ limits_are tenants ∙ sym q in
    let serve : asked.workers ≡ workers = asks.workers ∙ sym w in
    λ i. record { workers = serve i; places = asks.places i; tenants = limits i }

-- where a log may follow another, no more workers serve than a log has places
pub each_has_a_place : (given : NetworkGiven) → given.generations ≢ 1 → workers_for given ≤ given.places
each_has_a_place given many =
    let P : Bool → Type 0 = λ one. (if one then given.workers else (min given.workers given.places)) ≤ given.places in
    subst P (sym (ne_eqb given.generations 1 many)) (min-le_right given.workers given.places)
