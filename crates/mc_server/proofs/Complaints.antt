-- What is wrong can't be served, and where nothing is wrong all can be served.
use Rattle.std.proofs.Common.{◌≡◌, ◌≢◌, ◌≤◌, ◌==◌, ◌∙◌, ℕ, zero, suc, Bool, true, false, List, [], ◌∷◌, ◌++◌, All, Option, Some, None, Result, Ok, Err, Bor, Contains, length, map, take, ◌<◌, min, if◌then◌else◌, get_or, refl, sym, ap, arith, subst}
use Rattle.std.proofs.Math.Nat.{min-le_left}
use Rattle.std.proofs.lemmas.List.{length-map, map-append, take_all}
use Rattle.std.proofs.lemmas.List.Elements.{All-head, All-tail, All-cons, All-nil, All-push}
use Rattle.std.proofs.lemmas.Slice.Zip.{AllZip-long}
use Rattle.std.specs.List.{AllZip, IsDistinct}
use Rattle.std.specs.Net.Grammar.{IsSocketV4Text, Parses}
use Rattle.std.specs.Option.{IsSomeAnd}
use Rattle.std.specs.Prelude.{MatchResult, is_err}
use Rattle.std.specs.Str.{bytes_eq}
use Rattle.std.specs.declared.net.socket_addr.SocketAddrV4.{SocketAddrV4}
use Rattle.clap.specs.Walk.{Text}
use Rattle.mc_model.specs.Settings.{AreLawfulLimits, IsBetween}
use Rattle.mc_model.specs.declared.id.TheConstants.{WORKERS}
use Rattle.mc_programs.specs.Words.{u64_of}
use Rattle.mc_server.specs.Complaints.{CanBeServed, FitsAlone, IsCutInto, IsWrong, IsWrongPart, SpellsQuota, TenantParts, given_number, least, most, names_given}
use Rattle.mc_server.specs.NetworkWords.{AreReservesWithin, Asks, AsksInVain, NetworkAsked, NetworkGiven, SpellsAddress, admin_name, metrics_name, name_if, reserved_names, workers_for}
use Rattle.mc_server.specs.TenantWord.{Lacks, Says, TenantAsked, tenant_text}
use Rattle.mc_server.specs.declared.complaint.AddressOption.TheVariants.{Admin, Metrics}
use Rattle.mc_server.specs.declared.complaint.Complaint.{Complaint}
use Rattle.mc_server.specs.declared.complaint.Complaint.TheVariants.{LargeReserve, NameTaken, NoAddress, OutOfBounds, WrongPart}
use Rattle.mc_server.specs.declared.complaint.Counted.{Counted}
use Rattle.mc_server.specs.declared.complaint.Counted.TheVariants.{Generations, LogBytes, Places, Tenants, Workers}
use Rattle.mc_server.specs.declared.complaint.Part.{Part}
use Rattle.mc_server.specs.declared.tenant_word.Parts.{Parts}
use Rattle.mc_server.specs.declared.complaint.Part.TheVariants.{Address, Bytes, Form, Items, Name}
use Rattle.mc_server.proofs.NameParts.{names_are_said, once}
use Rattle.mc_server.proofs.TenantForms.{address_lacks, name_lacks, number_lacks}

-- ---- a word is cut in one way

one_cut : (byte : ℕ) (front other back rest : Text) → Lacks byte front → Lacks byte other → front ++ byte ∷ back ≡ other ++ byte ∷ rest → (front ≡ other) × (back ≡ rest)
one_cut byte [] [] back rest lacks lack e = (refl, cc)
one_cut byte [] (y ∷ ys) back rest lacks lack e = let same : y ≡ byte = cc in absurd (All-head (λ one. one ≢ byte) y ys lack same)
one_cut byte (x ∷ xs) [] back rest lacks lack e = let same : x ≡ byte = cc in absurd (All-head (λ one. one ≢ byte) x xs lacks same)
one_cut byte (x ∷ xs) (y ∷ ys) back rest lacks lack e =
    let same : x ≡ y = cc in
    let more = one_cut byte xs ys back rest (All-tail (λ one. one ≢ byte) x xs lacks) (All-tail (λ one. one ≢ byte) y ys lack) cc in
    ((λ i. same i ∷ more.0 i), more.1)

cut_once : (word : Text) (one other : TenantParts) → IsCutInto word one → IsCutInto word other → one ≡ other
cut_once word one other cut again =
    let first = one_cut 61 one.name other.name _ _ cut.name again.name (sym cut.spelled ∙ again.spelled) in
    let second = one_cut 44 one.address other.address _ _ cut.address again.address first.1 in
    let third = one_cut 44 one.items other.items one.bytes other.bytes cut.items again.items second.1 in
    λ i. record { name = first.0 i; address = second.0 i; items = third.0 i; bytes = third.1 i }

-- the parts of a word that says a tenant
abbrev said_parts : (word : Text) (tenant : TenantAsked) → Says word tenant → TenantParts
said_parts word tenant says = record { name = tenant.name; address = says.address; items = says.items; bytes = says.bytes }

said_cut : (word : Text) (tenant : TenantAsked) (says : Says word tenant) → IsCutInto word (said_parts word tenant says)
said_cut word tenant says = record {
  spelled = says.spelled;
  name = name_lacks tenant.name says.is_name;
  address = address_lacks says.address tenant.address says.is_address;
  items = number_lacks says.items tenant.limits.items says.is_items;
}

-- ---- what is wrong can't be served

wrong_word : (word : Text) (part : Part) (tenant : TenantAsked) → IsWrongPart word part → Says word tenant → AreLawfulLimits tenant.limits → ⊥
wrong_word word Form tenant wrong says lawful = wrong (said_parts word tenant says) (said_cut word tenant says)
wrong_word word Name tenant wrong says lawful =
    let same = cut_once word wrong.0 (said_parts word tenant says) wrong.1 (said_cut word tenant says) in
    wrong.2 (rw (ap (λ (parts : TenantParts). parts.name) same) says.is_name)
wrong_word word Address tenant wrong says lawful =
    let same = cut_once word wrong.0 (said_parts word tenant says) wrong.1 (said_cut word tenant says) in
    wrong.2 tenant.address (rw (ap (λ (parts : TenantParts). parts.address) same) says.is_address)
wrong_word word Items tenant wrong says lawful =
    let same = cut_once word wrong.0 (said_parts word tenant says) wrong.1 (said_cut word tenant says) in
    wrong.2 (rw (ap (λ (parts : TenantParts). parts.items) same, says.is_items) lawful.items)
wrong_word word Bytes tenant wrong says lawful =
    let same = cut_once word wrong.0 (said_parts word tenant says) wrong.1 (said_cut word tenant says) in
    wrong.2 (rw (ap (λ (parts : TenantParts). parts.bytes) same, says.is_bytes) lawful.bytes)

wrong_among : (words : List Text) (tenants : List TenantAsked) (word : Text) (part : Part) → Contains words word → IsWrongPart word part → AllZip Says words tenants
    → All AreLawfulLimits (map (λ (tenant : TenantAsked). tenant.limits) tenants) → ⊥
wrong_among words tenants word part at wrong say lawful = go words tenants at.0 at.1 at.2 say lawful
  where
    go : (words : List Text) (tenants : List TenantAsked) (place : ℕ) → place < length words → get_or words place word ≡ word → AllZip Says words tenants
        → All AreLawfulLimits (map (λ (tenant : TenantAsked). tenant.limits) tenants) → ⊥
    go [] tenants place low is say lawful = absurd (omega (arith, low))
    go (w ∷ ws) [] place low is say lawful = say
    go (w ∷ ws) (t ∷ ts) zero low is say lawful = wrong_word word part t wrong (subst (λ one. Says one t) is say.0) (All-head AreLawfulLimits t.limits (map (λ (tenant : TenantAsked). tenant.limits) ts) lawful)
    go (w ∷ ws) (t ∷ ts) (suc place) low is say lawful = go ws ts place (omega (arith, low)) is say.1 (All-tail AreLawfulLimits t.limits (map (λ (tenant : TenantAsked). tenant.limits) ts) lawful)

-- the workers that serve are as many as may be, if those that are given are
more_than_none : (one : Bool) (workers places : ℕ) → 1 ≤ (if one then workers else (min workers places)) → 1 ≤ workers
more_than_none true workers places low = low
more_than_none false workers places low = omega (arith, low, min-le_left workers places)

number_in_vain : (given : NetworkGiven) (counted : Counted) (number : ℕ) → given_number given counted ≡ number → ¬ (IsBetween (least counted) (most counted) number) → AsksInVain given
number_in_vain given Workers number is outside asked asks servable =
    let some = more_than_none (given.generations == 1) given.workers given.places (subst (λ count. 1 ≤ count) asks.workers servable.lawful.workers.0) in
    outside (subst (IsBetween 1 WORKERS) is (some, asks.few))
number_in_vain given Places number is outside asked asks servable = outside (rw (sym is, sym asks.places) servable.lawful.places)
number_in_vain given Generations number is outside asked asks servable = outside (omega arith, rw (sym is, sym asks.generations) servable.generations)
number_in_vain given LogBytes number is outside asked asks servable = outside (rw (sym is, sym asks.log_bytes) servable.log_bytes)
number_in_vain given Tenants number is outside asked asks servable =
    let long = AllZip-long Says given.tenants asked.tenants asks.tenants in
    let quotas = length-map asked.tenants (λ (tenant : TenantAsked). tenant.limits) in
    let lawful = servable.lawful.tenants in
    outside (omega (arith, is, long, quotas, lawful.0), omega (arith, is, long, quotas, lawful.1))

reserved_is : (name : Text) (text : Option Text) (address : Option SocketAddrV4) → SpellsAddress text address → name_if name text ≡ name_if name address
reserved_is name None address spells = ap (name_if name) (sym spells)
reserved_is name (Some text) None spells = absurd spells
reserved_is name (Some text) (Some address) spells = refl

pub names_are_given : (given : NetworkGiven) (asked : NetworkAsked) → Asks given asked → names_given given ≡ reserved_names asked.admin asked.metrics ++ map (λ (tenant : TenantAsked). tenant.name) asked.tenants
names_are_given given asked asks =
    let chief = reserved_is admin_name given.admin asked.admin asks.admin in
    let scrapes = reserved_is metrics_name given.metrics asked.metrics asks.metrics in
    let names = names_are_said given.tenants asked.tenants asks.tenants in
    λ i. (chief i ++ scrapes i) ++ names i

pub in_vain : (given : NetworkGiven) (complaint : Complaint) → IsWrong given complaint → AsksInVain given
in_vain given (OutOfBounds counted number) wrong asked asks servable = number_in_vain given counted number wrong.0 wrong.1 asked asks servable
in_vain given (LargeReserve reserve tenants) wrong asked asks servable =
    let many : length asked.tenants ≡ tenants = omega (arith, wrong.1, AllZip-long Says given.tenants asked.tenants asks.tenants) in
    wrong.2 (subst (AreReservesWithin reserve) many (subst (λ (one : ℕ). AreReservesWithin one (length asked.tenants)) (asks.reserve ∙ wrong.0) servable.reserve))
in_vain given (NoAddress Admin word) wrong asked asks servable = wrong.1 asked.admin asks.admin
in_vain given (NoAddress Metrics word) wrong asked asks servable = wrong.1 asked.metrics asks.metrics
in_vain given (WrongPart word part) wrong asked asks servable = wrong_among given.tenants asked.tenants word.now part wrong.0 wrong.1 asks.tenants servable.lawful.limits
in_vain given (NameTaken name) wrong asked asks servable = once _ name.now (subst (IsDistinct bytes_eq) (sym (names_are_given given asked asks)) servable.names) wrong

-- ---- where nothing is wrong all can be served

serves_some : (one : Bool) (workers places : ℕ) → IsBetween 1 WORKERS workers → 1 ≤ places → IsBetween 1 WORKERS (if one then workers else (min workers places))
serves_some true workers places within some = within
serves_some false workers places within some = (at_least workers places within.0 some, omega (arith, within.1, min-le_left workers places))
  where
    at_least : (workers places : ℕ) → 1 ≤ workers → 1 ≤ places → 1 ≤ min workers places
    at_least zero places low some = absurd (omega (arith, low))
    at_least (suc workers) zero low some = absurd (omega (arith, some))
    at_least (suc workers) (suc places) low some = omega arith

-- The tenants that fitting words say.
record SaysAll (words : List Text) : Type 0 where
  tenants : List TenantAsked
  say : AllZip Says words tenants
  lawful : All AreLawfulLimits (map (λ (tenant : TenantAsked). tenant.limits) tenants)

all_said : (words : List Text) → All FitsAlone words → SaysAll words
all_said [] fit = record { tenants = []; say = tt; lawful = All-nil AreLawfulLimits }
all_said (w ∷ ws) fit =
    let first = All-head FitsAlone w ws fit in
    let rest = all_said ws (All-tail FitsAlone w ws fit) in
    record {
      tenants = first.0 ∷ rest.tenants;
      say = (first.1, rest.say);
      lawful = All-cons AreLawfulLimits first.0.limits (map (λ (tenant : TenantAsked). tenant.limits) rest.tenants) first.2 rest.lawful;
    }

pub can_be_served : (given : NetworkGiven) (address scrapes : Option SocketAddrV4) → IsBetween (least Workers) (most Workers) given.workers → IsBetween (least Places) (most Places) given.places
    → IsBetween (least Generations) (most Generations) given.generations → IsBetween (least LogBytes) (most LogBytes) given.log_bytes → IsBetween (least Tenants) (most Tenants) (length given.tenants)
    → AreReservesWithin given.reserve (length given.tenants) → SpellsAddress given.admin address → SpellsAddress given.metrics scrapes → All FitsAlone given.tenants → IsDistinct bytes_eq (names_given given) → CanBeServed given
can_be_served given address scrapes workers places generations log_bytes count reserves spells shown fit distinct =
    let said = all_said given.tenants fit in
    let asked : NetworkAsked = record {
      workers = workers_for given;
      places = given.places;
      generations = given.generations;
      log_bytes = given.log_bytes;
      reserve = given.reserve;
      connections = given.connections;
      admin = address;
      metrics = scrapes;
      tenants = said.tenants;
    } in
    let asks : Asks given asked = record { few = workers.1; workers = refl; places = refl; generations = refl; log_bytes = refl; reserve = refl; connections = refl; admin = spells; metrics = shown; tenants = said.say } in
    let long = AllZip-long Says given.tenants said.tenants said.say in
    let quotas = length-map said.tenants (λ (tenant : TenantAsked). tenant.limits) in (
      asked,
      asks,
      record {
        lawful = record {
          workers = serves_some (given.generations == 1) given.workers given.places workers places.0;
          places = places;
          tenants = (omega (arith, count.0, long, quotas), omega (arith, count.1, long, quotas));
          limits = said.lawful;
        };
        generations = generations.1;
        log_bytes = log_bytes;
        reserve = let many : length given.tenants ≡ length said.tenants = omega (arith, long) in subst (AreReservesWithin given.reserve) many reserves;
        names = subst (IsDistinct bytes_eq) (names_are_given given asked asks) distinct;
      },
    )

-- ---- the parts of one word

-- a quota that was read, or none
pub quota_of : (limit : ℕ) (text : Text) → SpellsQuota limit text → (quota : ℕ) × (u64_of text ≡ Some quota) × IsBetween 1 limit quota
quota_of limit text = go (u64_of text)
  where
    go : (read : Option ℕ) → IsSomeAnd read (IsBetween 1 limit) → (quota : ℕ) × (read ≡ Some quota) × IsBetween 1 limit quota
    go None within = absurd within
    go (Some quota) within = (quota, refl, within)

-- an address that was read, or none
pub address_read : {E : Type 0} (text : Text) (read : Result SocketAddrV4 E) → is_err read ≡ false → Parses IsSocketV4Text text read → (address : SocketAddrV4) × IsSocketV4Text text address
address_read text (Ok address) fails parsed = (address, parsed)
address_read text (Err error) fails parsed = absurd cc

pub none_read : {E : Type 0} (text : Text) (read : Result SocketAddrV4 E) → is_err read ≡ true → Parses IsSocketV4Text text read → (address : SocketAddrV4) → ¬ (IsSocketV4Text text address)
none_read text (Ok address) fails parsed = absurd cc
none_read text (Err error) fails parsed = parsed

-- the parts into which a word was cut
abbrev pub parts_in : Parts → TenantParts
parts_in parts = record { name = parts.name.now; address = parts.address.now; items = parts.items.now; bytes = parts.bytes.now }

pub is_cut_into : (word : Text) (parts : Parts) → word ≡ tenant_text parts.name.now parts.address.now parts.items.now parts.bytes.now
    → Lacks 61 parts.name.now × Lacks 44 parts.address.now × Lacks 44 parts.items.now → IsCutInto word (parts_in parts)
is_cut_into word parts whole first = record { spelled = whole; name = first.0; address = first.1; items = first.2 }

-- ---- the words in their order

pub word_stands : (words : List (Bor Text)) (texts : List Text) (place : ℕ) (some : Bor Text) → place < length words → texts ≡ map (λ word. word.now) words
    → Contains texts (get_or words place some).now
word_stands words texts place some low e = subst (λ known. Contains known (get_or words place some).now) (sym e) (go words place some low)
  where
    go : (words : List (Bor Text)) (place : ℕ) (some : Bor Text) → place < length words → Contains (map (λ word. word.now) words) (get_or words place some).now
    go [] place some low = absurd (omega (arith, low))
    go (x ∷ xs) zero some low = (0, omega arith, refl)
    go (x ∷ xs) (suc place) some low = let rest = go xs place some (omega (arith, low)) in (suc rest.0, omega (arith, rest.1), rest.2)

pub one_more_fits : (words taken : List (Bor Text)) (word : Bor Text) → All FitsAlone (map (λ one. one.now) words) → FitsAlone word.now → taken ≡ words ++ word ∷ []
    → All FitsAlone (map (λ one. one.now) taken)
one_more_fits words taken word fit fits e =
    subst (λ (list : List (Bor Text)). All FitsAlone (map (λ one. one.now) list)) (sym e)
    (subst (All FitsAlone) (sym (map-append (λ (one : Bor Text). one.now) words (word ∷ []))) (All-push FitsAlone _ word.now fit fits))

pub all_fit : (words : List (Bor Text)) (count : ℕ) → length words ≤ count → All FitsAlone (map (λ one. one.now) (take count words)) → All FitsAlone (map (λ one. one.now) words)
all_fit words count all fit = subst (λ (list : List (Bor Text)). All FitsAlone (map (λ one. one.now) list)) (take_all count words all) fit

-- ---- what the check of all words has come to

pub ends : (given : NetworkGiven) (result : Result (Unit {0}) Complaint) → (IsDistinct bytes_eq (names_given given) → CanBeServed given)
    → MatchResult result (λ _. IsDistinct bytes_eq (names_given given)) (IsWrong given) → MatchResult result (λ _. CanBeServed given) (IsWrong given)
ends given (Ok done) serves outcome = serves outcome
ends given (Err complaint) serves outcome = outcome
