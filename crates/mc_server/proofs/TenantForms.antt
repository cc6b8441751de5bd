-- The parts of a tenant's word lack the bytes that end them, and are read in one way.
use Rattle.std.proofs.Common.{◌≡◌, ◌≢◌, ℕ, ◌<◌, ◌==◌, ◌&&◌, ◌^◌, ◌-◌, Bool, true, false, List, [], ◌∷◌, ◌++◌, get_or, Option, Some, None, Result, IsTrue, cond, arith, refl, sym, ap, ◌∙◌, decimal, subst}
use Rattle.std.proofs.lemmas.Bool.{cond_both, eqb-true}
use Rattle.std.proofs.lemmas.Fmt.{decimal_is_IsNumeral}
use Rattle.std.proofs.lemmas.List.Elements.{All-append, All-cons, All-from_get_or, All-nil}
use Rattle.std.proofs.lemmas.Str.Parse.{digit_at}
use Rattle.std.proofs.NetLemmas.Theorems.{IsSocketV4Text_unique, Parses_gives}
use Rattle.std.specs.Int.{IsInRange}
use Rattle.std.specs.List.{list_all}
use Rattle.std.specs.Net.Grammar.{IsDotted, IsSocketV4Text, Parses}
use Rattle.std.specs.Net.Text.{dotted_text}
use Rattle.std.specs.Option.{IsSomeAnd}
use Rattle.std.specs.Result.{result_ok}
use Rattle.std.specs.Str.Parse.{AllDigits}
use Rattle.std.specs.declared.net.socket_addr.SocketAddrV4.{SocketAddrV4}
use Rattle.mc_model.specs.Name.{is_lawful_name, is_name_byte}
use Rattle.mc_model.specs.Number.{number_up_to}
use Rattle.model_lemmas.proofs.NumberTests.{number_test}
use Rattle.mc_server.specs.NetworkWords.{IsNoAddress, IsOnlyAddress, SpellsAddress}
use Rattle.mc_server.specs.TenantWord.{Lacks, Says, TenantAsked, tenant_text}
use Rattle.mc_programs.specs.Words.{u64_of}
use Rattle.mc_server.specs.declared.tenant_word.Parts.{Parts}

-- ---- bytes that parts lack

-- both hold, if their conjunction does
parts_hold : (a b : Bool) → (a && b) ≡ true → (a ≡ true) × (b ≡ true)
parts_hold true b e = (refl, e)
parts_hold false b e = absurd cc

byte_lacks : (byte : ℕ) → is_name_byte byte ≡ true → byte ≢ 61
byte_lacks byte passes e = let at : is_name_byte byte ≡ false = ap is_name_byte e in cc

all_lack : (name : List ℕ) → list_all is_name_byte name ≡ true → Lacks 61 name
all_lack [] h = All-nil (λ byte. byte ≢ 61)
all_lack (x ∷ xs) h =
    let both = parts_hold (is_name_byte x) (list_all is_name_byte xs) h in
    All-cons (λ byte. byte ≢ 61) x xs (byte_lacks x both.0) (all_lack xs both.1)

pub name_lacks : (name : List ℕ) → IsTrue (is_lawful_name name) → Lacks 61 name
name_lacks name h = all_lack name (parts_hold _ (list_all is_name_byte name) h).1

digits_lack : (digits : List ℕ) → AllDigits 10 digits → Lacks 44 digits
digits_lack digits h = All-from_get_or (λ byte. byte ≢ 44) digits 0 λ i low e. let range : IsInRange 48 57 (get_or digits i 0) = digit_at digits i h low in omega arith

both_lack : (front back : List ℕ) → Lacks 44 front → Lacks 44 back → Lacks 44 (front ++ back)
both_lack = All-append (λ byte. byte ≢ 44)

one_lacks : (byte : ℕ) → byte ≢ 44 → Lacks 44 (byte ∷ [])
one_lacks byte ne = All-cons (λ byte. byte ≢ 44) byte [] ne (All-nil (λ byte. byte ≢ 44))

octet_lacks : (n : ℕ) → n < 256 → Lacks 44 (decimal n)
octet_lacks n low = digits_lack (decimal n) (decimal_is_IsNumeral n (omega arith)).0.1

dotted_lacks : (text octets : List ℕ) → IsDotted text octets → Lacks 44 text
dotted_lacks text octets h =
    let dot = one_lacks 46 (λ e. omega arith) in
    let first = both_lack _ _ (both_lack _ _ (octet_lacks h.a h.fit.0) dot) (octet_lacks h.b h.fit.1) in
    let second = both_lack _ _ (both_lack _ _ first dot) (octet_lacks h.c h.fit.2) in
    let all : Lacks 44 (dotted_text h.a h.b h.c h.d) = both_lack _ _ (both_lack _ _ second dot) (octet_lacks h.d h.fit.3) in
    subst (Lacks 44) (sym h.spelled) all

pub address_lacks : (text : List ℕ) (address : SocketAddrV4) → IsSocketV4Text text address → Lacks 44 text
address_lacks text address h =
    let port : Lacks 44 (58 ∷ h.4.0) = both_lack (58 ∷ []) h.4.0 (one_lacks 58 (λ e. omega arith)) (digits_lack h.4.0 h.4.2.0.1) in
    let whole : Lacks 44 (h.0 ++ h.1) = both_lack h.0 h.1 (dotted_lacks h.0 _ h.3) (subst (Lacks 44) (sym h.4.1) port) in
    subst (Lacks 44) (sym h.2) whole

numeral_digits : (limit number : ℕ) (digits : List ℕ) → number_up_to limit digits ≡ Some number → AllDigits 10 digits
numeral_digits limit number digits =
    cond_both _ _ _ (λ (o : Option ℕ). o ≡ Some number → AllDigits 10 digits) (λ e _. ((number_test limit digits).0 e).0.1) (λ _ none. absurd (cc))

pub number_lacks : (text : List ℕ) (number : ℕ) → u64_of text ≡ Some number → Lacks 44 text
number_lacks [] number e = All-nil (λ byte. byte ≢ 44)
number_lacks (x ∷ xs) number e = go (x == 43) refl
  where
    go : (plus : Bool) → (x == 43) ≡ plus → Lacks 44 (x ∷ xs)
    go true is =
        let at : u64_of (x ∷ xs) ≡ number_up_to (2 ^ 64 - 1) xs = ap (λ b. number_up_to (2 ^ 64 - 1) (Rattle.std.specs.Prelude.drop (cond b 1 0) (x ∷ xs))) is in
        both_lack (x ∷ []) xs (one_lacks x (λ same. let here = eqb-true x 43 is in omega arith)) (digits_lack xs (numeral_digits _ number xs (sym at ∙ e)))
    go false is =
        let at : u64_of (x ∷ xs) ≡ number_up_to (2 ^ 64 - 1) (x ∷ xs) = ap (λ b. number_up_to (2 ^ 64 - 1) (Rattle.std.specs.Prelude.drop (cond b 1 0) (x ∷ xs))) is in
        digits_lack (x ∷ xs) (numeral_digits _ number (x ∷ xs) (sym at ∙ e))

-- ---- a word that says a tenant is cut into what it is read from

-- what `cut` promises at the parts of a word of the form
abbrev pub CutsOnly : List ℕ → Option Parts → Type 0
CutsOnly word found =
    (name address items bytes : List ℕ) → Lacks 61 name → Lacks 44 address → Lacks 44 items → word ≡ tenant_text name address items bytes
    → IsSomeAnd found (λ parts. (parts.name.now ≡ name) × (parts.address.now ≡ address) × (parts.items.now ≡ items) × (parts.bytes.now ≡ bytes))

-- the parts from which a tenant is read
pub record AreOf (parts : Parts) (asked : TenantAsked) : Type 0 where
  pub name : parts.name.now ≡ asked.name
  pub is_name : IsTrue (is_lawful_name parts.name.now)
  pub address : IsSocketV4Text parts.address.now asked.address
  pub items : u64_of parts.items.now ≡ Some asked.limits.items
  pub bytes : u64_of parts.bytes.now ≡ Some asked.limits.bytes

parts_found : (word : List ℕ) (found : Option Parts) (asked : TenantAsked) → CutsOnly word found → Says word asked → IsSomeAnd found (λ parts. AreOf parts asked)
parts_found word found asked only says =
    go found (only asked.name says.address says.items says.bytes (name_lacks asked.name says.is_name) (address_lacks says.address asked.address says.is_address)
    (number_lacks says.items asked.limits.items says.is_items) says.spelled)
  where
    go : (found : Option Parts) → IsSomeAnd found (λ parts. (parts.name.now ≡ asked.name) × (parts.address.now ≡ says.address) × (parts.items.now ≡ says.items) × (parts.bytes.now ≡ says.bytes))
        → IsSomeAnd found (λ parts. AreOf parts asked)
    go None h = h
    go (Some parts) h = record {
      name = h.0;
      is_name = rw h.0 says.is_name;
      address = rw h.1 says.is_address;
      items = rw h.2 says.is_items;
      bytes = rw h.3 says.is_bytes;
    }

pub is_found : (word : List ℕ) (found : Option Parts) (asked : TenantAsked) → CutsOnly word found → Says word asked → found ≡ None → ⊥
is_found word None asked only says none = parts_found word None asked only says
is_found word (Some parts) asked only says none = cc

pub parts_of : (word : List ℕ) (found : Option Parts) (asked : TenantAsked) (parts : Parts) → CutsOnly word found → Says word asked → found ≡ Some parts → AreOf parts asked
parts_of word found asked parts only says some = let P : Option Parts → Type 0 = λ o. IsSomeAnd o (λ parts. AreOf parts asked) in subst P some (parts_found word found asked only says)

-- an address is read in one way
pub reads_address : {E : Type 0} (text : List ℕ) (address : SocketAddrV4) (read : Result SocketAddrV4 E) → IsSocketV4Text text address → Parses IsSocketV4Text text read
    → result_ok read ≡ Some address
reads_address text address read h parsed = ap result_ok (Parses_gives IsSocketV4Text text address read (IsSocketV4Text_unique text) h parsed)

-- what is written spells this address and no other, or none
pub only_address : (text : List ℕ) (address : SocketAddrV4) → IsSocketV4Text text address → IsOnlyAddress (Some text) (Some address)
only_address text address spelled = record { spells = spelled; only = unique }
  where
    unique : (other : Option SocketAddrV4) → SpellsAddress (Some text) other → other ≡ Some address
    unique None h = absurd h
    unique (Some x) h = ap Some (IsSocketV4Text_unique text x address h spelled)

pub no_address : (text : List ℕ) → ((address : SocketAddrV4) → ¬ (IsSocketV4Text text address)) → IsNoAddress (Some text)
no_address text none None h = h
no_address text none (Some x) h = none x h
