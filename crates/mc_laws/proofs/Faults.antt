-- Which fault of a storage line is reported, and what becomes of a block that isn't stored.
use Rattle.std.proofs.Common.{◌≡◌, ◌≢◌, ◌⊎◌, ⊎_elim, ℕ, ◌<◌, ◌≤◌, ◌+◌, Bool, true, false, ◌||◌, nat_le, List, [], ◌∷◌, ◌++◌, length, drop, take, Option, Some, None, is_some, option_map, inl, inr, if◌then◌else◌, codes, refl, ap, ◌∙◌, true≢false, arith}
use Rattle.std.proofs.lemmas.Bool.{false_from_ne_true}
use Rattle.std.proofs.lemmas.Bool.Decides.{nat_tests}
use Rattle.mc_model.specs.declared.command.Verb.{Verb}
use Rattle.mc_model.specs.declared.item.TheConstants.{DATA_BYTES}
use Rattle.mc_model.specs.declared.reply.Reply.TheVariants.{Refused}
use Rattle.mc_model.specs.declared.reply.TheConstants.WireNo.{BAD_BLOCK, BAD_FORMAT, NO_EXPIRY, TOO_LARGE}
use Rattle.mc_model.specs.declared.reply.WireNo.{WireNo}
use Rattle.mc_model.specs.declared.request.Request.TheVariants.{Local}
use Rattle.mc_model.specs.Key.{is_lawful_key}
use Rattle.mc_model.specs.Number.{number_up_to}
use Rattle.mc_laws.proofs.LineWords.{same_word}
use Rattle.mc_laws.proofs.LinesRead.{name_asked, text_of}
use Rattle.mc_read.specs.declared.line.Asked.TheVariants.{RefusedBlock, StoredBlock}
use Rattle.mc_read.specs.declared.line.Header.{Header}
use Rattle.mc_read.specs.declared.line.Storage.{Storage}
use Rattle.mc_read.specs.declared.line.Storage.TheVariants.{CheckAndSet, Plain}
use Rattle.mc_read.specs.declared.line.TheConstants.{BLOCK_LENGTH, FLAGS, UNIQUE}
use Rattle.mc_read.specs.Line.{Checks, StorageLine, asked, asked_by, asked_of_length, asked_with, check_and_set, ends_in_noreply, first_failure, ignores_exptime, storage_checks}
use Rattle.mc_read.specs.Sending.{noreply_if, verb_name}
use Rattle.mc_read.specs.Text.{IsRequestText, IsUnbroken, stored_if}
use Rattle.mc_read.specs.Word.{is_exptime, is_noreply, is_word, is_zero, words}

-- a word that isn't this name
is_not : (word name : List ℕ) → word ≢ name → is_word word name ≡ false
is_not word name other = false_from_ne_true (is_word word name) (λ same. other (same_word word name same))

-- the refusal of the first check that fails
format_fails : (key flags time how : Bool) (rest : Checks) → (key ≡ false) ⊎ (flags ≡ false) ⊎ (time ≡ false) ⊎ (how ≡ false) →
    first_failure ((key, BAD_FORMAT) ∷ (flags, BAD_FORMAT) ∷ (time, BAD_FORMAT) ∷ (how, BAD_FORMAT) ∷ rest) ≡ Some BAD_FORMAT
format_fails false flags time how rest some = refl
format_fails true false time how rest some = refl
format_fails true true false how rest some = refl
format_fails true true true false rest some = refl
format_fails true true true true rest some = absurd (⊎_elim true≢false (⊎_elim true≢false (⊎_elim true≢false true≢false)) some)

expiry_fails : (ends key flags time how passes : Bool) (rest : Checks) → ends ≡ true → key ≡ true → flags ≡ true → time ≡ true → how ≡ true → passes ≡ false →
    first_failure ((ends, BAD_FORMAT) ∷ (key, BAD_FORMAT) ∷ (flags, BAD_FORMAT) ∷ (time, BAD_FORMAT) ∷ (how, BAD_FORMAT) ∷ (passes, NO_EXPIRY) ∷ rest) ≡ Some NO_EXPIRY
expiry_fails ends key flags time how passes rest is lawful known spelled stores fails = rw (is, lawful, known, spelled, stores, fails) refl

size_fails : (ends key flags time how passes small : Bool) → ends ≡ true → key ≡ true → flags ≡ true → time ≡ true → how ≡ true → passes ≡ true → small ≡ false →
    first_failure ((ends, BAD_FORMAT) ∷ (key, BAD_FORMAT) ∷ (flags, BAD_FORMAT) ∷ (time, BAD_FORMAT) ∷ (how, BAD_FORMAT) ∷ (passes, NO_EXPIRY) ∷ (small, TOO_LARGE) ∷ []) ≡ Some TOO_LARGE
size_fails ends key flags time how passes small is lawful known spelled stores no_time large = rw (is, lawful, known, spelled, stores, no_time, large) refl

-- the last word of a line that is quiet or not
abbrev last_if : Bool → Option (List ℕ)
last_if quiet = if quiet then Some (codes "noreply") else None

ends : (quiet : Bool) → ends_in_noreply (last_if quiet) ≡ true
ends true = refl
ends false = refl

is_last : (quiet : Bool) → is_some (last_if quiet) ≡ quiet
is_last true = refl
is_last false = refl

module _ (storage : Option Storage) (key flags exptime size : List ℕ) where
  abbrev line_of : Option (List ℕ) → StorageLine
  line_of last = record { storage = storage; key = key; flags = number_up_to FLAGS flags; exptime = exptime; size = size; last = last }

  -- what the line asks for is up to the length of its block, and to these words and this last one
  abbrev Asks : List ℕ → Option (List ℕ) → Type 0
  Asks line last = asked line ≡ asked_of_length (line_of last) (number_up_to BLOCK_LENGTH size)

  module _ (line : List ℕ) (long : ℕ) (sized : number_up_to BLOCK_LENGTH size ≡ Some long) where
    -- the checks after those of the format, and after that of the exptime
    abbrev rest_of_size : Checks
    rest_of_size = (nat_le long DATA_BYTES, TOO_LARGE) ∷ []

    abbrev rest_of_time : Checks
    rest_of_time = (ignores_exptime storage || is_zero exptime, NO_EXPIRY) ∷ rest_of_size

    told : (last : Option (List ℕ)) (refusal : WireNo) → Asks line last → first_failure (storage_checks (line_of last) long) ≡ Some refusal → asked line ≡ asked_with (line_of last) long (Some refusal)
    told last refusal asks fails = asks ∙ (ap (asked_of_length (line_of last)) sized ∙ ap (asked_with (line_of last) long) fails)

    of_last : (last : List ℕ) → Asks line (Some last) → last ≢ codes "noreply" → asked line ≡ RefusedBlock long BAD_FORMAT false
    of_last last asks other =
        let fails : is_noreply last ≡ false = is_not last (codes "noreply") other in
        told (Some last) BAD_FORMAT asks (rw fails refl)

    of_format : (quiet : Bool) → Asks line (last_if quiet) → (is_lawful_key key ≡ false) ⊎ (is_some (number_up_to FLAGS flags) ≡ false) ⊎ (is_exptime exptime ≡ false) ⊎ (is_some storage ≡ false) → asked line ≡ RefusedBlock long BAD_FORMAT false
    of_format true asks some = told (last_if true) BAD_FORMAT asks (format_fails _ _ _ _ rest_of_time some)
    of_format false asks some = told (last_if false) BAD_FORMAT asks (format_fails _ _ _ _ rest_of_time some)

    module _ (lawful : is_lawful_key key ≡ true) (known : is_some (number_up_to FLAGS flags) ≡ true) (spelled : is_exptime exptime ≡ true) (stores : is_some storage ≡ true) where
      of_expiry : (quiet : Bool) → Asks line (last_if quiet) → (ignores_exptime storage || is_zero exptime) ≡ false → asked line ≡ RefusedBlock long NO_EXPIRY quiet
      of_expiry quiet asks fails = told (last_if quiet) NO_EXPIRY asks (expiry_fails _ _ _ _ _ _ rest_of_size (ends quiet) lawful known spelled stores fails) ∙ ap (RefusedBlock long NO_EXPIRY) (is_last quiet)

      of_size : (quiet : Bool) → Asks line (last_if quiet) → (ignores_exptime storage || is_zero exptime) ≡ true → 1048576 < long → asked line ≡ RefusedBlock long TOO_LARGE quiet
      of_size quiet asks passes large =
          let too_large : nat_le long DATA_BYTES ≡ false = grind (arith, nat_tests, large) in
          told (last_if quiet) TOO_LARGE asks (size_fails _ _ _ _ _ _ _ (ends quiet) lawful known spelled stores passes too_large) ∙ ap (RefusedBlock long TOO_LARGE) (is_last quiet)

-- Lines of set, add, replace, append and prepend.
module _ (line key flags exptime size : List ℕ) (verb : Verb) where
  verb_asks : (quiet : Bool) → words line ≡ verb_name verb ∷ key ∷ flags ∷ exptime ∷ size ∷ noreply_if quiet → Asks (Some (Plain verb)) key flags exptime size line (last_if quiet)
  verb_asks true is = ap asked_by is ∙ name_asked verb (key ∷ flags ∷ exptime ∷ size ∷ noreply_if true)
  verb_asks false is = ap asked_by is ∙ name_asked verb (key ∷ flags ∷ exptime ∷ size ∷ noreply_if false)

  pub last_told : (last : List ℕ) (long : ℕ) → words line ≡ verb_name verb ∷ key ∷ flags ∷ exptime ∷ size ∷ last ∷ [] → number_up_to BLOCK_LENGTH size ≡ Some long → last ≢ codes "noreply" → asked line ≡ RefusedBlock long BAD_FORMAT false
  last_told last long is sized other = of_last (Some (Plain verb)) key flags exptime size line long sized last (ap asked_by is ∙ name_asked verb (key ∷ flags ∷ exptime ∷ size ∷ last ∷ [])) other

  module _ (quiet : Bool) (long : ℕ) (is : words line ≡ verb_name verb ∷ key ∷ flags ∷ exptime ∷ size ∷ noreply_if quiet) (sized : number_up_to BLOCK_LENGTH size ≡ Some long) where
    pub format_told : (is_lawful_key key ≡ false) ⊎ (is_some (number_up_to FLAGS flags) ≡ false) ⊎ (is_exptime exptime ≡ false) → asked line ≡ RefusedBlock long BAD_FORMAT false
    format_told fails = of_format (Some (Plain verb)) key flags exptime size line long sized quiet (verb_asks quiet is) (some fails)
      where
        some : {A B C D : Type 0} → A ⊎ B ⊎ C → A ⊎ B ⊎ C ⊎ D
        some (inl a) = inl a
        some (inr (inl b)) = inr (inl b)
        some (inr (inr c)) = inr (inr (inl c))

    module _ (lawful : is_lawful_key key ≡ true) (known : is_some (number_up_to FLAGS flags) ≡ true) (spelled : is_exptime exptime ≡ true) where
      pub expiry_told : ignores_exptime (Some (Plain verb)) ≡ false → is_zero exptime ≡ false → asked line ≡ RefusedBlock long NO_EXPIRY quiet
      expiry_told obeys some = of_expiry (Some (Plain verb)) key flags exptime size line long sized lawful known spelled refl quiet (verb_asks quiet is) (neither _ _ obeys some)
        where
          neither : (one other : Bool) → one ≡ false → other ≡ false → (one || other) ≡ false
          neither one other is_one is_other = rw (is_one, is_other) refl

      pub size_told : (ignores_exptime (Some (Plain verb)) || is_zero exptime) ≡ true → 1048576 < long → asked line ≡ RefusedBlock long TOO_LARGE quiet
      size_told passes large = of_size (Some (Plain verb)) key flags exptime size line long sized lawful known spelled refl quiet (verb_asks quiet is) passes large

-- Lines of cas.
some_unique : (read : Option ℕ) → is_some (option_map CheckAndSet read) ≡ is_some read
some_unique None = refl
some_unique (Some unique) = refl

ignores_none : (read : Option ℕ) (zero : Bool) → (ignores_exptime (option_map CheckAndSet read) || zero) ≡ zero
ignores_none None zero = refl
ignores_none (Some unique) zero = refl

module _ (line key flags exptime size unique : List ℕ) where
  cas_asks : (quiet : Bool) → words line ≡ codes "cas" ∷ key ∷ flags ∷ exptime ∷ size ∷ unique ∷ noreply_if quiet → Asks (check_and_set unique) key flags exptime size line (last_if quiet)
  cas_asks true is = ap asked_by is
  cas_asks false is = ap asked_by is

  pub cas_last_told : (last : List ℕ) (long : ℕ) → words line ≡ codes "cas" ∷ key ∷ flags ∷ exptime ∷ size ∷ unique ∷ last ∷ [] → number_up_to BLOCK_LENGTH size ≡ Some long → last ≢ codes "noreply" → asked line ≡ RefusedBlock long BAD_FORMAT false
  cas_last_told last long is sized other = of_last (check_and_set unique) key flags exptime size line long sized last (ap asked_by is) other

  module _ (quiet : Bool) (long : ℕ) (is : words line ≡ codes "cas" ∷ key ∷ flags ∷ exptime ∷ size ∷ unique ∷ noreply_if quiet) (sized : number_up_to BLOCK_LENGTH size ≡ Some long) where
    pub cas_format_told : (is_lawful_key key ≡ false) ⊎ (is_some (number_up_to FLAGS flags) ≡ false) ⊎ (is_exptime exptime ≡ false) ⊎ (is_some (number_up_to UNIQUE unique) ≡ false) → asked line ≡ RefusedBlock long BAD_FORMAT false
    cas_format_told fails = of_format (check_and_set unique) key flags exptime size line long sized quiet (cas_asks quiet is) (some fails)
      where
        some : {A B C : Type 0} → A ⊎ B ⊎ C ⊎ (is_some (number_up_to UNIQUE unique) ≡ false) → A ⊎ B ⊎ C ⊎ (is_some (check_and_set unique) ≡ false)
        some (inl a) = inl a
        some (inr (inl b)) = inr (inl b)
        some (inr (inr (inl c))) = inr (inr (inl c))
        some (inr (inr (inr unread))) = inr (inr (inr (some_unique (number_up_to UNIQUE unique) ∙ unread)))

    module _ (lawful : is_lawful_key key ≡ true) (known : is_some (number_up_to FLAGS flags) ≡ true) (spelled : is_exptime exptime ≡ true) (read : is_some (number_up_to UNIQUE unique) ≡ true) where
      pub cas_expiry_told : is_zero exptime ≡ false → asked line ≡ RefusedBlock long NO_EXPIRY quiet
      cas_expiry_told some = of_expiry (check_and_set unique) key flags exptime size line long sized lawful known spelled (some_unique (number_up_to UNIQUE unique) ∙ read) quiet (cas_asks quiet is) (ignores_none (number_up_to UNIQUE unique) (is_zero exptime) ∙ some)

      pub cas_size_told : is_zero exptime ≡ true → 1048576 < long → asked line ≡ RefusedBlock long TOO_LARGE quiet
      cas_size_told none large = of_size (check_and_set unique) key flags exptime size line long sized lawful known spelled (some_unique (number_up_to UNIQUE unique) ∙ read) quiet (cas_asks quiet is) (ignores_none (number_up_to UNIQUE unique) (is_zero exptime) ∙ none) large

-- Blocks that aren't stored.
pub bad_block_read : (line body : List ℕ) (header : Header) → IsUnbroken line → length line ≤ 65536 → asked line ≡ StoredBlock header → length body ≡ header.length + 2 → drop header.length body ≢ codes "\r\n" →
    IsRequestText asked (line ++ 10 ∷ body) (Local (Refused BAD_BLOCK) header.quiet)
bad_block_read line body header unbroken short asks whole other =
    text_of line unbroken short asked body (StoredBlock header) (Local (Refused BAD_BLOCK) header.quiet) asks whole
    (ap (λ ends. stored_if ends header (take header.length body)) (is_not (drop header.length body) (codes "\r\n") other))

pub refused_block_read : (line body : List ℕ) (long : ℕ) (refusal : WireNo) (quiet : Bool) → IsUnbroken line → length line ≤ 65536 → asked line ≡ RefusedBlock long refusal quiet → length body ≡ long + 2 →
    IsRequestText asked (line ++ 10 ∷ body) (Local (Refused refusal) quiet)
refused_block_read line body long refusal quiet unbroken short asks whole = text_of line unbroken short asked body (RefusedBlock long refusal quiet) (Local (Refused refusal) quiet) asks whole refl
