-- A line that becomes a command has an exptime of zero, but where it is ignored.
use Rattle.std.proofs.Common.{◌≡◌, ◌≢◌, ℕ, Bool, true, false, ◌||◌, cond, List, [], ◌∷◌, ◌++◌, codes, Option, Some, None, option_map, inl, inr, refl, sym, ◌∙◌, ap, true≢false}
use Rattle.std.proofs.lemmas.Bool.{false_from_ne_true}
use Rattle.std.proofs.lemmas.Slice.Eq.{bytes_eq-Decides}
use Rattle.std.specs.List.{before_first}
use Rattle.std.specs.Prelude.{⊤, IsTrue}
use Rattle.mc_model.specs.declared.command.Command.{Command}
use Rattle.mc_model.specs.declared.command.Command.TheVariants.{Flush}
use Rattle.mc_model.specs.declared.command.Verb.{Verb}
use Rattle.mc_model.specs.declared.command.Verb.TheVariants.{Add, Append, Prepend, Replace, Set}
use Rattle.mc_model.specs.declared.reply.TheConstants.WireNo.{BAD_FORMAT, UNKNOWN_COMMAND}
use Rattle.mc_model.specs.declared.reply.WireNo.{WireNo}
use Rattle.mc_model.specs.declared.request.Request.TheVariants.{Logged, TooLong}
use Rattle.mc_model.specs.Number.{number_up_to}
use Rattle.mc_read.specs.declared.line.Storage.TheVariants.{CheckAndSet, Plain}
use Rattle.mc_read.specs.declared.line.TheConstants.{BLOCK_LENGTH, FLAGS, UNIQUE}
use Rattle.mc_read.specs.First.{is_line_feed}
use Rattle.mc_read.specs.Line.{Checks, StorageLine, asked, asked_by, asked_of_cas, asked_of_flush, asked_of_length, asked_of_storage, asked_unless, asked_with, check_and_set, exptime_checks, first_failure, ignores_exptime, refused, storage_checks}
use Rattle.mc_read.specs.Sending.{verb_name}
use Rattle.mc_read.specs.Text.{IsRequestText, IsUnbroken, request_of}
use Rattle.mc_read.specs.Word.{is_noreply, is_zero, words}
use Rattle.mc_read.proofs.Sending.{name_asked}
use Rattle.mc_read.proofs.Texts.{before_first_at}

-- the line of a text without a line feed in it is the text's own line
same_line : (line body own rest : List ℕ) → IsUnbroken line → IsUnbroken own → line ++ 10 ∷ body ≡ own ++ 10 ∷ rest → own ≡ line
same_line line body own rest unbroken own_unbroken same =
    sym (before_first_at own rest own_unbroken) ∙ (ap (before_first is_line_feed) (sym same) ∙ before_first_at line body unbroken)

-- a command is what its line asks for
asked_on : (line body : List ℕ) (command : Command) (quiet : Bool) → IsUnbroken line → IsRequestText asked (line ++ 10 ∷ body) (Logged command quiet)
    → (rest : List ℕ) × (request_of (asked line) rest ≡ Logged command quiet)
asked_on line body command quiet unbroken (inl is) =
    (is.body, ap (λ l. request_of (asked l) is.body) (sym (same_line line body is.line is.body unbroken is.unbroken is.in_text)) ∙ sym is.is_asked)
asked_on line body command quiet unbroken (inr is) = absurd (never is.is_too_long)
  where
    never : Logged command quiet ≡ TooLong → ⊥
    never same = cc

-- each check passes
abbrev pub AllPassing : Checks → Type 0
AllPassing [] = ⊤
AllPassing (check ∷ checks) = (check.0 ≡ true) × AllPassing checks

-- where nothing is refused all checks pass
pub all_pass : (checks : Checks) → first_failure checks ≡ None → AllPassing checks
all_pass [] none = tt
all_pass ((true, refusal) ∷ checks) none = (refl, all_pass checks none)
all_pass ((false, refusal) ∷ checks) none = absurd (never none)
  where
    never : Some refusal ≡ None → ⊥
    never same = cc

right_of_or : (a b : Bool) → a ≡ false → (a || b) ≡ true → b ≡ true
right_of_or true b fails passes = absurd (true≢false fails)
right_of_or false b fails passes = passes

module _ (rest : List ℕ) (command : Command) (quiet : Bool) where
  no_refusal : (refusal : WireNo) (noreply : Bool) → refused refusal noreply ≡ Logged command quiet → ⊥
  no_refusal refusal noreply same = cc

  -- Storage lines.
  passes_with : (line : StorageLine) (size : ℕ) (failure : Option WireNo) → first_failure (storage_checks line size) ≡ failure → request_of (asked_with line size failure) rest ≡ Logged command quiet
      → AllPassing (storage_checks line size)
  passes_with line size None none is = all_pass (storage_checks line size) none
  passes_with line size (Some refusal) some is = absurd (no_refusal refusal _ is)

  zero_at : (line : StorageLine) (size : Option ℕ) → request_of (asked_of_length line size) rest ≡ Logged command quiet → ignores_exptime line.storage ≡ false → is_zero line.exptime ≡ true
  zero_at line None is counts = absurd (no_refusal BAD_FORMAT false is)
  zero_at line (Some size) is counts =
      let passing = passes_with line size (first_failure (storage_checks line size)) refl is in
      right_of_or (ignores_exptime line.storage) (is_zero line.exptime) counts passing.1.1.1.1.1.0

  zero_in_storage : (verb : Verb) (key flags exptime : List ℕ) (more : List (List ℕ)) → ignores_exptime (Some (Plain verb)) ≡ false
      → request_of (asked_of_storage verb (key ∷ flags ∷ exptime ∷ more)) rest ≡ Logged command quiet → is_zero exptime ≡ true
  zero_in_storage verb key flags exptime [] counts is = absurd (no_refusal UNKNOWN_COMMAND false is)
  zero_in_storage verb key flags exptime (size ∷ []) counts is =
      zero_at (record { storage = Some (Plain verb); key = key; flags = number_up_to FLAGS flags; exptime = exptime; size = size; last = None }) (number_up_to BLOCK_LENGTH size) is counts
  zero_in_storage verb key flags exptime (size ∷ last ∷ []) counts is =
      zero_at (record { storage = Some (Plain verb); key = key; flags = number_up_to FLAGS flags; exptime = exptime; size = size; last = Some last }) (number_up_to BLOCK_LENGTH size) is counts
  zero_in_storage verb key flags exptime (size ∷ last ∷ other ∷ others) counts is = absurd (no_refusal UNKNOWN_COMMAND false is)

  counts_for_cas : (unique : Option ℕ) → ignores_exptime (option_map CheckAndSet unique) ≡ false
  counts_for_cas None = refl
  counts_for_cas (Some unique) = refl

  zero_in_cas : (key flags exptime : List ℕ) (more : List (List ℕ)) → request_of (asked_of_cas (key ∷ flags ∷ exptime ∷ more)) rest ≡ Logged command quiet → is_zero exptime ≡ true
  zero_in_cas key flags exptime [] is = absurd (no_refusal UNKNOWN_COMMAND false is)
  zero_in_cas key flags exptime (size ∷ []) is = absurd (no_refusal UNKNOWN_COMMAND false is)
  zero_in_cas key flags exptime (size ∷ unique ∷ []) is =
      zero_at (record { storage = check_and_set unique; key = key; flags = number_up_to FLAGS flags; exptime = exptime; size = size; last = None }) (number_up_to BLOCK_LENGTH size) is
      (counts_for_cas (number_up_to UNIQUE unique))
  zero_in_cas key flags exptime (size ∷ unique ∷ last ∷ []) is =
      zero_at (record { storage = check_and_set unique; key = key; flags = number_up_to FLAGS flags; exptime = exptime; size = size; last = Some last }) (number_up_to BLOCK_LENGTH size) is
      (counts_for_cas (number_up_to UNIQUE unique))
  zero_in_cas key flags exptime (size ∷ unique ∷ last ∷ other ∷ others) is = absurd (no_refusal UNKNOWN_COMMAND false is)

  -- Lines of flush_all.
  passes_unless : (checks : Checks) (failure : Option WireNo) (asks : Command) (noreply : Bool) → first_failure checks ≡ failure → request_of (asked_unless failure asks noreply) rest ≡ Logged command quiet → AllPassing checks
  passes_unless checks None asks noreply none is = all_pass checks none
  passes_unless checks (Some refusal) asks noreply some is = absurd (no_refusal refusal _ is)

  zero_in_flush : (exptime : List ℕ) (more : List (List ℕ)) → is_noreply exptime ≡ false → request_of (asked_of_flush (exptime ∷ more)) rest ≡ Logged command quiet → is_zero exptime ≡ true
  zero_in_flush exptime [] counts is =
      let asks : request_of (asked_unless (first_failure (exptime_checks exptime)) Flush false) rest ≡ Logged command quiet =
      sym (ap (λ b. request_of (cond b (asked_unless None Flush true) (asked_unless (first_failure (exptime_checks exptime)) Flush false)) rest) counts) ∙ is in
      (passes_unless (exptime_checks exptime) (first_failure (exptime_checks exptime)) Flush false refl asks).1.0
  zero_in_flush exptime (last ∷ []) counts is =
      let checks = (is_noreply last, BAD_FORMAT) ∷ exptime_checks exptime in
      (passes_unless checks (first_failure checks) Flush true refl is).1.1.0
  zero_in_flush exptime (last ∷ other ∷ others) counts is = absurd (no_refusal UNKNOWN_COMMAND false is)

-- Texts.
counts_for : (verb : Verb) → verb ≢ Append → verb ≢ Prepend → ignores_exptime (Some (Plain verb)) ≡ false
counts_for Set no_append no_prepend = refl
counts_for Add no_append no_prepend = refl
counts_for Replace no_append no_prepend = refl
counts_for Append no_append no_prepend = absurd (no_append refl)
counts_for Prepend no_append no_prepend = absurd (no_prepend refl)

module _ (line body : List ℕ) (command : Command) (quiet : Bool) (unbroken : IsUnbroken line) (is : IsRequestText asked (line ++ 10 ∷ body) (Logged command quiet)) where
  asked_by_words : (parts : List (List ℕ)) → words line ≡ parts → (rest : List ℕ) × (request_of (asked_by parts) rest ≡ Logged command quiet)
  asked_by_words parts are = let asks = asked_on line body command quiet unbroken is in (asks.0, ap (λ w. request_of (asked_by w) asks.0) (sym are) ∙ asks.1)

  pub storage_has_zero : (verb : Verb) (key flags exptime : List ℕ) (more : List (List ℕ)) → words line ≡ verb_name verb ∷ key ∷ flags ∷ exptime ∷ more → verb ≢ Append → verb ≢ Prepend → IsTrue (is_zero exptime)
  storage_has_zero verb key flags exptime more are no_append no_prepend =
      let asks = asked_by_words (verb_name verb ∷ key ∷ flags ∷ exptime ∷ more) are in
      zero_in_storage asks.0 command quiet verb key flags exptime more (counts_for verb no_append no_prepend)
      (ap (λ a. request_of a asks.0) (sym (name_asked verb (key ∷ flags ∷ exptime ∷ more))) ∙ asks.1)

  pub cas_has_zero : (key flags exptime : List ℕ) (more : List (List ℕ)) → words line ≡ codes "cas" ∷ key ∷ flags ∷ exptime ∷ more → IsTrue (is_zero exptime)
  cas_has_zero key flags exptime more are =
      let asks = asked_by_words (codes "cas" ∷ key ∷ flags ∷ exptime ∷ more) are in
      zero_in_cas asks.0 command quiet key flags exptime more asks.1

  pub flush_has_zero : (exptime : List ℕ) (more : List (List ℕ)) → words line ≡ codes "flush_all" ∷ exptime ∷ more → exptime ≢ codes "noreply" → IsTrue (is_zero exptime)
  flush_has_zero exptime more are no_noreply =
      let asks = asked_by_words (codes "flush_all" ∷ exptime ∷ more) are in
      zero_in_flush asks.0 command quiet exptime more (false_from_ne_true (is_noreply exptime) (λ same. no_noreply ((bytes_eq-Decides exptime (codes "noreply")).0 same))) asks.1
