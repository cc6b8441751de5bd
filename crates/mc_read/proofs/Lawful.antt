-- Whatever is read as a command is valid.
use Rattle.std.proofs.Common.{◌≡◌, ℕ, ◌≤◌, Bool, true, false, ◌&&◌, ◌||◌, cond, nat_le, List, [], ◌∷◌, length, take, drop, Option, Some, None, is_some, unwrap_or, option_map, inl, inr, refl, sym, subst, length-take, arith, codes}
use Rattle.std.proofs.lemmas.Bool.{and_parts, leb-true}
use Rattle.std.proofs.lemmas.List.Elements.{All-cons, All-nil}
use Rattle.std.specs.List.{All, list_all}
use Rattle.std.specs.Prelude.{⊤, IsTrue}
use Rattle.std.specs.Str.Parse.{digits_value}
use Rattle.mc_model.specs.declared.command.Command.{Command}
use Rattle.mc_model.specs.declared.command.Command.TheVariants.{Delete, Flush, Get}
use Rattle.mc_model.specs.declared.command.Verb.{Verb}
use Rattle.mc_model.specs.declared.command.Verb.TheVariants.{Set}
use Rattle.mc_model.specs.declared.item.TheConstants.{DATA_BYTES}
use Rattle.mc_model.specs.declared.reply.Reply.TheVariants.{Version}
use Rattle.mc_model.specs.declared.reply.TheConstants.WireNo.{BAD_BLOCK, BAD_DELTA, BAD_FORMAT}
use Rattle.mc_model.specs.declared.reply.WireNo.{WireNo}
use Rattle.mc_model.specs.declared.request.Request.{Request}
use Rattle.mc_model.specs.declared.request.Request.TheVariants.{Limit, Local, Logged, Quit, TooLong}
use Rattle.mc_model.specs.declared.settings.Limits.{Limits}
use Rattle.mc_model.specs.Key.{is_lawful_key}
use Rattle.mc_model.specs.Number.{is_numeral, number_up_to}
use Rattle.mc_read.specs.declared.line.Asked.{Asked}
use Rattle.mc_read.specs.declared.line.Asked.TheVariants.{LineOnly, RefusedBlock, StoredBlock}
use Rattle.mc_read.specs.declared.line.Header.{Header}
use Rattle.mc_read.specs.declared.line.Storage.{Storage}
use Rattle.mc_read.specs.declared.line.Storage.TheVariants.{CheckAndSet, Plain}
use Rattle.mc_read.specs.declared.line.TheConstants.{BLOCK_LENGTH, DELTA, FLAGS, UNIQUE}
use Rattle.mc_read.specs.declared.without_block.Change.{Change}
use Rattle.mc_read.specs.declared.without_block.Change.TheVariants as change
use Rattle.mc_read.specs.Line.{Checks, StorageLine, asked, asked_by, asked_by_verb, asked_of_block, asked_of_cas, asked_of_change, asked_of_delete, asked_of_delta, asked_of_flush, asked_of_length, asked_of_name, asked_of_others, asked_of_retrieval, asked_of_storage, asked_after, asked_of_words, asked_unless, asked_with, asked_without_block, changed, check_and_set, exptime_checks, first_failure, refused, storage_checks, verb_named}
use Rattle.mc_read.specs.Sending.{IsLawfulCommand}
use Rattle.mc_read.specs.Text.{IsRequestText, ends_well, request_of, stored_if, storing}
use Rattle.mc_read.specs.Word.{is_noreply, is_word, words}
use Rattle.mc_read.proofs.Exptimes.{AllPassing, all_pass}

abbrev IsLawfulStorage : Storage → Type 0
IsLawfulStorage (Plain verb) = ⊤
IsLawfulStorage (CheckAndSet unique) = unique ≤ UNIQUE

-- a line that asks for a valid command, or for none
abbrev AsksLawfully : Asked → Type 0
AsksLawfully (LineOnly (Logged command quiet)) = IsLawfulCommand command
AsksLawfully (LineOnly (Local reply quiet)) = ⊤
AsksLawfully (LineOnly (Limit name limits quiet)) = ⊥
AsksLawfully (LineOnly Quit) = ⊤
AsksLawfully (LineOnly TooLong) = ⊤
AsksLawfully (RefusedBlock length refusal quiet) = ⊤
AsksLawfully (StoredBlock header) = IsTrue (is_lawful_key header.key) × (header.flags ≤ FLAGS) × (header.length ≤ DATA_BYTES) × IsLawfulStorage header.storage

-- a number, or 0 where there is none, is within its limit
pub within_limit : (limit : ℕ) (word : List ℕ) → unwrap_or (number_up_to limit word) 0 ≤ limit
within_limit limit word = by_test (is_numeral word && nat_le (digits_value 10 word) limit) refl
  where
    by_test : (test : Bool) → (is_numeral word && nat_le (digits_value 10 word) limit) ≡ test → unwrap_or (cond test (Some (digits_value 10 word)) None) 0 ≤ limit
    by_test true passes = leb-true (digits_value 10 word) limit (and_parts (is_numeral word) (nat_le (digits_value 10 word) limit) passes).1
    by_test false fails = omega arith

-- Storage lines.
module _ (line : StorageLine) (flags : unwrap_or line.flags 0 ≤ FLAGS) (storage : IsLawfulStorage (unwrap_or line.storage (Plain Set))) where
  asks_with : (length : ℕ) (failure : Option WireNo) → first_failure (storage_checks line length) ≡ failure → AsksLawfully (asked_with line length failure)
  asks_with length None none =
      let passing = all_pass (storage_checks line length) none in
      (passing.1.0, flags, leb-true length DATA_BYTES passing.1.1.1.1.1.1.0, storage)
  asks_with length (Some refusal) some = tt

  asks_of_length : (length : Option ℕ) → AsksLawfully (asked_of_length line length)
  asks_of_length None = tt
  asks_of_length (Some length) = asks_with length (first_failure (storage_checks line length)) refl

  asks_of_block : AsksLawfully (asked_of_block line)
  asks_of_block = asks_of_length (number_up_to BLOCK_LENGTH line.size)

asks_of_words : (storage : Option Storage) (key flags exptime size : List ℕ) (last : Option (List ℕ)) → IsLawfulStorage (unwrap_or storage (Plain Set)) → AsksLawfully (asked_of_words storage key flags exptime size last)
asks_of_words storage key flags exptime size last lawful =
    asks_of_block (record { storage = storage; key = key; flags = number_up_to FLAGS flags; exptime = exptime; size = size; last = last }) (within_limit FLAGS flags) lawful

asks_of_storage : (verb : Verb) (arguments : List (List ℕ)) → AsksLawfully (asked_of_storage verb arguments)
asks_of_storage verb [] = tt
asks_of_storage verb (key ∷ []) = tt
asks_of_storage verb (key ∷ flags ∷ []) = tt
asks_of_storage verb (key ∷ flags ∷ exptime ∷ []) = tt
asks_of_storage verb (key ∷ flags ∷ exptime ∷ size ∷ []) = asks_of_words (Some (Plain verb)) key flags exptime size None tt
asks_of_storage verb (key ∷ flags ∷ exptime ∷ size ∷ last ∷ []) = asks_of_words (Some (Plain verb)) key flags exptime size (Some last) tt
asks_of_storage verb (key ∷ flags ∷ exptime ∷ size ∷ last ∷ other ∷ others) = tt

lawful_unique : (unique : Option ℕ) → unwrap_or unique 0 ≤ UNIQUE → IsLawfulStorage (unwrap_or (option_map CheckAndSet unique) (Plain Set))
lawful_unique None within = tt
lawful_unique (Some unique) within = within

asks_of_cas : (arguments : List (List ℕ)) → AsksLawfully (asked_of_cas arguments)
asks_of_cas [] = tt
asks_of_cas (key ∷ []) = tt
asks_of_cas (key ∷ flags ∷ []) = tt
asks_of_cas (key ∷ flags ∷ exptime ∷ []) = tt
asks_of_cas (key ∷ flags ∷ exptime ∷ size ∷ []) = tt
asks_of_cas (key ∷ flags ∷ exptime ∷ size ∷ unique ∷ []) = asks_of_words (check_and_set unique) key flags exptime size None (lawful_unique (number_up_to UNIQUE unique) (within_limit UNIQUE unique))
asks_of_cas (key ∷ flags ∷ exptime ∷ size ∷ unique ∷ last ∷ []) = asks_of_words (check_and_set unique) key flags exptime size (Some last) (lawful_unique (number_up_to UNIQUE unique) (within_limit UNIQUE unique))
asks_of_cas (key ∷ flags ∷ exptime ∷ size ∷ unique ∷ last ∷ other ∷ others) = tt

-- Lines without a block.
asks_unless : (checks : Checks) (command : Command) (noreply : Bool) (failure : Option WireNo) → first_failure checks ≡ failure → (AllPassing checks → IsLawfulCommand command) → AsksLawfully (asked_unless failure command noreply)
asks_unless checks command noreply None none lawful = lawful (all_pass checks none)
asks_unless checks command noreply (Some refusal) some lawful = tt

asks_after : (checks : Checks) (command : Command) (noreply : Bool) → (AllPassing checks → IsLawfulCommand command) → AsksLawfully (asked_after checks command noreply)
asks_after checks command noreply lawful = asks_unless checks command noreply (first_failure checks) refl lawful

all_lawful : (keys : List (List ℕ)) → list_all is_lawful_key keys ≡ true → All (λ key. IsTrue (is_lawful_key key)) keys
all_lawful [] lawful = All-nil (λ k. IsTrue (is_lawful_key k))
all_lawful (key ∷ keys) lawful =
    let parts = and_parts (is_lawful_key key) (list_all is_lawful_key keys) lawful in
    All-cons (λ k. IsTrue (is_lawful_key k)) key keys parts.0 (all_lawful keys parts.1)

asks_of_retrieval : (uniques : Bool) (keys : List (List ℕ)) → AsksLawfully (asked_of_retrieval uniques keys)
asks_of_retrieval uniques [] = tt
asks_of_retrieval uniques (key ∷ keys) =
    asks_after ((list_all is_lawful_key (key ∷ keys), BAD_FORMAT) ∷ []) (Get (key ∷ keys) uniques) false (λ passing. (omega arith, all_lawful (key ∷ keys) passing.0))

asks_of_delete : (arguments : List (List ℕ)) → AsksLawfully (asked_of_delete arguments)
asks_of_delete [] = tt
asks_of_delete (key ∷ []) = asks_after ((is_lawful_key key, BAD_FORMAT) ∷ []) (Delete key) false (λ passing. passing.0)
asks_of_delete (key ∷ last ∷ []) =
    asks_after ((is_word last (codes "0") || is_noreply last, BAD_FORMAT) ∷ (is_lawful_key key, BAD_FORMAT) ∷ []) (Delete key) (is_noreply last) (λ passing. passing.1.0)
asks_of_delete (key ∷ time ∷ last ∷ []) =
    asks_after ((is_word time (codes "0"), BAD_FORMAT) ∷ (is_noreply last, BAD_FORMAT) ∷ (is_lawful_key key, BAD_FORMAT) ∷ []) (Delete key) true (λ passing. passing.1.1.0)
asks_of_delete (key ∷ time ∷ last ∷ other ∷ others) = tt

lawful_change : (change : Change) (key : List ℕ) (by : ℕ) → IsTrue (is_lawful_key key) → by ≤ DELTA → IsLawfulCommand (changed change key by)
lawful_change change.Incr key by lawful within = (lawful, omega (arith, within))
lawful_change change.Decr key by lawful within = (lawful, omega (arith, within))

asks_of_delta : (change : Change) (is_lawful : Bool) (key delta : List ℕ) (noreply : Bool) → AsksLawfully (asked_of_delta change is_lawful key (number_up_to DELTA delta) noreply)
asks_of_delta change is_lawful key delta noreply =
    asks_after ((is_lawful, BAD_FORMAT) ∷ (is_lawful_key key, BAD_FORMAT) ∷ (is_some (number_up_to DELTA delta), BAD_DELTA) ∷ []) (changed change key (unwrap_or (number_up_to DELTA delta) 0)) noreply
    (λ passing. lawful_change change key (unwrap_or (number_up_to DELTA delta) 0) passing.1.0 (within_limit DELTA delta))

asks_of_change : (change : Change) (arguments : List (List ℕ)) → AsksLawfully (asked_of_change change arguments)
asks_of_change change [] = tt
asks_of_change change (key ∷ []) = tt
asks_of_change change (key ∷ delta ∷ []) = asks_of_delta change true key delta false
asks_of_change change (key ∷ delta ∷ last ∷ []) = asks_of_delta change (is_noreply last) key delta true
asks_of_change change (key ∷ delta ∷ last ∷ other ∷ others) = tt

-- by a test, one of two lines that do
asks_either : (test : Bool) (a b : Asked) → AsksLawfully a → AsksLawfully b → AsksLawfully (cond test a b)
asks_either true a b first second = first
asks_either false a b first second = second

asks_of_flush : (arguments : List (List ℕ)) → AsksLawfully (asked_of_flush arguments)
asks_of_flush [] = tt
asks_of_flush (word ∷ []) = asks_either (is_noreply word) _ _ tt (asks_after (exptime_checks word) Flush false (λ passing. tt))
asks_of_flush (exptime ∷ last ∷ []) = asks_after ((is_noreply last, BAD_FORMAT) ∷ exptime_checks exptime) Flush true (λ passing. tt)
asks_of_flush (exptime ∷ last ∷ other ∷ others) = tt

asks_of_name : (request : Request) (arguments : List (List ℕ)) → AsksLawfully (LineOnly request) → AsksLawfully (asked_of_name request arguments)
asks_of_name request [] lawful = lawful
asks_of_name request (word ∷ words) lawful = tt

asks_of_others : (name : List ℕ) (arguments : List (List ℕ)) → AsksLawfully (asked_of_others name arguments)
asks_of_others name arguments =
    asks_either (is_word name (codes "delete")) _ _ (asks_of_delete arguments)
    (asks_either (is_word name (codes "flush_all")) _ _ (asks_of_flush arguments)
    (asks_either (is_word name (codes "version")) _ _ (asks_of_name (Local Version false) arguments tt)
    (asks_either (is_word name (codes "quit")) _ _ (asks_of_name Quit arguments tt) tt)))

asks_without_block : (name : List ℕ) (arguments : List (List ℕ)) → AsksLawfully (asked_without_block name arguments)
asks_without_block name arguments =
    asks_either (is_word name (codes "get")) _ _ (asks_of_retrieval false arguments)
    (asks_either (is_word name (codes "gets")) _ _ (asks_of_retrieval true arguments)
    (asks_either (is_word name (codes "incr")) _ _ (asks_of_change change.Incr arguments)
    (asks_either (is_word name (codes "decr")) _ _ (asks_of_change change.Decr arguments) (asks_of_others name arguments))))

asks_by_verb : (verb : Option Verb) (name : List ℕ) (arguments : List (List ℕ)) → AsksLawfully (asked_by_verb verb name arguments)
asks_by_verb (Some verb) name arguments = asks_of_storage verb arguments
asks_by_verb None name arguments = asks_either (is_word name (codes "cas")) _ _ (asks_of_cas arguments) (asks_without_block name arguments)

asks_by : (parts : List (List ℕ)) → AsksLawfully (asked_by parts)
asks_by [] = tt
asks_by (name ∷ arguments) = asks_by_verb (verb_named name) name arguments

-- Texts.
lawful_storing : (storage : Storage) (key : List ℕ) (flags : ℕ) (block : List ℕ) → IsTrue (is_lawful_key key) → flags ≤ FLAGS → length block ≤ DATA_BYTES → IsLawfulStorage storage → IsLawfulCommand (storing storage key flags block)
lawful_storing (Plain verb) key flags block lawful small short is = (lawful, omega (arith, small), omega (arith, short))
lawful_storing (CheckAndSet unique) key flags block lawful small short is = (lawful, omega (arith, small), omega (arith, short), omega (arith, is))

module _ (command : Command) (quiet : Bool) where
  never : (refusal : WireNo) (noreply : Bool) → refused refusal noreply ≡ Logged command quiet → ⊥
  never refusal noreply same = cc

  same_command : (other : Command) (noreply : Bool) → Logged other noreply ≡ Logged command quiet → other ≡ command
  same_command other noreply same = cc

  lawful_stored : (header : Header) (block : List ℕ) (is_whole : Bool) → stored_if is_whole header block ≡ Logged command quiet → length block ≤ header.length → AsksLawfully (StoredBlock header) → IsLawfulCommand command
  lawful_stored header block true is within lawful =
      subst IsLawfulCommand (same_command (storing header.storage header.key header.flags block) header.quiet is)
      (lawful_storing header.storage header.key header.flags block lawful.0 lawful.1 (omega (arith, within, lawful.2)) lawful.3)
  lawful_stored header block false is within lawful = absurd (never BAD_BLOCK header.quiet is)

  lawful_request : (a : Asked) (body : List ℕ) → AsksLawfully a → request_of a body ≡ Logged command quiet → IsLawfulCommand command
  lawful_request (LineOnly request) body lawful is = subst (λ r. AsksLawfully (LineOnly r)) is lawful
  lawful_request (RefusedBlock size refusal noreply) body lawful is = absurd (never refusal noreply is)
  lawful_request (StoredBlock header) body lawful is =
      lawful_stored header (take header.length body) (ends_well (drop header.length body)) is (omega (arith, length-take header.length body)) lawful

  pub lawful_text : (text : List ℕ) → IsRequestText asked text (Logged command quiet) → IsLawfulCommand command
  lawful_text text (inl is) = lawful_request (asked is.line) is.body (asks_by (words is.line)) (sym is.is_asked)
  lawful_text text (inr is) = absurd (no_command_is_long is.is_too_long)
    where
      no_command_is_long : Logged command quiet ≡ TooLong → ⊥
      no_command_is_long same = cc

-- No line of a tenant's asks for quotas to be set.
module _ (name : List ℕ) (limits : Limits) (quiet : Bool) where
  none_stored : (header : Header) (block : List ℕ) (is_whole : Bool) → stored_if is_whole header block ≡ Limit name limits quiet → ⊥
  none_stored header block true is = cc
  none_stored header block false is = cc

  none_asked : (a : Asked) (body : List ℕ) → AsksLawfully a → request_of a body ≡ Limit name limits quiet → ⊥
  none_asked (LineOnly request) body lawful is = subst (λ r. AsksLawfully (LineOnly r)) is lawful
  none_asked (RefusedBlock size refusal noreply) body lawful is = cc
  none_asked (StoredBlock header) body lawful is = none_stored header (take header.length body) (ends_well (drop header.length body)) is

  pub no_setting : (text : List ℕ) → IsRequestText asked text (Limit name limits quiet) → ⊥
  no_setting text (inl is) = none_asked (asked is.line) is.body (asks_by (words is.line)) (sym is.is_asked)
  no_setting text (inr is) = no_long is.is_too_long
    where
      no_long : Limit name limits quiet ≡ TooLong → ⊥
      no_long same = cc
