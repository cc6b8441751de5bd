-- A command that is read is that of its line's words.
use Rattle.std.proofs.Common.{◌≡◌, ℕ, Bool, true, false, ◌&&◌, ◌||◌, cond, nat_le, List, [], ◌∷◌, ◌++◌, length, take, drop, Option, Some, None, IfSome, is_some, unwrap_or, option_map, codes, inl, inr, refl, sym, ◌∙◌, ap, subst, true≢false, arith, suc}
use Rattle.std.proofs.lemmas.List.{length-take-le, take-append-drop}
use Rattle.std.proofs.lemmas.Option.{none-some, same_Some}
use Rattle.std.specs.Cmp.Lexicographic.{bytes_decides}
use Rattle.std.specs.List.{list_all}
use Rattle.std.specs.Prelude.{⊤}
use Rattle.std.specs.Str.Parse.{digits_value}
use Rattle.mc_model.specs.declared.command.Command.{Command}
use Rattle.mc_model.specs.declared.command.Command.TheVariants.{Delete, Flush, Get}
use Rattle.mc_model.specs.declared.command.Verb.{Verb}
use Rattle.mc_model.specs.declared.command.Verb.TheVariants.{Add, Append, Prepend, Replace, Set}
use Rattle.mc_model.specs.declared.reply.Reply.{Reply}
use Rattle.mc_model.specs.declared.reply.Reply.TheVariants.{Refused, Version}
use Rattle.mc_model.specs.declared.reply.TheConstants.WireNo.{BAD_DELTA, BAD_FORMAT}
use Rattle.mc_model.specs.declared.reply.WireNo.{WireNo}
use Rattle.mc_model.specs.declared.request.Request.{Request}
use Rattle.mc_model.specs.declared.request.Request.TheVariants.{Limit, Local, Logged, Quit, TooLong}
use Rattle.mc_model.specs.Key.{is_lawful_key}
use Rattle.mc_model.specs.Number.{is_numeral, number_up_to}
use Rattle.model_lemmas.proofs.NumberTests.{number_test}
use Rattle.mc_laws.specs.Lines.{IsExptimeOf, IsLineOf, SpellsNumber}
use Rattle.mc_read.specs.declared.line.Asked.{Asked}
use Rattle.mc_read.specs.declared.line.Asked.TheVariants.{LineOnly, RefusedBlock, StoredBlock}
use Rattle.mc_read.specs.declared.line.Header.{Header}
use Rattle.mc_read.specs.declared.line.Storage.{Storage}
use Rattle.mc_read.specs.declared.line.Storage.TheVariants.{CheckAndSet, Plain}
use Rattle.mc_read.specs.declared.line.TheConstants.{BLOCK_LENGTH, DELTA, FLAGS, UNIQUE}
use Rattle.mc_read.specs.declared.without_block.Change.{Change}
use Rattle.mc_read.specs.declared.without_block.Change.TheVariants as change
use Rattle.mc_read.specs.Line.{Checks, StorageLine, asked, asked_after, asked_by, asked_by_verb, asked_of_block, asked_of_cas, asked_of_change, asked_of_delete, asked_of_delta, asked_of_flush, asked_of_length, asked_of_name, asked_of_others, asked_of_retrieval, asked_of_storage, asked_of_words, asked_unless, asked_with, asked_without_block, changed, ends_in_noreply, exptime_checks, first_failure, ignores_exptime, storage_checks, verb_named}
use Rattle.mc_read.specs.Sending.{block_sent, noreply_if, verb_name}
use Rattle.mc_read.specs.Text.{IsRequestText, IsUnbroken, body_length, ends_well, request_of, stored_if, storing}
use Rattle.mc_read.specs.Word.{is_exptime, is_noreply, is_word, is_zero, words}

-- What passes a test.
-- a word that is read as a number spells it
pub spelled_by : (limit : ℕ) (word : List ℕ) (number : ℕ) → number_up_to limit word ≡ Some number → SpellsNumber word number
spelled_by limit word number = by_test (is_numeral word && nat_le (digits_value 10 word) limit) refl
  where
    by_test : (test : Bool) → (is_numeral word && nat_le (digits_value 10 word) limit) ≡ test → cond test (Some (digits_value 10 word)) None ≡ Some number → SpellsNumber word number
    by_test true passes is = (((number_test limit word).0 passes).0, same_Some _ _ is)
    by_test false fails is = absurd (none-some number is)

spelled : (limit : ℕ) (word : List ℕ) → is_some (number_up_to limit word) ≡ true → SpellsNumber word (unwrap_or (number_up_to limit word) 0)
spelled limit word = by_found (number_up_to limit word) refl
  where
    by_found : (found : Option ℕ) → number_up_to limit word ≡ found → is_some found ≡ true → SpellsNumber word (unwrap_or found 0)
    by_found None is some = absurd (true≢false (sym some))
    by_found (Some number) is some = spelled_by limit word number is

pub same_word : (word name : List ℕ) → is_word word name ≡ true → word ≡ name
same_word word name is = (bytes_decides word name).0 is

pub says_noreply : (word : List ℕ) → is_noreply word ≡ true → word ∷ [] ≡ codes "noreply" ∷ []
says_noreply word is = ap (λ w. w ∷ []) (same_word word (codes "noreply") is)

left_of_or : (a : Bool) → (a || false) ≡ true → a ≡ true
left_of_or true passes = refl
left_of_or false passes = passes

-- each check passes, which is so where nothing is refused
abbrev pub AllPassing : Checks → Type 0
AllPassing [] = ⊤
AllPassing (check ∷ checks) = (check.0 ≡ true) × AllPassing checks

all_pass : (checks : Checks) → first_failure checks ≡ None → AllPassing checks
all_pass [] none = tt
all_pass ((true, refusal) ∷ checks) none = (refl, all_pass checks none)
all_pass ((false, refusal) ∷ checks) none = absurd (none-some refusal (sym none))

-- what is answered without the log is a refusal, of any words, or the version to that one word
abbrev pub IsTold : List (List ℕ) → Reply → Bool → Type 0
IsTold parts (Refused refusal) quiet = ⊤
IsTold parts Version quiet = (parts ≡ codes "version" ∷ []) × (quiet ≡ false)
IsTold parts other quiet = ⊥

-- a request is that of these words and this body
abbrev IsOwn : List (List ℕ) → List ℕ → Request → Type 0
IsOwn parts body (Logged command quiet) = IsLineOf command quiet parts body
IsOwn parts body (Local reply quiet) = IsTold parts reply quiet
IsOwn parts body (Limit name limits quiet) = ⊥
IsOwn parts body Quit = parts ≡ codes "quit" ∷ []
IsOwn parts body TooLong = ⊥

-- so is what a line with these words asks for
abbrev Asks : List (List ℕ) → Asked → Type 0
Asks parts (LineOnly request) = IsOwn parts [] request
Asks parts (RefusedBlock size refusal quiet) = ⊤
Asks parts (StoredBlock header) =
    (block : List ℕ) → length block ≡ header.length → IsLineOf (storing header.storage header.key header.flags block) header.quiet parts (block_sent block)

-- Storage lines.
module _ (parts : List (List ℕ)) (line : StorageLine) (says : (size : ℕ) → SpellsNumber line.size size → AllPassing (storage_checks line size) → Asks parts (asked_with line size None)) where
  asks_with : (size : ℕ) → SpellsNumber line.size size → (failure : Option WireNo) → first_failure (storage_checks line size) ≡ failure → Asks parts (asked_with line size failure)
  asks_with size sized None none = says size sized (all_pass (storage_checks line size) none)
  asks_with size sized (Some refusal) some = tt

  asks_of_length : (size : Option ℕ) → number_up_to BLOCK_LENGTH line.size ≡ size → Asks parts (asked_of_length line size)
  asks_of_length None none = tt
  asks_of_length (Some size) is = asks_with size (spelled_by BLOCK_LENGTH line.size size is) (first_failure (storage_checks line size)) refl

  asks_of_block : Asks parts (asked_of_block line)
  asks_of_block = asks_of_length (number_up_to BLOCK_LENGTH line.size) refl

exptime_of : (verb : Verb) (exptime : List ℕ) → is_exptime exptime ≡ true → (ignores_exptime (Some (Plain verb)) || is_zero exptime) ≡ true → IsExptimeOf verb exptime
exptime_of Set exptime is passes = (is, passes)
exptime_of Add exptime is passes = (is, passes)
exptime_of Replace exptime is passes = (is, passes)
exptime_of Append exptime is passes = is
exptime_of Prepend exptime is passes = is

module _ (key digits exptime size : List ℕ) (more : List (List ℕ)) (last : Option (List ℕ)) (ends : ends_in_noreply last ≡ true → more ≡ noreply_if (is_some last)) where
  abbrev line_of : Option Storage → StorageLine
  line_of storage = record { storage = storage; key = key; flags = number_up_to FLAGS digits; exptime = exptime; size = size; last = last }

  asks_of_verb : (verb : Verb) → Asks (verb_name verb ∷ key ∷ digits ∷ exptime ∷ size ∷ more) (asked_of_words (Some (Plain verb)) key digits exptime size last)
  asks_of_verb verb =
      asks_of_block (verb_name verb ∷ key ∷ digits ∷ exptime ∷ size ∷ more) (line_of (Some (Plain verb)))
      (λ long sized passing block is. (
        digits,
        exptime,
        size,
        ap (λ m. verb_name verb ∷ key ∷ digits ∷ exptime ∷ size ∷ m) (ends passing.0),
        spelled FLAGS digits passing.1.1.0,
        exptime_of verb exptime passing.1.1.1.0 passing.1.1.1.1.1.0,
        subst (SpellsNumber size) (sym is) sized,
        refl,
      ))

  module _ (seen : List ℕ) where
    asks_of_unique : (unique : Option ℕ) → number_up_to UNIQUE seen ≡ unique → Asks (codes "cas" ∷ key ∷ digits ∷ exptime ∷ size ∷ seen ∷ more) (asked_of_words (option_map CheckAndSet unique) key digits exptime size last)
    asks_of_unique None none =
        asks_of_block (codes "cas" ∷ key ∷ digits ∷ exptime ∷ size ∷ seen ∷ more) (line_of None) (λ long sized passing. absurd (true≢false (sym passing.1.1.1.1.0)))
    asks_of_unique (Some unique) is_unique =
        asks_of_block (codes "cas" ∷ key ∷ digits ∷ exptime ∷ size ∷ seen ∷ more) (line_of (Some (CheckAndSet unique)))
        (λ long sized passing block is. (
          digits,
          exptime,
          size,
          seen,
          ap (λ m. codes "cas" ∷ key ∷ digits ∷ exptime ∷ size ∷ seen ∷ m) (ends passing.0),
          spelled FLAGS digits passing.1.1.0,
          (passing.1.1.1.0, passing.1.1.1.1.1.0),
          subst (SpellsNumber size) (sym is) sized,
          spelled_by UNIQUE seen unique is_unique,
          refl,
        ))

asks_of_storage : (verb : Verb) (arguments : List (List ℕ)) → Asks (verb_name verb ∷ arguments) (asked_of_storage verb arguments)
asks_of_storage verb [] = tt
asks_of_storage verb (key ∷ []) = tt
asks_of_storage verb (key ∷ flags ∷ []) = tt
asks_of_storage verb (key ∷ flags ∷ exptime ∷ []) = tt
asks_of_storage verb (key ∷ flags ∷ exptime ∷ size ∷ []) = asks_of_verb key flags exptime size [] None (λ ends. refl) verb
asks_of_storage verb (key ∷ flags ∷ exptime ∷ size ∷ last ∷ []) = asks_of_verb key flags exptime size (last ∷ []) (Some last) (says_noreply last) verb
asks_of_storage verb (key ∷ flags ∷ exptime ∷ size ∷ last ∷ other ∷ others) = tt

asks_of_cas : (arguments : List (List ℕ)) → Asks (codes "cas" ∷ arguments) (asked_of_cas arguments)
asks_of_cas [] = tt
asks_of_cas (key ∷ []) = tt
asks_of_cas (key ∷ flags ∷ []) = tt
asks_of_cas (key ∷ flags ∷ exptime ∷ []) = tt
asks_of_cas (key ∷ flags ∷ exptime ∷ size ∷ []) = tt
asks_of_cas (key ∷ flags ∷ exptime ∷ size ∷ unique ∷ []) = asks_of_unique key flags exptime size [] None (λ ends. refl) unique (number_up_to UNIQUE unique) refl
asks_of_cas (key ∷ flags ∷ exptime ∷ size ∷ unique ∷ last ∷ []) = asks_of_unique key flags exptime size (last ∷ []) (Some last) (says_noreply last) unique (number_up_to UNIQUE unique) refl
asks_of_cas (key ∷ flags ∷ exptime ∷ size ∷ unique ∷ last ∷ other ∷ others) = tt

-- Lines without a block.
module _ (parts : List (List ℕ)) where
  asks_unless : (checks : Checks) (command : Command) (noreply : Bool) → (AllPassing checks → IsLineOf command noreply parts []) → (failure : Option WireNo) → first_failure checks ≡ failure → Asks parts (asked_unless failure command noreply)
  asks_unless checks command noreply says None none = says (all_pass checks none)
  asks_unless checks command noreply says (Some refusal) some = tt

  asks_after : (checks : Checks) (command : Command) (noreply : Bool) → (AllPassing checks → IsLineOf command noreply parts []) → Asks parts (asked_after checks command noreply)
  asks_after checks command noreply says = asks_unless checks command noreply says (first_failure checks) refl

asks_of_retrieval : (uniques : Bool) (keys : List (List ℕ)) → Asks (cond uniques (codes "gets") (codes "get") ∷ keys) (asked_of_retrieval uniques keys)
asks_of_retrieval uniques [] = tt
asks_of_retrieval uniques (key ∷ keys) =
    asks_after (cond uniques (codes "gets") (codes "get") ∷ key ∷ keys) ((list_all is_lawful_key (key ∷ keys), BAD_FORMAT) ∷ []) (Get (key ∷ keys) uniques) false (λ passing. (refl, refl, refl))

last_of_delete : (key last : List ℕ) (noreply : Bool) → is_noreply last ≡ noreply → (is_word last (codes "0") || noreply) ≡ true → IsLineOf (Delete key) noreply (codes "delete" ∷ key ∷ last ∷ []) []
last_of_delete key last true is passes = (inl (ap (λ m. codes "delete" ∷ key ∷ m) (says_noreply last is)), refl)
last_of_delete key last false is passes = (inr (ap (λ w. codes "delete" ∷ key ∷ w ∷ []) (same_word last (codes "0") (left_of_or _ passes))), refl)

asks_of_delete : (arguments : List (List ℕ)) → Asks (codes "delete" ∷ arguments) (asked_of_delete arguments)
asks_of_delete [] = tt
asks_of_delete (key ∷ []) = asks_after (codes "delete" ∷ key ∷ []) ((is_lawful_key key, BAD_FORMAT) ∷ []) (Delete key) false (λ passing. (inl refl, refl))
asks_of_delete (key ∷ last ∷ []) =
    asks_after (codes "delete" ∷ key ∷ last ∷ []) ((is_word last (codes "0") || is_noreply last, BAD_FORMAT) ∷ (is_lawful_key key, BAD_FORMAT) ∷ []) (Delete key) (is_noreply last)
    (λ passing. last_of_delete key last (is_noreply last) refl passing.0)
asks_of_delete (key ∷ time ∷ last ∷ []) =
    asks_after (codes "delete" ∷ key ∷ time ∷ last ∷ []) ((is_word time (codes "0"), BAD_FORMAT) ∷ (is_noreply last, BAD_FORMAT) ∷ (is_lawful_key key, BAD_FORMAT) ∷ []) (Delete key) true
    (λ passing. (
      inr (ap (λ w. codes "delete" ∷ key ∷ w ∷ last ∷ []) (same_word time (codes "0") passing.0) ∙ ap (λ m. codes "delete" ∷ key ∷ codes "0" ∷ m) (says_noreply last passing.1.0)),
      refl,
    ))
asks_of_delete (key ∷ time ∷ last ∷ other ∷ others) = tt

abbrev pub change_name : Change → List ℕ
change_name change.Incr = codes "incr"
change_name change.Decr = codes "decr"

line_of_change : (change : Change) (key delta : List ℕ) (more : List (List ℕ)) (by : ℕ) (noreply : Bool) → more ≡ noreply_if noreply → SpellsNumber delta by →
    IsLineOf (changed change key by) noreply (change_name change ∷ key ∷ delta ∷ more) []
line_of_change change.Incr key delta more by noreply ends is = (delta, ap (λ m. codes "incr" ∷ key ∷ delta ∷ m) ends, is, refl)
line_of_change change.Decr key delta more by noreply ends is = (delta, ap (λ m. codes "decr" ∷ key ∷ delta ∷ m) ends, is, refl)

asks_of_delta : (change : Change) (is_lawful : Bool) (key delta : List ℕ) (more : List (List ℕ)) (noreply : Bool) → (is_lawful ≡ true → more ≡ noreply_if noreply) →
    Asks (change_name change ∷ key ∷ delta ∷ more) (asked_of_delta change is_lawful key (number_up_to DELTA delta) noreply)
asks_of_delta change is_lawful key delta more noreply ends =
    asks_after (change_name change ∷ key ∷ delta ∷ more) ((is_lawful, BAD_FORMAT) ∷ (is_lawful_key key, BAD_FORMAT) ∷ (is_some (number_up_to DELTA delta), BAD_DELTA) ∷ [])
    (changed change key (unwrap_or (number_up_to DELTA delta) 0)) noreply
    (λ passing. line_of_change change key delta more (unwrap_or (number_up_to DELTA delta) 0) noreply (ends passing.0) (spelled DELTA delta passing.1.1.0))

asks_of_change : (change : Change) (arguments : List (List ℕ)) → Asks (change_name change ∷ arguments) (asked_of_change change arguments)
asks_of_change change [] = tt
asks_of_change change (key ∷ []) = tt
asks_of_change change (key ∷ delta ∷ []) = asks_of_delta change true key delta [] false (λ ends. refl)
asks_of_change change (key ∷ delta ∷ last ∷ []) = asks_of_delta change (is_noreply last) key delta (last ∷ []) true (says_noreply last)
asks_of_change change (key ∷ delta ∷ last ∷ other ∷ others) = tt

asks_of_time : (word : List ℕ) (noreply : Bool) → is_noreply word ≡ noreply → Asks (codes "flush_all" ∷ word ∷ []) (cond noreply (asked_after [] Flush true) (asked_after (exptime_checks word) Flush false))
asks_of_time word true is = (inl (ap (λ m. codes "flush_all" ∷ m) (says_noreply word is)), refl)
asks_of_time word false is = asks_after (codes "flush_all" ∷ word ∷ []) (exptime_checks word) Flush false (λ passing. (inr (word, refl, (passing.0, passing.1.0)), refl))

asks_of_flush : (arguments : List (List ℕ)) → Asks (codes "flush_all" ∷ arguments) (asked_of_flush arguments)
asks_of_flush [] = (inl refl, refl)
asks_of_flush (word ∷ []) = asks_of_time word (is_noreply word) refl
asks_of_flush (exptime ∷ last ∷ []) =
    asks_after (codes "flush_all" ∷ exptime ∷ last ∷ []) ((is_noreply last, BAD_FORMAT) ∷ exptime_checks exptime) Flush true
    (λ passing. (inr (exptime, ap (λ m. codes "flush_all" ∷ exptime ∷ m) (says_noreply last passing.0), (passing.1.0, passing.1.1.0)), refl))
asks_of_flush (exptime ∷ last ∷ other ∷ others) = tt

asks_of_name : (name : List ℕ) (request : Request) (arguments : List (List ℕ)) → Asks (name ∷ []) (LineOnly request) → Asks (name ∷ arguments) (asked_of_name request arguments)
asks_of_name name request [] asks = asks
asks_of_name name request (word ∷ others) asks = tt

-- All lines, by their names.
module _ (name : List ℕ) (arguments : List (List ℕ)) where
  by_name : (known : List ℕ) (a b : Asked) → Asks (known ∷ arguments) a → Asks (name ∷ arguments) b → Asks (name ∷ arguments) (cond (is_word name known) a b)
  by_name known a b same other = by_test (is_word name known) refl
    where
      by_test : (test : Bool) → is_word name known ≡ test → Asks (name ∷ arguments) (cond test a b)
      by_test true is = subst (λ n. Asks (n ∷ arguments) a) (sym (same_word name known is)) same
      by_test false is = other

  asks_of_others : Asks (name ∷ arguments) (asked_of_others name arguments)
  asks_of_others =
      by_name (codes "delete") _ _ (asks_of_delete arguments)
      (by_name (codes "flush_all") _ _ (asks_of_flush arguments)
      (by_name (codes "version") _ _ (asks_of_name (codes "version") (Local Version false) arguments (refl, refl))
      (by_name (codes "quit") _ _ (asks_of_name (codes "quit") Quit arguments refl) tt)))

  asks_without_block : Asks (name ∷ arguments) (asked_without_block name arguments)
  asks_without_block =
      by_name (codes "get") _ _ (asks_of_retrieval false arguments)
      (by_name (codes "gets") _ _ (asks_of_retrieval true arguments)
      (by_name (codes "incr") _ _ (asks_of_change change.Incr arguments)
      (by_name (codes "decr") _ _ (asks_of_change change.Decr arguments) asks_of_others)))

  by_verb : (verb : Verb) (rest : Option Verb) → IfSome rest (λ v. name ≡ verb_name v) → IfSome (cond (is_word name (verb_name verb)) (Some verb) rest) (λ v. name ≡ verb_name v)
  by_verb verb rest other = by_test (is_word name (verb_name verb)) refl
    where
      by_test : (test : Bool) → is_word name (verb_name verb) ≡ test → IfSome (cond test (Some verb) rest) (λ v. name ≡ verb_name v)
      by_test true is = same_word name (verb_name verb) is
      by_test false is = other

  named : IfSome (verb_named name) (λ v. name ≡ verb_name v)
  named = by_verb Set _ (by_verb Add _ (by_verb Replace _ (by_verb Append _ (by_verb Prepend None tt))))

  asks_by_verb : (verb : Option Verb) → IfSome verb (λ v. name ≡ verb_name v) → Asks (name ∷ arguments) (asked_by_verb verb name arguments)
  asks_by_verb (Some verb) same = subst (λ n. Asks (n ∷ arguments) (asked_of_storage verb arguments)) (sym same) (asks_of_storage verb arguments)
  asks_by_verb None same = by_name (codes "cas") _ _ (asks_of_cas arguments) asks_without_block

asks_by : (parts : List (List ℕ)) → Asks parts (asked_by parts)
asks_by [] = tt
asks_by (name ∷ arguments) = asks_by_verb name arguments (verb_named name) (named name arguments)

-- what is asked for without a block is that of the line's words
module _ (line : List ℕ) where
  pub quit_line : asked line ≡ LineOnly Quit → words line ≡ codes "quit" ∷ []
  quit_line is = subst (Asks (words line)) is (asks_by (words line))

  pub told_line : (reply : Reply) (quiet : Bool) → asked line ≡ LineOnly (Local reply quiet) → IsTold (words line) reply quiet
  told_line reply quiet is = subst (Asks (words line)) is (asks_by (words line))

  pub no_long_line : asked line ≡ LineOnly TooLong → ⊥
  no_long_line is = subst (Asks (words line)) is (asks_by (words line))

-- Texts.
-- two lines without a line feed that begin the same text are the same, and so are their bodies
pub same_line : (line body own rest : List ℕ) → IsUnbroken line → IsUnbroken own → line ++ 10 ∷ body ≡ own ++ 10 ∷ rest → (own ≡ line) × (rest ≡ body)
same_line [] body [] rest unbroken own_unbroken same = (refl, cc)
same_line [] body (byte ∷ own) rest unbroken own_unbroken same = let feed : byte ≡ 10 = cc in absurd (own_unbroken 0 0 (omega arith) feed)
same_line (byte ∷ line) body [] rest unbroken own_unbroken same = let feed : byte ≡ 10 = cc in absurd (unbroken 0 0 (omega arith) feed)
same_line (byte ∷ line) body (other ∷ own) rest unbroken own_unbroken same =
    let first : other ≡ byte = cc in let behind : line ++ 10 ∷ body ≡ own ++ 10 ∷ rest = cc in
    let parts = same_line line body own rest (λ k d inside. unbroken (suc k) d (omega arith)) (λ k d inside. own_unbroken (suc k) d (omega arith)) behind in
    (λ i. first i ∷ parts.0 i, parts.1)

module _ (parts : List (List ℕ)) (command : Command) (quiet : Bool) where
  line_of_stored : (header : Header) (block : List ℕ) (is_whole : Bool) → stored_if is_whole header block ≡ Logged command quiet → length block ≡ header.length → Asks parts (StoredBlock header) →
      (is_whole ≡ true) × IsLineOf command quiet parts (block_sent block)
  line_of_stored header block true is long asks = (refl, subst (IsOwn parts (block_sent block)) is (asks block long))
  line_of_stored header block false is long asks = cc

  line_of_request : (a : Asked) (body : List ℕ) → Asks parts a → length body ≡ body_length a → request_of a body ≡ Logged command quiet → IsLineOf command quiet parts body
  line_of_request (LineOnly request) body asks whole is =
      subst (IsLineOf command quiet parts) (sym (none body whole)) (subst (IsOwn parts []) is asks)
    where
      none : (bytes : List ℕ) → length bytes ≡ 0 → bytes ≡ []
      none [] is_none = refl
      none (byte ∷ bytes) is_none = absurd (omega (arith, is_none))
  line_of_request (RefusedBlock size refusal noreply) body asks whole is = cc
  line_of_request (StoredBlock header) body asks whole is =
      let stored = line_of_stored header (take header.length body) (ends_well (drop header.length body)) is (length-take-le header.length body (omega (arith, whole))) asks in
      let end : drop header.length body ≡ codes "\r\n" = same_word (drop header.length body) (codes "\r\n") stored.0 in
      subst (IsLineOf command quiet parts) (ap (λ bytes. take header.length body ++ bytes) (sym end) ∙ take-append-drop header.length body) stored.1

pub line_of_text : (line body : List ℕ) (command : Command) (quiet : Bool) → IsUnbroken line → IsRequestText asked (line ++ 10 ∷ body) (Logged command quiet) → IsLineOf command quiet (words line) body
line_of_text line body command quiet unbroken (inl is) =
    let same = same_line line body is.line is.body unbroken is.unbroken is.in_text in
    let found = line_of_request (words is.line) command quiet (asked is.line) is.body (asks_by (words is.line)) is.whole (sym is.is_asked) in
    subst (λ bytes. IsLineOf command quiet (words line) bytes) same.1 (subst (λ bytes. IsLineOf command quiet (words bytes) is.body) same.0 found)
line_of_text line body command quiet unbroken (inr is) = absurd (never is.is_too_long)
  where
    never : Logged command quiet ≡ TooLong → ⊥
    never same = cc
