-- A line whose words are those of a valid command is read as that command.
use Rattle.std.proofs.Common.{◌≡◌, ℕ, zero, suc, ◌<◌, ◌≤◌, ◌^◌, Bool, true, false, ◌||◌, cond, List, [], ◌∷◌, ◌++◌, length, Option, Some, None, is_some, unwrap_or, option_map, codes, inl, inr, refl, sym, ◌∙◌, ap, subst, true≢false, arith}
use Rattle.std.proofs.lemmas.Bool.{and_from, cond-false, cond-true, false_from_ne_true, le-leb}
use Rattle.std.proofs.lemmas.List.{drop_at, length-append, take_at}
use Rattle.std.specs.List.{All, list_all}
use Rattle.std.specs.Prelude.{IsTrue}
use Rattle.mc_model.specs.declared.command.Command.{Command}
use Rattle.mc_model.specs.declared.command.Command.TheVariants.{Cas, Decr, Delete, Flush, Get, Incr, Store}
use Rattle.mc_model.specs.declared.command.Command.TheVariants as commands
use Rattle.mc_model.specs.declared.command.Verb.{Verb}
use Rattle.mc_model.specs.declared.command.Verb.TheVariants.{Add, Append, Prepend, Replace, Set}
use Rattle.mc_model.specs.declared.item.TheConstants.{DATA_BYTES}
use Rattle.mc_model.specs.declared.request.Request.{Request}
use Rattle.mc_model.specs.declared.request.Request.TheVariants.{Limit, Logged}
use Rattle.mc_model.specs.declared.settings.Limits.{Limits}
use Rattle.mc_model.specs.declared.settings.TheConstants.{MAX_BYTES, MAX_ITEMS}
use Rattle.mc_model.specs.Key.{is_lawful_key}
use Rattle.mc_model.specs.Name.{is_lawful_name}
use Rattle.mc_model.specs.Number.{number_up_to}
use Rattle.mc_model.specs.Settings.{AreLawfulLimits, both_quotas, limits_named, positive}
use Rattle.model_lemmas.proofs.NumberTests.{number_up_to-some}
use Rattle.mc_laws.proofs.LineWords.{AllPassing, same_word}
use Rattle.mc_laws.specs.Lines.{IsExptimeOf, IsLimitLineOf, IsLineOf, IsZeroExptime, SpellsNumber}
use Rattle.mc_read.specs.declared.line.Asked.{Asked}
use Rattle.mc_read.specs.declared.line.Asked.TheVariants.{LineOnly, StoredBlock}
use Rattle.mc_read.specs.declared.line.Storage.{Storage}
use Rattle.mc_read.specs.declared.line.Storage.TheVariants.{CheckAndSet, Plain}
use Rattle.mc_read.specs.declared.line.TheConstants.{BLOCK_LENGTH, DELTA, FLAGS, UNIQUE}
use Rattle.mc_read.specs.declared.without_block.Change.{Change}
use Rattle.mc_read.specs.declared.without_block.Change.TheVariants as change
use Rattle.mc_read.specs.Administering.{asked_by_admin, asked_of_admin, asked_of_quotas, asked_of_setting}
use Rattle.mc_read.specs.Line.{Checks, StorageLine, asked, asked_after, asked_by, asked_of_cas, asked_of_change, asked_of_delta, asked_of_length, asked_of_retrieval, asked_of_storage, asked_of_words, asked_unless, asked_with, changed, check_and_set, ends_in_noreply, exptime_checks, first_failure, ignores_exptime, malformed, storage_checks}
use Rattle.mc_read.specs.Sending.{IsLawfulCommand, block_sent, noreply_if, verb_name}
use Rattle.mc_read.specs.Text.{IsRequestText, IsUnbroken, Lines, body_length, ends_well, request_of, stored_if, stored_request, storing}
use Rattle.mc_read.specs.Word.{is_exptime, is_noreply, is_zero, words}

-- What passes.
number_of : (limit : ℕ) (word : List ℕ) (number : ℕ) → SpellsNumber word number → number ≤ limit → number_up_to limit word ≡ Some number
number_of limit word number spells within = number_up_to-some limit word (spells.0, omega (arith, spells.1, within)) ∙ ap (λ (n : ℕ). Some n) spells.1

none_fails : (checks : Checks) → AllPassing checks → first_failure checks ≡ None
none_fails [] passing = refl
none_fails (check ∷ checks) passing = cond-true _ _ _ passing.0 ∙ none_fails checks passing.1

-- Storage lines.
module _ (storage : Option Storage) (how : Storage) (key digits exptime size : List ℕ) (last : Option (List ℕ)) (flags long : ℕ) where
  abbrev line_of : StorageLine
  line_of = record { storage = storage; key = key; flags = number_up_to FLAGS digits; exptime = exptime; size = size; last = last }

  stored_by : storage ≡ Some how → SpellsNumber digits flags → flags < 2 ^ 32 → SpellsNumber size long → long ≤ 1048576 → ends_in_noreply last ≡ true → is_lawful_key key ≡ true → is_exptime exptime ≡ true →
      (ignores_exptime (Some how) || is_zero exptime) ≡ true →
      asked_of_words storage key digits exptime size last ≡ StoredBlock (record { length = long; storage = how; key = key; flags = flags; quiet = is_some last })
  stored_by is_how spells small sized few ends lawful is ignored =
      let are_flags = number_of FLAGS digits flags spells (omega (arith, small)) in
      let is_size = number_of BLOCK_LENGTH size long sized (omega (arith, few)) in
      let passing : AllPassing (storage_checks line_of long) = (
        ends,
        (lawful, (ap (λ (o : Option ℕ). is_some o) are_flags, (is, (ap (λ (o : Option Storage). is_some o) is_how, (ap (λ (o : Option Storage). ignores_exptime o || is_zero exptime) is_how ∙ ignored, (le-leb long DATA_BYTES (omega (arith, few)), tt)))))),
      ) in
      ap (asked_of_length line_of) is_size
      ∙ (ap (asked_with line_of long) (none_fails (storage_checks line_of long) passing)
      ∙ (λ i. StoredBlock (record { length = long; storage = unwrap_or (is_how i) (Plain Set); key = key; flags = unwrap_or (are_flags i) 0; quiet = is_some last })))

-- a block with its end is stored
block_stored : (storage : Storage) (key : List ℕ) (flags : ℕ) (block : List ℕ) (quiet : Bool) →
    stored_request (record { length = length block; storage = storage; key = key; flags = flags; quiet = quiet }) (block_sent block) ≡ Logged (storing storage key flags block) quiet
block_stored storage key flags block quiet = λ i.
    stored_if (ends_well (drop_at block (13 ∷ 10 ∷ []) (length block) refl i)) (record { length = length block; storage = storage; key = key; flags = flags; quiet = quiet })
    (take_at block (13 ∷ 10 ∷ []) (length block) refl i)

pub name_asked : (verb : Verb) (arguments : List (List ℕ)) → asked_by (verb_name verb ∷ arguments) ≡ asked_of_storage verb arguments
name_asked Set arguments = refl
name_asked Add arguments = refl
name_asked Replace arguments = refl
name_asked Append arguments = refl
name_asked Prepend arguments = refl

exptime_passes : (verb : Verb) (exptime : List ℕ) → IsExptimeOf verb exptime → (is_exptime exptime ≡ true) × ((ignores_exptime (Some (Plain verb)) || is_zero exptime) ≡ true)
exptime_passes Set exptime is = is
exptime_passes Add exptime is = is
exptime_passes Replace exptime is = is
exptime_passes Append exptime is = (is, refl)
exptime_passes Prepend exptime is = (is, refl)

module _ (key digits exptime size : List ℕ) (flags long : ℕ) (spells : SpellsNumber digits flags) (small : flags < 2 ^ 32) (sized : SpellsNumber size long) (few : long ≤ 1048576) (lawful : is_lawful_key key ≡ true) where
  verb_asked : (verb : Verb) (quiet : Bool) → IsExptimeOf verb exptime →
      asked_of_storage verb (key ∷ digits ∷ exptime ∷ size ∷ noreply_if quiet) ≡ StoredBlock (record { length = long; storage = Plain verb; key = key; flags = flags; quiet = quiet })
  verb_asked verb false is =
      let passes = exptime_passes verb exptime is in stored_by (Some (Plain verb)) (Plain verb) key digits exptime size None flags long refl spells small sized few refl lawful passes.0 passes.1
  verb_asked verb true is =
      let passes = exptime_passes verb exptime is in
      stored_by (Some (Plain verb)) (Plain verb) key digits exptime size (Some (codes "noreply")) flags long refl spells small sized few refl lawful passes.0 passes.1

  cas_asked : (seen : List ℕ) (unique : ℕ) (quiet : Bool) → SpellsNumber seen unique → unique < 2 ^ 64 → IsZeroExptime exptime →
      asked_of_cas (key ∷ digits ∷ exptime ∷ size ∷ seen ∷ noreply_if quiet) ≡ StoredBlock (record { length = long; storage = CheckAndSet unique; key = key; flags = flags; quiet = quiet })
  cas_asked seen unique false is fits no_time =
      stored_by (check_and_set seen) (CheckAndSet unique) key digits exptime size None flags long (ap (option_map CheckAndSet) (number_of UNIQUE seen unique is (omega (arith, fits)))) spells small sized few refl lawful no_time.0 no_time.1
  cas_asked seen unique true is fits no_time =
      stored_by (check_and_set seen) (CheckAndSet unique) key digits exptime size (Some (codes "noreply")) flags long (ap (option_map CheckAndSet) (number_of UNIQUE seen unique is (omega (arith, fits)))) spells small sized few refl lawful no_time.0 no_time.1

-- Lines without a block.
delta_asked : (change : Change) (key delta : List ℕ) (by : ℕ) (noreply : Bool) → is_lawful_key key ≡ true → SpellsNumber delta by → by < 2 ^ 64 →
    asked_of_delta change true key (number_up_to DELTA delta) noreply ≡ LineOnly (Logged (changed change key by) noreply)
delta_asked change key delta by noreply lawful spells fits =
    ap (λ (found : Option ℕ). asked_of_delta change true key found noreply) (number_of DELTA delta by spells (omega (arith, fits)))
    ∙ ap (λ failure. asked_unless failure (changed change key by) noreply) (cond-true _ _ _ lawful)

change_asked : (change : Change) (key delta : List ℕ) (by : ℕ) (quiet : Bool) → is_lawful_key key ≡ true → SpellsNumber delta by → by < 2 ^ 64 →
    asked_of_change change (key ∷ delta ∷ noreply_if quiet) ≡ LineOnly (Logged (changed change key by) quiet)
change_asked change key delta by false lawful spells fits = delta_asked change key delta by false lawful spells fits
change_asked change key delta by true lawful spells fits = delta_asked change key delta by true lawful spells fits

all_lawful : (keys : List (List ℕ)) → All (λ key. IsTrue (is_lawful_key key)) keys → list_all is_lawful_key keys ≡ true
all_lawful [] lawful = refl
all_lawful (key ∷ keys) lawful = and_from (is_lawful_key key) (list_all is_lawful_key keys) (lawful 0 [] (omega arith)) (all_lawful keys (λ k d inside. lawful (suc k) d (omega (arith, inside))))

keys_asked : (uniques : Bool) (keys : List (List ℕ)) → 0 < length keys → All (λ key. IsTrue (is_lawful_key key)) keys → asked_of_retrieval uniques keys ≡ LineOnly (Logged (Get keys uniques) false)
keys_asked uniques [] some lawful = absurd (omega (arith, some))
keys_asked uniques (key ∷ keys) some lawful = ap (λ failure. asked_unless failure (Get (key ∷ keys) uniques) false) (cond-true _ _ _ (all_lawful (key ∷ keys) lawful))

get_asked : (uniques : Bool) (keys : List (List ℕ)) → asked_by (cond uniques (codes "gets") (codes "get") ∷ keys) ≡ asked_of_retrieval uniques keys
get_asked true keys = refl
get_asked false keys = refl

delete_asked : (key : List ℕ) (quiet : Bool) → is_lawful_key key ≡ true → asked_by (codes "delete" ∷ key ∷ noreply_if quiet) ≡ LineOnly (Logged (Delete key) quiet)
delete_asked key false lawful = ap (λ failure. asked_unless failure (Delete key) false) (cond-true _ _ _ lawful)
delete_asked key true lawful = ap (λ failure. asked_unless failure (Delete key) true) (cond-true _ _ _ lawful)

delete_asked_at_once : (key : List ℕ) (quiet : Bool) → is_lawful_key key ≡ true → asked_by (codes "delete" ∷ key ∷ codes "0" ∷ noreply_if quiet) ≡ LineOnly (Logged (Delete key) quiet)
delete_asked_at_once key false lawful = ap (λ failure. asked_unless failure (Delete key) false) (cond-true _ _ _ lawful)
delete_asked_at_once key true lawful = ap (λ failure. asked_unless failure (Delete key) true) (cond-true _ _ _ lawful)

flush_asked : (quiet : Bool) → asked_by (codes "flush_all" ∷ noreply_if quiet) ≡ LineOnly (Logged Flush quiet)
flush_asked false = refl
flush_asked true = refl

is_no_noreply : (exptime : List ℕ) → is_exptime exptime ≡ true → is_noreply exptime ≡ false
is_no_noreply exptime is =
    false_from_ne_true (is_noreply exptime) (λ same. true≢false (sym is ∙ ap is_exptime (same_word exptime (codes "noreply") same)))

flush_asked_at_once : (exptime : List ℕ) (quiet : Bool) → IsZeroExptime exptime → asked_by (codes "flush_all" ∷ exptime ∷ noreply_if quiet) ≡ LineOnly (Logged Flush quiet)
flush_asked_at_once exptime false no_time =
    cond-false (is_noreply exptime) (asked_after [] Flush true) (asked_after (exptime_checks exptime) Flush false) (is_no_noreply exptime no_time.0)
    ∙ ap (λ failure. asked_unless failure Flush false) (none_fails (exptime_checks exptime) (no_time.0, (no_time.1, tt)))
flush_asked_at_once exptime true no_time = ap (λ failure. asked_unless failure Flush true) (none_fails (exptime_checks exptime) (no_time.0, (no_time.1, tt)))

-- Texts.
module _ (line : List ℕ) (unbroken : IsUnbroken line) (short : length line ≤ 65536) where
  pub text_of : (lines : Lines) (body : List ℕ) (a : Asked) (request : Request) → lines line ≡ a → length body ≡ body_length a → request_of a body ≡ request → IsRequestText lines (line ++ 10 ∷ body) request
  text_of lines body a request asks whole is = inl (record {
    line = line;
    body = body;
    short = short;
    unbroken = unbroken;
    whole = whole ∙ sym (ap body_length asks);
    in_text = refl;
    is_asked = sym (ap (λ b. request_of b body) asks ∙ is);
  })

  alone : (parts : List (List ℕ)) (body : List ℕ) (request : Request) → words line ≡ parts → asked_by parts ≡ LineOnly request → body ≡ [] → IsRequestText asked (line ++ 10 ∷ body) request
  alone parts body request are asks none = text_of asked body (LineOnly request) request (ap asked_by are ∙ asks) (ap length none) refl

  with_block : (parts : List (List ℕ)) (body : List ℕ) (storage : Storage) (key : List ℕ) (flags : ℕ) (block : List ℕ) (quiet : Bool) → words line ≡ parts →
      asked_by parts ≡ StoredBlock (record { length = length block; storage = storage; key = key; flags = flags; quiet = quiet }) → body ≡ block_sent block →
      IsRequestText asked (line ++ 10 ∷ body) (Logged (storing storage key flags block) quiet)
  with_block parts body storage key flags block quiet are asks sent =
      text_of asked body (StoredBlock (record { length = length block; storage = storage; key = key; flags = flags; quiet = quiet })) (Logged (storing storage key flags block) quiet) (ap asked_by are ∙ asks)
      (ap length sent ∙ length-append block (13 ∷ 10 ∷ []))
      (ap (stored_request (record { length = length block; storage = storage; key = key; flags = flags; quiet = quiet })) sent ∙ block_stored storage key flags block quiet)

  is_read : (body : List ℕ) (command : Command) (quiet : Bool) → IsLawfulCommand command → IsLineOf command quiet (words line) body → IsRequestText asked (line ++ 10 ∷ body) (Logged command quiet)
  is_read body (Store verb key flags block) quiet lawful (digits, exptime, size, are, spells, is, sized, sent) =
      with_block (verb_name verb ∷ key ∷ digits ∷ exptime ∷ size ∷ noreply_if quiet) body (Plain verb) key flags block quiet are
      (name_asked verb (key ∷ digits ∷ exptime ∷ size ∷ noreply_if quiet) ∙ verb_asked key digits exptime size flags (length block) spells lawful.1 sized lawful.2 lawful.0 verb quiet is) sent
  is_read body (Cas key flags block unique) quiet lawful (digits, exptime, size, seen, are, spells, is, sized, is_seen, sent) =
      with_block (codes "cas" ∷ key ∷ digits ∷ exptime ∷ size ∷ seen ∷ noreply_if quiet) body (CheckAndSet unique) key flags block quiet are
      (cas_asked key digits exptime size flags (length block) spells lawful.1 sized lawful.2 lawful.0 seen unique quiet is_seen lawful.3 is) sent
  is_read body (Get keys uniques) quiet lawful (are, answered, none) =
      subst (λ q. IsRequestText asked (line ++ 10 ∷ body) (Logged (Get keys uniques) q)) (sym answered)
      (alone (cond uniques (codes "gets") (codes "get") ∷ keys) body (Logged (Get keys uniques) false) are (get_asked uniques keys ∙ keys_asked uniques keys lawful.0 lawful.1) none)
  is_read body (Delete key) quiet lawful (inl are, none) = alone (codes "delete" ∷ key ∷ noreply_if quiet) body (Logged (Delete key) quiet) are (delete_asked key quiet lawful) none
  is_read body (Delete key) quiet lawful (inr are, none) = alone (codes "delete" ∷ key ∷ codes "0" ∷ noreply_if quiet) body (Logged (Delete key) quiet) are (delete_asked_at_once key quiet lawful) none
  is_read body (Incr key by) quiet lawful (delta, are, spells, none) =
      alone (codes "incr" ∷ key ∷ delta ∷ noreply_if quiet) body (Logged (Incr key by) quiet) are (change_asked change.Incr key delta by quiet lawful.0 spells lawful.1) none
  is_read body (Decr key by) quiet lawful (delta, are, spells, none) =
      alone (codes "decr" ∷ key ∷ delta ∷ noreply_if quiet) body (Logged (Decr key by) quiet) are (change_asked change.Decr key delta by quiet lawful.0 spells lawful.1) none
  is_read body Flush quiet lawful (inl are, none) = alone (codes "flush_all" ∷ noreply_if quiet) body (Logged Flush quiet) are (flush_asked quiet) none
  is_read body Flush quiet lawful (inr (exptime, are, no_time), none) =
      alone (codes "flush_all" ∷ exptime ∷ noreply_if quiet) body (Logged Flush quiet) are (flush_asked_at_once exptime quiet no_time) none
  is_read body (commands.Limit limits) quiet lawful is = absurd is

pub line_is_read : (line body : List ℕ) (command : Command) (quiet : Bool) → IsUnbroken line → length line ≤ 65536 → IsLawfulCommand command → IsLineOf command quiet (words line) body →
    IsRequestText asked (line ++ 10 ∷ body) (Logged command quiet)
line_is_read line body command quiet unbroken short lawful is = is_read line unbroken short body command quiet lawful is

-- Lines of an administrator's that set quotas.
positive_some : (number : ℕ) → 0 < number → positive (Some number) ≡ Some number
positive_some zero some = absurd (omega (arith, some))
positive_some (suc number) some = refl

setting_asked : (name items bytes : List ℕ) (limits : Limits) (quiet : Bool) → is_lawful_name name ≡ true → AreLawfulLimits limits → SpellsNumber items limits.items → SpellsNumber bytes limits.bytes →
    asked_of_setting true name items bytes quiet ≡ LineOnly (Limit name limits quiet)
setting_asked name items bytes limits quiet lawful are spells spells_bytes =
    let first = ap positive (number_of MAX_ITEMS items limits.items spells are.items.1) ∙ positive_some limits.items (omega (arith, are.items.0)) in
    let second = ap positive (number_of MAX_BYTES bytes limits.bytes spells_bytes are.bytes.1) ∙ positive_some limits.bytes (omega (arith, are.bytes.0)) in
    cond-true (is_lawful_name name) (asked_of_quotas name (limits_named items bytes) quiet) malformed lawful
    ∙ (λ i. asked_of_quotas name (both_quotas (first i) (second i)) quiet)

limit_asked : (name items bytes : List ℕ) (limits : Limits) (quiet : Bool) → is_lawful_name name ≡ true → AreLawfulLimits limits → SpellsNumber items limits.items → SpellsNumber bytes limits.bytes →
    asked_of_admin (codes "limit" ∷ name ∷ items ∷ bytes ∷ noreply_if quiet) ≡ LineOnly (Limit name limits quiet)
limit_asked name items bytes limits false lawful are spells spells_bytes = setting_asked name items bytes limits false lawful are spells spells_bytes
limit_asked name items bytes limits true lawful are spells spells_bytes = setting_asked name items bytes limits true lawful are spells spells_bytes

pub limit_line_is_read : (line body name : List ℕ) (limits : Limits) (quiet : Bool) → IsUnbroken line → length line ≤ 65536 → IsTrue (is_lawful_name name) → AreLawfulLimits limits →
    IsLimitLineOf name limits quiet (words line) body → IsRequestText asked_by_admin (line ++ 10 ∷ body) (Limit name limits quiet)
limit_line_is_read line body name limits quiet unbroken short lawful lawful_limits (items, bytes, are, spells, spells_bytes, none) =
    text_of line unbroken short asked_by_admin body (LineOnly (Limit name limits quiet)) (Limit name limits quiet)
    (ap asked_of_admin are ∙ limit_asked name items bytes limits quiet lawful lawful_limits spells spells_bytes) (ap length none) refl
