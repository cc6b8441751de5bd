-- What a client sends for a command is the text of that command.
use Rattle.std.proofs.Common.{◌≡◌, ◌≢◌, ℕ, ◌+◌, ◌*◌, ◌-◌, ◌^◌, ◌<◌, ◌≤◌, Bool, true, false, ◌&&◌, ◌||◌, cond, not, nat_lt, nat_le, ◌==◌, slice_index, List, [], ◌∷◌, ◌++◌, length, take, filter, decimal, codes, Option, Some, None, is_some, unwrap_or, option_map, inl, inr, refl, sym, ◌∙◌, ap, subst, append-nil, append_assoc, length-append, arith}
use Rattle.std.proofs.lemmas.Bool.{and_from, and_parts, cond-false, cond-true, le-leb, leb-true, lt-leb, lt-ltb, ltb-true, ne_eqb}
use Rattle.std.proofs.lemmas.Fmt.{decimal_is_IsNumeral, length-decimal-le}
use Rattle.std.proofs.lemmas.List.{drop_at, get_or_at, take_at}
use Rattle.std.proofs.lemmas.List.Elements.{All-append, All-cons, All-head, All-nil, All-tail}
use Rattle.std.proofs.lemmas.List.Splits.{slice_split-cons_no}
use Rattle.std.proofs.lemmas.Str.Parse.{digit_from_value}
use Rattle.std.specs.Prelude.{IsTrue}
use Rattle.std.specs.List.{All, join_with_byte, list_all, onto_first, slice_split}
use Rattle.std.specs.Str.Parse.{AllDigits}
use Rattle.mc_model.specs.declared.command.Command.TheVariants.{Cas, Decr, Delete, Flush, Get, Incr, Store}
use Rattle.mc_model.specs.declared.command.Verb.{Verb}
use Rattle.mc_model.specs.declared.command.Verb.TheVariants.{Add, Append, Prepend, Replace, Set}
use Rattle.mc_model.specs.declared.item.TheConstants.{DATA_BYTES}
use Rattle.mc_model.specs.declared.reply.TheConstants.WireNo.{BAD_DELTA, BAD_FORMAT, NO_EXPIRY, TOO_LARGE}
use Rattle.mc_model.specs.declared.reply.WireNo.{WireNo}
use Rattle.mc_model.specs.declared.request.Request.{Request}
use Rattle.mc_model.specs.declared.request.Request.TheVariants.{Logged, TooLong}
use Rattle.mc_model.specs.Key.{is_key_byte, is_lawful_key}
use Rattle.mc_model.specs.Number.{number_up_to}
use Rattle.model_lemmas.proofs.NumberTests.{number_up_to-none, number_up_to-some}
use Rattle.mc_read.specs.declared.without_block.Change.{Change}
use Rattle.mc_read.specs.declared.without_block.Change.TheVariants as change
use Rattle.mc_read.specs.declared.line.Asked.{Asked}
use Rattle.mc_read.specs.declared.line.Asked.TheVariants.{LineOnly, RefusedBlock, StoredBlock}
use Rattle.mc_read.specs.declared.line.Storage.{Storage}
use Rattle.mc_read.specs.declared.line.Storage.TheVariants.{CheckAndSet, Plain}
use Rattle.mc_read.specs.declared.line.TheConstants.{BLOCK_LENGTH, DELTA, FLAGS, LINE_BYTES, UNIQUE}
use Rattle.mc_read.specs.Line.{Checks, StorageLine, asked, asked_by, asked_of_block, asked_of_cas, asked_of_change, asked_of_delta, asked_of_length, asked_of_retrieval, asked_of_storage, asked_unless, asked_with, changed, check_and_set, ends_in_noreply, first_failure, ignores_exptime, refused}
use Rattle.mc_read.specs.Sending.{block_sent, line_sent, noreply_if, sent, verb_name}
use Rattle.mc_read.specs.Text.{IsRequestText, IsUnbroken, ends_well, body_length, request_of, stored_request, stored_if, storing}
use Rattle.mc_read.specs.Word.{is_exptime, is_space, is_zero, spaced_words, without_return, words}

-- no control character and no space
abbrev pub is_above_space : List ℕ → Bool
is_above_space word = list_all (λ byte. nat_lt 32 byte) word

-- a word that a line can have: 1 to 250 such bytes
abbrev pub is_fit : List ℕ → Bool
is_fit word = (nat_lt 0 (length word) && nat_le (length word) 250) && is_above_space word

pub fit_parts : (word : List ℕ) → is_fit word ≡ true → (0 < length word) × (length word ≤ 250) × (is_above_space word ≡ true)
fit_parts word fit =
    let parts = and_parts (nat_lt 0 (length word) && nat_le (length word) 250) (is_above_space word) fit in
    let lengths = and_parts (nat_lt 0 (length word)) (nat_le (length word) 250) parts.0 in
    (ltb-true 0 (length word) lengths.0, leb-true (length word) 250 lengths.1, parts.1)

above_parts : (byte : ℕ) (bytes : List ℕ) → is_above_space (byte ∷ bytes) ≡ true → (32 < byte) × (is_above_space bytes ≡ true)
above_parts byte bytes above = let parts = and_parts (nat_lt 32 byte) (is_above_space bytes) above in (ltb-true 32 byte parts.0, parts.1)

abbrev pub are_fit : List (List ℕ) → Bool
are_fit words = list_all is_fit words

-- Words that are joined by a space are the words of the line.
no_space : (byte : ℕ) → 32 < byte → is_space byte ≡ false
no_space byte above = ne_eqb byte 32 (λ same. omega (arith, same, above))

split_after : (word rest : List ℕ) → is_above_space word ≡ true → slice_split is_space (word ++ 32 ∷ rest) ≡ word ∷ slice_split is_space rest
split_after [] rest above = refl
split_after (byte ∷ bytes) rest above =
    let parts = above_parts byte bytes above in
    slice_split-cons_no is_space byte (bytes ++ 32 ∷ rest) (no_space byte parts.0) ∙ ap (onto_first byte) (split_after bytes rest parts.1)

split_alone : (word : List ℕ) → is_above_space word ≡ true → slice_split is_space word ≡ word ∷ []
split_alone [] above = refl
split_alone (byte ∷ bytes) above =
    let parts = above_parts byte bytes above in
    slice_split-cons_no is_space byte bytes (no_space byte parts.0) ∙ ap (onto_first byte) (split_alone bytes parts.1)

-- a word that is fit stays where empty ones go
kept : (word : List ℕ) (pieces : List (List ℕ)) → is_fit word ≡ true → filter (λ piece. nat_lt 0 (length piece)) (word ∷ pieces) ≡ word ∷ filter (λ piece. nat_lt 0 (length piece)) pieces
kept word pieces fit =
    let others = filter (λ piece. nat_lt 0 (length piece)) pieces in
    ap (λ b. cond b (word ∷ others) others) (lt-ltb 0 (length word) (fit_parts word fit).0)

spaced_words_joined : (list : List (List ℕ)) → are_fit list ≡ true → spaced_words (join_with_byte 32 list) ≡ list
spaced_words_joined [] fit = refl
spaced_words_joined (word ∷ []) fit =
    let parts = and_parts (is_fit word) true fit in
    ap (filter (λ piece. nat_lt 0 (length piece))) (split_alone word (fit_parts word parts.0).2) ∙ kept word [] parts.0
spaced_words_joined (word ∷ next ∷ others) fit =
    let parts = and_parts (is_fit word) (are_fit (next ∷ others)) fit in
    let rest = join_with_byte 32 (next ∷ others) in
    ap (filter (λ piece. nat_lt 0 (length piece))) (split_after word rest (fit_parts word parts.0).2)
    ∙ (kept word (slice_split is_space rest) parts.0 ∙ ap (λ found. word ∷ found) (spaced_words_joined (next ∷ others) parts.1))

return_cut : (line : List ℕ) → without_return (line ++ 13 ∷ []) ≡ line
return_cut line =
    let whole = line ++ 13 ∷ [] in
    let last : length whole - 1 ≡ length line = omega (arith, length-append line (13 ∷ [])) in
    let byte : slice_index whole (length whole - 1) ≡ 13 = ap (slice_index whole) last ∙ get_or_at line 13 [] 0 (length line) refl in
    ap (λ b. cond (b == 13) (take (length whole - 1) whole) whole) byte
    ∙ (ap (λ n. take n whole) last ∙ take_at line (13 ∷ []) (length line) refl)

words_joined : (parts : List (List ℕ)) → are_fit parts ≡ true → words (join_with_byte 32 parts ++ 13 ∷ []) ≡ parts
words_joined parts fit = ap spaced_words (return_cut (join_with_byte 32 parts)) ∙ spaced_words_joined parts fit

-- No line feed stands in them.
unbroken_word : (word : List ℕ) → is_above_space word ≡ true → IsUnbroken word
unbroken_word [] above = All-nil (λ byte. byte ≢ 10)
unbroken_word (byte ∷ bytes) above =
    let parts = above_parts byte bytes above in
    All-cons (λ byte. byte ≢ 10) byte bytes (λ same. omega (arith, same, parts.0)) (unbroken_word bytes parts.1)

unbroken_joined : (list : List (List ℕ)) → are_fit list ≡ true → IsUnbroken (join_with_byte 32 list)
unbroken_joined [] fit = All-nil (λ byte. byte ≢ 10)
unbroken_joined (word ∷ []) fit = unbroken_word word (fit_parts word (and_parts (is_fit word) true fit).0).2
unbroken_joined (word ∷ next ∷ others) fit =
    let parts = and_parts (is_fit word) (are_fit (next ∷ others)) fit in
    let rest = join_with_byte 32 (next ∷ others) in
    All-append (λ byte. byte ≢ 10) word (32 ∷ rest) (unbroken_word word (fit_parts word parts.0).2)
    (All-cons (λ byte. byte ≢ 10) 32 rest (λ same. omega (arith, same)) (unbroken_joined (next ∷ others) parts.1))

-- Few words make a short line.
length_joined : (list : List (List ℕ)) → are_fit list ≡ true → length (join_with_byte 32 list) ≤ length list * 251
length_joined [] fit = omega arith
length_joined (word ∷ []) fit =
    let parts = and_parts (is_fit word) true fit in
    omega (arith, (fit_parts word parts.0).1)
length_joined (word ∷ next ∷ others) fit =
    let parts = and_parts (is_fit word) (are_fit (next ∷ others)) fit in
    omega (arith, (fit_parts word parts.0).1, length-append word (32 ∷ join_with_byte 32 (next ∷ others)), length_joined (next ∷ others) parts.1)

-- a line of so few words is short
few_words : (parts : List (List ℕ)) → are_fit parts ≡ true → length parts ≤ 7 → length (join_with_byte 32 parts) + 1 ≤ LINE_BYTES
few_words parts fit few = omega (arith, length_joined parts fit, few)

-- A line of such words is the text of the request that they ask for, whoever's line it is.
module _ (by : List (List ℕ) → Asked) where
  pub text_by_words : (parts : List (List ℕ)) (body : List ℕ) (a : Asked) → are_fit parts ≡ true → length (join_with_byte 32 parts) + 1 ≤ LINE_BYTES
      → by parts ≡ a → length body ≡ body_length a → IsRequestText (λ line. by (words line)) (line_sent parts ++ body) (request_of a body)
  text_by_words parts body a fit short is whole =
      let line = join_with_byte 32 parts ++ 13 ∷ [] in
      let is_asked : by (words line) ≡ a = ap by (words_joined parts fit) ∙ is in
      inl (record {
        line = line;
        body = body;
        short = omega (arith, short, length-append (join_with_byte 32 parts) (13 ∷ []));
        unbroken = All-append (λ byte. byte ≢ 10) (join_with_byte 32 parts) (13 ∷ []) (unbroken_joined parts fit) (All-cons (λ byte. byte ≢ 10) 13 [] (λ same. omega (arith, same)) (All-nil (λ byte. byte ≢ 10)));
        whole = whole ∙ ap body_length (sym is_asked);
        in_text = append_assoc (join_with_byte 32 parts) (13 ∷ 10 ∷ []) body ∙ sym (append_assoc (join_with_byte 32 parts) (13 ∷ []) (10 ∷ body));
        is_asked = ap (λ b. request_of b body) (sym is_asked);
      })

  -- without a block
  pub text_by_line : (parts : List (List ℕ)) (request : Request) → are_fit parts ≡ true → length (join_with_byte 32 parts) + 1 ≤ LINE_BYTES
      → by parts ≡ LineOnly request → IsRequestText (λ line. by (words line)) (line_sent parts) request
  text_by_line parts request fit short is =
      subst (λ text. IsRequestText (λ line. by (words line)) text request) (append-nil (line_sent parts)) (text_by_words parts [] (LineOnly request) fit short is refl)

  -- and of few words
  pub text_by_few : (parts : List (List ℕ)) (request : Request) → are_fit parts ≡ true → length parts ≤ 7 → by parts ≡ LineOnly request → IsRequestText (λ line. by (words line)) (line_sent parts) request
  text_by_few parts request fit few = text_by_line parts request fit (few_words parts fit few)

pub text_of_words : (parts : List (List ℕ)) (body : List ℕ) (a : Asked) → are_fit parts ≡ true → length (join_with_byte 32 parts) + 1 ≤ LINE_BYTES
    → asked_by parts ≡ a → length body ≡ body_length a → IsRequestText asked (line_sent parts ++ body) (request_of a body)
text_of_words = text_by_words asked_by

text_of_line : (parts : List (List ℕ)) (request : Request) → are_fit parts ≡ true → length (join_with_byte 32 parts) + 1 ≤ LINE_BYTES
    → asked_by parts ≡ LineOnly request → IsRequestText asked (line_sent parts) request
text_of_line = text_by_line asked_by

text_of_few : (parts : List (List ℕ)) (request : Request) → are_fit parts ≡ true → length parts ≤ 7 → asked_by parts ≡ LineOnly request → IsRequestText asked (line_sent parts) request
text_of_few = text_by_few asked_by

-- What the words of a command are.
above_space_from_key : (bytes : List ℕ) → list_all is_key_byte bytes ≡ true → is_above_space bytes ≡ true
above_space_from_key [] lawful = refl
above_space_from_key (byte ∷ bytes) lawful =
    let parts = and_parts (is_key_byte byte) (list_all is_key_byte bytes) lawful in and_from (nat_lt 32 byte) (is_above_space bytes) (and_parts (nat_lt 32 byte) (not (byte == 127)) parts.0).0 (above_space_from_key bytes parts.1)

pub fit_key : (key : List ℕ) → is_lawful_key key ≡ true → is_fit key ≡ true
fit_key key lawful = let parts = and_parts _ _ lawful in and_from _ _ parts.0 (above_space_from_key key parts.1)

above_space_from_digits : (digits : List ℕ) → AllDigits 10 digits → is_above_space digits ≡ true
above_space_from_digits [] all = refl
above_space_from_digits (digit ∷ digits) all =
    let range = digit_from_value digit all.0 in and_from _ _ (lt-ltb 32 digit (omega (arith, range.0))) (above_space_from_digits digits all.1)

pub fit_decimal : (number : ℕ) → number < 2 ^ 64 → is_fit (decimal number) ≡ true
fit_decimal number small =
    let numeral = (decimal_is_IsNumeral number small).0 in
    let short : length (decimal number) ≤ 20 = length-decimal-le 20 number (omega arith) (omega (arith, small)) small in
    and_from _ _ (and_from _ _ (lt-ltb _ _ numeral.0) (le-leb _ _ (omega (arith, short)))) (above_space_from_digits (decimal number) numeral.1)

pub number_of_decimal : (limit number : ℕ) → number ≤ limit → number < 2 ^ 64 → number_up_to limit (decimal number) ≡ Some number
number_of_decimal limit number within small =
    let is = decimal_is_IsNumeral number small in
    number_up_to-some limit (decimal number) (is.0, omega (arith, is.1, within)) ∙ ap Some is.1

pub fit_noreply : (quiet : Bool) → are_fit (noreply_if quiet) ≡ true
fit_noreply true = refl
fit_noreply false = refl

pub one_more : (quiet : Bool) → length (noreply_if quiet) ≤ 1
one_more true = omega arith
one_more false = omega arith

-- where all checks pass nothing is refused
no_failure : (checks : Checks) → list_all (λ check. check.0) checks ≡ true → first_failure checks ≡ None
no_failure [] pass = refl
no_failure (check ∷ checks) pass =
    let parts = and_parts _ _ pass in cond-true _ _ _ parts.0 ∙ no_failure checks parts.1

-- Lines without a block.
key_checked : (key : List ℕ) → is_lawful_key key ≡ true → first_failure ((is_lawful_key key, BAD_FORMAT) ∷ []) ≡ None
key_checked key lawful = no_failure ((is_lawful_key key, BAD_FORMAT) ∷ []) (and_from (is_lawful_key key) true lawful refl)

delete_asked : (key : List ℕ) (quiet : Bool) → is_lawful_key key ≡ true → asked_by (codes "delete" ∷ key ∷ noreply_if quiet) ≡ LineOnly (Logged (Delete key) quiet)
delete_asked key false lawful = ap (λ failure. asked_unless failure (Delete key) false) (key_checked key lawful)
delete_asked key true lawful = ap (λ failure. asked_unless failure (Delete key) true) (key_checked key lawful)

pub sent_delete : (key : List ℕ) (quiet : Bool) → IsTrue (is_lawful_key key) → IsRequestText asked (sent (Delete key) quiet) (Logged (Delete key) quiet)
sent_delete key quiet lawful =
    let parts = codes "delete" ∷ key ∷ noreply_if quiet in
    let fit : are_fit parts ≡ true = and_from (is_fit key) (are_fit (noreply_if quiet)) (fit_key key lawful) (fit_noreply quiet) in
    text_of_few parts (Logged (Delete key) quiet) fit (omega (arith, one_more quiet)) (delete_asked key quiet lawful)

delta_checked : (change : Change) (key : List ℕ) (by : ℕ) (noreply : Bool) → is_lawful_key key ≡ true → asked_of_delta change true key (Some by) noreply ≡ LineOnly (Logged (changed change key by) noreply)
delta_checked change key by noreply lawful = ap (λ failure. asked_unless failure (changed change key by) noreply) (no_failure ((is_lawful_key key, BAD_FORMAT) ∷ (true, BAD_DELTA) ∷ []) (and_from (is_lawful_key key) true lawful refl))

change_checked : (change : Change) (key : List ℕ) (by : ℕ) (quiet : Bool) → is_lawful_key key ≡ true → by < 2 ^ 64
    → asked_of_change change (key ∷ decimal by ∷ noreply_if quiet) ≡ LineOnly (Logged (changed change key by) quiet)
change_checked change key by false lawful small = ap (λ delta. asked_of_delta change true key delta false) (number_of_decimal DELTA by (omega (arith, small)) small) ∙ delta_checked change key by false lawful
change_checked change key by true lawful small = ap (λ delta. asked_of_delta change true key delta true) (number_of_decimal DELTA by (omega (arith, small)) small) ∙ delta_checked change key by true lawful

module _ (key : List ℕ) (by : ℕ) (quiet : Bool) (lawful : IsTrue (is_lawful_key key)) (small : by < 2 ^ 64) where
  fit_change : are_fit (key ∷ decimal by ∷ noreply_if quiet) ≡ true
  fit_change =
      and_from (is_fit key) (are_fit (decimal by ∷ noreply_if quiet)) (fit_key key lawful)
      (and_from (is_fit (decimal by)) (are_fit (noreply_if quiet)) (fit_decimal by small) (fit_noreply quiet))

  pub sent_incr : IsRequestText asked (sent (Incr key by) quiet) (Logged (Incr key by) quiet)
  sent_incr = text_of_few (codes "incr" ∷ key ∷ decimal by ∷ noreply_if quiet) (Logged (Incr key by) quiet) fit_change (omega (arith, one_more quiet)) (change_checked change.Incr key by quiet lawful small)

  pub sent_decr : IsRequestText asked (sent (Decr key by) quiet) (Logged (Decr key by) quiet)
  sent_decr = text_of_few (codes "decr" ∷ key ∷ decimal by ∷ noreply_if quiet) (Logged (Decr key by) quiet) fit_change (omega (arith, one_more quiet)) (change_checked change.Decr key by quiet lawful small)

flush_asked : (quiet : Bool) → asked_by (codes "flush_all" ∷ noreply_if quiet) ≡ LineOnly (Logged Flush quiet)
flush_asked false = refl
flush_asked true = refl

pub sent_flush : (quiet : Bool) → IsRequestText asked (sent Flush quiet) (Logged Flush quiet)
sent_flush quiet = text_of_few (codes "flush_all" ∷ noreply_if quiet) (Logged Flush quiet) (fit_noreply quiet) (omega (arith, one_more quiet)) (flush_asked quiet)

-- Retrievals.
all_lawful : (keys : List (List ℕ)) → All (λ key. IsTrue (is_lawful_key key)) keys → list_all is_lawful_key keys ≡ true
all_lawful [] lawful = refl
all_lawful (key ∷ keys) lawful =
    and_from (is_lawful_key key) (list_all is_lawful_key keys) (All-head (λ k. IsTrue (is_lawful_key k)) key keys lawful) (all_lawful keys (All-tail (λ k. IsTrue (is_lawful_key k)) key keys lawful))

fit_keys : (keys : List (List ℕ)) → list_all is_lawful_key keys ≡ true → are_fit keys ≡ true
fit_keys [] lawful = refl
fit_keys (key ∷ keys) lawful =
    let parts = and_parts (is_lawful_key key) (list_all is_lawful_key keys) lawful in
    and_from (is_fit key) (are_fit keys) (fit_key key parts.0) (fit_keys keys parts.1)

retrieval_asked : (keys : List (List ℕ)) (uniques : Bool) → 0 < length keys → list_all is_lawful_key keys ≡ true → asked_of_retrieval uniques keys ≡ LineOnly (Logged (Get keys uniques) false)
retrieval_asked [] uniques some lawful = absurd (omega (arith, some))
retrieval_asked (key ∷ keys) uniques some lawful =
    ap (λ failure. asked_unless failure (Get (key ∷ keys) uniques) false)
    (no_failure ((list_all is_lawful_key (key ∷ keys), BAD_FORMAT) ∷ []) (and_from (list_all is_lawful_key (key ∷ keys)) true lawful refl))

pub sent_get : (keys : List (List ℕ)) (uniques : Bool) → 0 < length keys → All (λ key. IsTrue (is_lawful_key key)) keys → length (sent (Get keys uniques) false) ≤ 65537
    → IsRequestText asked (sent (Get keys uniques) false) (Logged (Get keys uniques) false)
sent_get keys true some lawful short =
    let joined = join_with_byte 32 (codes "gets" ∷ keys) in
    text_of_line (codes "gets" ∷ keys) (Logged (Get keys true) false) (fit_keys keys (all_lawful keys lawful)) (omega (arith, short, length-append joined (13 ∷ 10 ∷ []))) (retrieval_asked keys true some (all_lawful keys lawful))
sent_get keys false some lawful short =
    let joined = join_with_byte 32 (codes "get" ∷ keys) in
    text_of_line (codes "get" ∷ keys) (Logged (Get keys false) false) (fit_keys keys (all_lawful keys lawful)) (omega (arith, short, length-append joined (13 ∷ 10 ∷ []))) (retrieval_asked keys false some (all_lawful keys lawful))

-- Lines with a block.
or_right : (a b : Bool) → b ≡ true → (a || b) ≡ true
or_right true b passes = refl
or_right false b passes = passes

-- all checks of a storage line but the last, which is on its length
abbrev word_checks : StorageLine → Checks
word_checks line =
    (ends_in_noreply line.last, BAD_FORMAT) ∷ (is_lawful_key line.key, BAD_FORMAT) ∷ (is_some line.flags, BAD_FORMAT) ∷ (is_exptime line.exptime, BAD_FORMAT) ∷ (is_some line.storage, BAD_FORMAT)
    ∷ (ignores_exptime line.storage || is_zero line.exptime, NO_EXPIRY) ∷ []

-- where the first checks pass, the last decides
last_decides : (checks : Checks) (test : Bool) (refusal : WireNo) → list_all (λ check. check.0) checks ≡ true → first_failure (checks ++ (test, refusal) ∷ []) ≡ first_failure ((test, refusal) ∷ [])
last_decides [] test refusal pass = refl
last_decides (check ∷ checks) test refusal pass =
    let parts = and_parts check.0 (list_all (λ c. c.0) checks) pass in cond-true _ _ _ parts.0 ∙ last_decides checks test refusal parts.1

module _ (line : StorageLine) (storage : Storage) (flags size : ℕ) (is_storage : line.storage ≡ Some storage) (are_flags : line.flags ≡ Some flags) (is_size : number_up_to BLOCK_LENGTH line.size ≡ Some size) (ends : ends_in_noreply line.last ≡ true) (lawful : is_lawful_key line.key ≡ true) (spelled : is_exptime line.exptime ≡ true) (zero : is_zero line.exptime ≡ true) where
  words_pass : list_all (λ check. check.0) (word_checks line) ≡ true
  words_pass =
      and_from (ends_in_noreply line.last) _ ends (and_from (is_lawful_key line.key) _ lawful (and_from (is_some line.flags) _ (ap is_some are_flags)
      (and_from (is_exptime line.exptime) _ spelled (and_from (is_some line.storage) _ (ap is_some is_storage)
      (and_from (ignores_exptime line.storage || is_zero line.exptime) true (or_right (ignores_exptime line.storage) (is_zero line.exptime) zero) refl)))))

  -- a line in which no check fails
  storage_asked : size ≤ DATA_BYTES → asked_of_block line ≡ StoredBlock (record { length = size; storage = storage; key = line.key; flags = flags; quiet = is_some line.last })
  storage_asked small =
      ap (asked_of_length line) is_size
      ∙ (ap (asked_with line size) (last_decides (word_checks line) (nat_le size DATA_BYTES) TOO_LARGE words_pass ∙ cond-true _ _ _ (le-leb size DATA_BYTES small))
      ∙ (λ i. StoredBlock (record { length = size; storage = unwrap_or (is_storage i) (Plain Set); key = line.key; flags = unwrap_or (are_flags i) 0; quiet = is_some line.last })))

  -- a line in which the last one fails
  too_large_asked : DATA_BYTES < size → asked_of_block line ≡ RefusedBlock size TOO_LARGE (is_some line.last)
  too_large_asked large =
      ap (asked_of_length line) is_size
      ∙ ap (asked_with line size) (last_decides (word_checks line) (nat_le size DATA_BYTES) TOO_LARGE words_pass ∙ cond-false _ _ _ (lt-leb size DATA_BYTES large))

-- the block with its end is stored
block_stored : (storage : Storage) (key : List ℕ) (flags : ℕ) (block : List ℕ) (quiet : Bool)
    → stored_request (record { length = length block; storage = storage; key = key; flags = flags; quiet = quiet }) (block_sent block) ≡ Logged (storing storage key flags block) quiet
block_stored storage key flags block quiet = λ i.
    stored_if (ends_well (drop_at block (13 ∷ 10 ∷ []) (length block) refl i)) (record { length = length block; storage = storage; key = key; flags = flags; quiet = quiet })
    (take_at block (13 ∷ 10 ∷ []) (length block) refl i)

text_of_block : (parts : List (List ℕ)) (storage : Storage) (key : List ℕ) (flags : ℕ) (block : List ℕ) (quiet : Bool) → are_fit parts ≡ true → length parts ≤ 7
    → asked_by parts ≡ StoredBlock (record { length = length block; storage = storage; key = key; flags = flags; quiet = quiet })
    → IsRequestText asked (line_sent parts ++ block_sent block) (Logged (storing storage key flags block) quiet)
text_of_block parts storage key flags block quiet fit few is =
    subst (IsRequestText asked (line_sent parts ++ block_sent block)) (block_stored storage key flags block quiet)
    (text_of_words parts (block_sent block) _ fit (few_words parts fit few) is (length-append block (13 ∷ 10 ∷ [])))

pub name_asked : (verb : Verb) (arguments : List (List ℕ)) → asked_by (verb_name verb ∷ arguments) ≡ asked_of_storage verb arguments
name_asked Set arguments = refl
name_asked Add arguments = refl
name_asked Replace arguments = refl
name_asked Append arguments = refl
name_asked Prepend arguments = refl

fit_name : (verb : Verb) → is_fit (verb_name verb) ≡ true
fit_name Set = refl
fit_name Add = refl
fit_name Replace = refl
fit_name Append = refl
fit_name Prepend = refl

-- the words of a storage line that is sent
module _ (key : List ℕ) (flags : ℕ) (block : List ℕ) (quiet : Bool) (lawful : IsTrue (is_lawful_key key)) (small : flags < 2 ^ 32) (short : length block ≤ 1048576) where
  are_flags : number_up_to FLAGS (decimal flags) ≡ Some flags
  are_flags = number_of_decimal FLAGS flags (omega (arith, small)) (omega (arith, small))

  is_size : number_up_to BLOCK_LENGTH (decimal (length block)) ≡ Some (length block)
  is_size = number_of_decimal BLOCK_LENGTH (length block) (omega (arith, short)) (omega (arith, short))

  fit_storage : (others : List (List ℕ)) → are_fit others ≡ true → are_fit (key ∷ decimal flags ∷ codes "0" ∷ decimal (length block) ∷ others) ≡ true
  fit_storage others fit =
      and_from (is_fit key) _ (fit_key key lawful) (and_from (is_fit (decimal flags)) _ (fit_decimal flags (omega (arith, small)))
      (and_from (is_fit (decimal (length block))) (are_fit others) (fit_decimal (length block) (omega (arith, short))) fit))

  line_asked : (given : Option Storage) (storage : Storage) (last : Option (List ℕ)) → given ≡ Some storage → ends_in_noreply last ≡ true
      → asked_of_block (record { storage = given; key = key; flags = number_up_to FLAGS (decimal flags); exptime = codes "0"; size = decimal (length block); last = last })
      ≡ StoredBlock (record { length = length block; storage = storage; key = key; flags = flags; quiet = is_some last })
  line_asked given storage last is_given ends =
      storage_asked (record { storage = given; key = key; flags = number_up_to FLAGS (decimal flags); exptime = codes "0"; size = decimal (length block); last = last })
      storage flags (length block) is_given are_flags is_size ends lawful refl refl short

  store_asked : (verb : Verb) (quiet : Bool) → asked_of_storage verb (key ∷ decimal flags ∷ codes "0" ∷ decimal (length block) ∷ noreply_if quiet)
      ≡ StoredBlock (record { length = length block; storage = Plain verb; key = key; flags = flags; quiet = quiet })
  store_asked verb false = line_asked (Some (Plain verb)) (Plain verb) None refl refl
  store_asked verb true = line_asked (Some (Plain verb)) (Plain verb) (Some (codes "noreply")) refl refl

  pub sent_store : (verb : Verb) → IsRequestText asked (sent (Store verb key flags block) quiet) (Logged (Store verb key flags block) quiet)
  sent_store verb =
      text_of_block (verb_name verb ∷ key ∷ decimal flags ∷ codes "0" ∷ decimal (length block) ∷ noreply_if quiet) (Plain verb) key flags block quiet
      (and_from (is_fit (verb_name verb)) _ (fit_name verb) (fit_storage (noreply_if quiet) (fit_noreply quiet))) (omega (arith, one_more quiet))
      (name_asked verb (key ∷ decimal flags ∷ codes "0" ∷ decimal (length block) ∷ noreply_if quiet) ∙ store_asked verb quiet)

  cas_asked : (unique : ℕ) (quiet : Bool) → unique < 2 ^ 64 → asked_of_cas (key ∷ decimal flags ∷ codes "0" ∷ decimal (length block) ∷ decimal unique ∷ noreply_if quiet)
      ≡ StoredBlock (record { length = length block; storage = CheckAndSet unique; key = key; flags = flags; quiet = quiet })
  cas_asked unique false fits = line_asked (check_and_set (decimal unique)) (CheckAndSet unique) None (ap (option_map CheckAndSet) (number_of_decimal UNIQUE unique (omega (arith, fits)) fits)) refl
  cas_asked unique true fits = line_asked (check_and_set (decimal unique)) (CheckAndSet unique) (Some (codes "noreply")) (ap (option_map CheckAndSet) (number_of_decimal UNIQUE unique (omega (arith, fits)) fits)) refl

  pub sent_cas : (unique : ℕ) → unique < 2 ^ 64 → IsRequestText asked (sent (Cas key flags block unique) quiet) (Logged (Cas key flags block unique) quiet)
  sent_cas unique fits =
      text_of_block (codes "cas" ∷ key ∷ decimal flags ∷ codes "0" ∷ decimal (length block) ∷ decimal unique ∷ noreply_if quiet) (CheckAndSet unique) key flags block quiet
      (fit_storage (decimal unique ∷ noreply_if quiet) (and_from (is_fit (decimal unique)) (are_fit (noreply_if quiet)) (fit_decimal unique fits) (fit_noreply quiet))) (omega (arith, one_more quiet))
      (cas_asked unique quiet fits)

-- Limits.
module _ (verb : Verb) (key : List ℕ) (flags size : ℕ) (quiet : Bool) (lawful : IsTrue (is_lawful_key key)) (small : flags < 2 ^ 32) (spelled : size < 2 ^ 64) where
  abbrev parts_sent : List (List ℕ)
  parts_sent = verb_name verb ∷ key ∷ decimal flags ∷ codes "0" ∷ decimal size ∷ noreply_if quiet

  fit_parts_sent : are_fit parts_sent ≡ true
  fit_parts_sent =
      and_from (is_fit (verb_name verb)) _ (fit_name verb) (and_from (is_fit key) _ (fit_key key lawful) (and_from (is_fit (decimal flags)) _ (fit_decimal flags (omega (arith, small)))
      (and_from (is_fit (decimal size)) (are_fit (noreply_if quiet)) (fit_decimal size spelled) (fit_noreply quiet))))

  abbrev line_of : Option (List ℕ) → StorageLine
  line_of last = record { storage = Some (Plain verb); key = key; flags = number_up_to FLAGS (decimal flags); exptime = codes "0"; size = decimal size; last = last }

  large_line : (last : Option (List ℕ)) → ends_in_noreply last ≡ true → 1048576 < size → size ≤ 2147483645 → asked_of_block (line_of last) ≡ RefusedBlock size TOO_LARGE (is_some last)
  large_line last ends large readable =
      too_large_asked (line_of last) (Plain verb) flags size refl (number_of_decimal FLAGS flags (omega (arith, small)) (omega (arith, small))) (number_of_decimal BLOCK_LENGTH size (omega (arith, readable)) spelled) ends lawful refl refl (omega (arith, large))

  large_asked : (noreply : Bool) → 1048576 < size → size ≤ 2147483645 → asked_of_storage verb (key ∷ decimal flags ∷ codes "0" ∷ decimal size ∷ noreply_if noreply) ≡ RefusedBlock size TOO_LARGE noreply
  large_asked false large readable = large_line None refl large readable
  large_asked true large readable = large_line (Some (codes "noreply")) refl large readable

  pub large_refused : (block : List ℕ) → length block ≡ size → 1048576 < size → size ≤ 2147483645 → IsRequestText asked (line_sent parts_sent ++ block_sent block) (refused TOO_LARGE quiet)
  large_refused block is_length large readable =
      text_of_words parts_sent (block_sent block) (RefusedBlock size TOO_LARGE quiet) fit_parts_sent (few_words parts_sent fit_parts_sent (omega (arith, one_more quiet)))
      (name_asked verb (key ∷ decimal flags ∷ codes "0" ∷ decimal size ∷ noreply_if quiet) ∙ large_asked quiet large readable) (omega (arith, is_length, length-append block (13 ∷ 10 ∷ [])))

  unreadable : 2147483645 < size → number_up_to BLOCK_LENGTH (decimal size) ≡ None
  unreadable large = number_up_to-none BLOCK_LENGTH (decimal size) (λ number. omega (arith, number.1, (decimal_is_IsNumeral size spelled).1, large))

  unreadable_asked : (noreply : Bool) → 2147483645 < size → asked_of_storage verb (key ∷ decimal flags ∷ codes "0" ∷ decimal size ∷ noreply_if noreply) ≡ LineOnly (refused BAD_FORMAT false)
  unreadable_asked false large = ap (asked_of_length (line_of None)) (unreadable large)
  unreadable_asked true large = ap (asked_of_length (line_of (Some (codes "noreply")))) (unreadable large)

  pub unreadable_refused : 2147483645 < size → IsRequestText asked (line_sent parts_sent) (refused BAD_FORMAT false)
  unreadable_refused large =
      text_of_few parts_sent (refused BAD_FORMAT false) fit_parts_sent (omega (arith, one_more quiet)) (name_asked verb (key ∷ decimal flags ∷ codes "0" ∷ decimal size ∷ noreply_if quiet) ∙ unreadable_asked quiet large)

pub long_line_refused : (text : List ℕ) → length text ≡ 65537 → IsUnbroken text → IsRequestText asked text TooLong
long_line_refused text long unbroken = inr (record { long = long; unbroken = unbroken; is_too_long = refl })
