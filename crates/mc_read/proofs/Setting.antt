-- What an administrator's lines ask for: what is sent to set quotas is read as that, and nothing
-- else sets any.
use Rattle.std.proofs.Common.{◌≡◌, ℕ, zero, suc, ◌<◌, ◌≤◌, Bool, true, false, ◌&&◌, cond, List, [], ◌∷◌, length, decimal, codes, Option, Some, None, unwrap_or, inl, inr, refl, sym, ◌∙◌, ap, subst, ⊎_elim, arith}
use Rattle.std.proofs.lemmas.Bool.{and_from, and_parts, cases_lt, cond-true, le-leb, leb-true, lt-leb, lt-ltb, ne_eqb}
use Rattle.std.specs.List.{list_all}
use Rattle.std.specs.Prelude.{⊤, IsTrue}
use Rattle.mc_model.specs.declared.command.Command.{Command}
use Rattle.mc_model.specs.declared.reply.Reply.TheVariants.{Version}
use Rattle.mc_model.specs.declared.request.Request.{Request}
use Rattle.mc_model.specs.declared.request.Request.TheVariants.{Limit, Local, Logged, Quit, TooLong}
use Rattle.mc_model.specs.declared.settings.Limits.{Limits}
use Rattle.mc_model.specs.declared.settings.TheConstants.{MAX_BYTES, MAX_ITEMS}
use Rattle.mc_model.specs.Name.{is_lawful_name, is_name_byte}
use Rattle.mc_model.specs.Number.{number_up_to}
use Rattle.mc_model.specs.Settings.{AreLawfulLimits, both_quotas, limits_named, positive}
use Rattle.mc_read.specs.declared.line.Asked.{Asked}
use Rattle.mc_read.specs.declared.line.Asked.TheVariants.{LineOnly, RefusedBlock, StoredBlock}
use Rattle.mc_read.specs.Administering.{asked_by_admin, asked_of_admin, asked_of_limit, asked_of_quotas, asked_of_setting}
use Rattle.mc_read.specs.Line.{asked_of_name, malformed}
use Rattle.mc_read.specs.Sending.{noreply_if, setting_sent}
use Rattle.mc_read.specs.Text.{IsRequestText, body_length, request_of}
use Rattle.mc_read.specs.Word.{is_noreply, is_word, words}
use Rattle.mc_read.proofs.Lawful.{within_limit}
use Rattle.mc_read.proofs.Sending.{are_fit, fit_decimal, fit_noreply, is_above_space, is_fit, number_of_decimal, one_more, text_by_few}

-- What is sent.
above_from_name_byte : (byte : ℕ) → is_name_byte byte ≡ true → 32 < byte
above_from_name_byte byte is =
    ⊎_elim
    (λ above. above)
    (λ below.
    let no_letter = lt-leb 97 byte (omega (arith, below)) in
    let no_digit = lt-leb 48 byte (omega (arith, below)) in
    let no_dash = ne_eqb byte 45 (λ same. omega (arith, same, below)) in
    let no_line = ne_eqb byte 95 (λ same. omega (arith, same, below)) in
    let fails : false ≡ true = rw (no_letter, no_digit, no_dash, no_line) at is in
    absurd (cc))
    (cases_lt 32 byte)

above_from_name : (bytes : List ℕ) → list_all is_name_byte bytes ≡ true → is_above_space bytes ≡ true
above_from_name [] lawful = refl
above_from_name (byte ∷ bytes) lawful =
    let parts = and_parts (is_name_byte byte) (list_all is_name_byte bytes) lawful in
    and_from _ (is_above_space bytes) (lt-ltb 32 byte (above_from_name_byte byte parts.0)) (above_from_name bytes parts.1)

fit_name : (name : List ℕ) → is_lawful_name name ≡ true → is_fit name ≡ true
fit_name name lawful =
    let parts = and_parts _ _ lawful in
    let sizes = and_parts _ _ parts.0 in
    let few = leb-true (length name) _ sizes.1 in
    and_from _ _ (and_from _ _ sizes.0 (le-leb (length name) 250 (omega (arith, few)))) (above_from_name name parts.1)

positive_some : (number : ℕ) → 0 < number → positive (Some number) ≡ Some number
positive_some zero some = absurd (omega (arith, some))
positive_some (suc number) some = refl

module _ (name : List ℕ) (items bytes : ℕ) (lawful : is_lawful_name name ≡ true) (some_items : 1 ≤ items) (few_items : items ≤ MAX_ITEMS) (some_bytes : 1 ≤ bytes) (few_bytes : bytes ≤ MAX_BYTES) where
  limits_sent : limits_named (decimal items) (decimal bytes) ≡ Some (record { items = items; bytes = bytes })
  limits_sent =
      let first = ap positive (number_of_decimal MAX_ITEMS items few_items (omega (arith, few_items))) ∙ positive_some items (omega (arith, some_items)) in
      let second = ap positive (number_of_decimal MAX_BYTES bytes few_bytes (omega (arith, few_bytes))) ∙ positive_some bytes (omega (arith, some_bytes)) in
      λ i. both_quotas (first i) (second i)

  setting_asked : (quiet : Bool) → asked_of_setting true name (decimal items) (decimal bytes) quiet ≡ LineOnly (Limit name (record { items = items; bytes = bytes }) quiet)
  setting_asked quiet =
      cond-true (is_lawful_name name) (asked_of_quotas name (limits_named (decimal items) (decimal bytes)) quiet) malformed lawful
      ∙ ap (λ limits. asked_of_quotas name limits quiet) limits_sent

  limit_asked : (quiet : Bool) → asked_of_admin (codes "limit" ∷ name ∷ decimal items ∷ decimal bytes ∷ noreply_if quiet) ≡ LineOnly (Limit name (record { items = items; bytes = bytes }) quiet)
  limit_asked false = setting_asked false
  limit_asked true = setting_asked true

  pub sent_setting : (quiet : Bool) → IsRequestText asked_by_admin (setting_sent name items bytes quiet) (Limit name (record { items = items; bytes = bytes }) quiet)
  sent_setting quiet =
      let parts = codes "limit" ∷ name ∷ decimal items ∷ decimal bytes ∷ noreply_if quiet in
      let fit : are_fit parts ≡ true =
      and_from (is_fit name) _ (fit_name name lawful) (and_from (is_fit (decimal items)) _ (fit_decimal items (omega (arith, few_items)))
      (and_from (is_fit (decimal bytes)) (are_fit (noreply_if quiet)) (fit_decimal bytes (omega (arith, few_bytes))) (fit_noreply quiet))) in
      text_by_few asked_of_admin parts (Limit name (record { items = items; bytes = bytes }) quiet) fit (omega (arith, one_more quiet)) (limit_asked quiet)

-- What is read.
-- a line alone, which logs no command, and sets valid quotas under a valid name if it sets any
abbrev AsksAsAdmin : Asked → Type 0
AsksAsAdmin (LineOnly (Logged command quiet)) = ⊥
AsksAsAdmin (LineOnly (Local reply quiet)) = ⊤
AsksAsAdmin (LineOnly (Limit name limits quiet)) = IsTrue (is_lawful_name name) × AreLawfulLimits limits
AsksAsAdmin (LineOnly Quit) = ⊤
AsksAsAdmin (LineOnly TooLong) = ⊤
AsksAsAdmin (RefusedBlock size refusal quiet) = ⊥
AsksAsAdmin (StoredBlock header) = ⊥

module _ (name : List ℕ) (quiet : Bool) (lawful : is_lawful_name name ≡ true) where
  asks_of_quotas : (items bytes : Option ℕ) → unwrap_or items 0 ≤ MAX_ITEMS → unwrap_or bytes 0 ≤ MAX_BYTES → AsksAsAdmin (asked_of_quotas name (both_quotas (positive items) (positive bytes)) quiet)
  asks_of_quotas None bytes few_items few_bytes = tt
  asks_of_quotas (Some zero) bytes few_items few_bytes = tt
  asks_of_quotas (Some (suc items)) None few_items few_bytes = tt
  asks_of_quotas (Some (suc items)) (Some zero) few_items few_bytes = tt
  asks_of_quotas (Some (suc items)) (Some (suc bytes)) few_items few_bytes =
      (lawful, record { items = (omega arith, few_items); bytes = (omega arith, few_bytes) })

asks_of_setting : (is_lawful : Bool) (name items bytes : List ℕ) (quiet : Bool) → AsksAsAdmin (asked_of_setting is_lawful name items bytes quiet)
asks_of_setting is_lawful name items bytes quiet = by_test (is_lawful && is_lawful_name name) refl
  where
    by_test : (test : Bool) → (is_lawful && is_lawful_name name) ≡ test → AsksAsAdmin (cond test (asked_of_quotas name (limits_named items bytes) quiet) malformed)
    by_test true passes =
        asks_of_quotas name quiet (and_parts is_lawful (is_lawful_name name) passes).1 (number_up_to MAX_ITEMS items) (number_up_to MAX_BYTES bytes) (within_limit MAX_ITEMS items) (within_limit MAX_BYTES bytes)
    by_test false fails = tt

asks_of_limit : (arguments : List (List ℕ)) → AsksAsAdmin (asked_of_limit arguments)
asks_of_limit [] = tt
asks_of_limit (name ∷ []) = tt
asks_of_limit (name ∷ items ∷ []) = tt
asks_of_limit (name ∷ items ∷ bytes ∷ []) = asks_of_setting true name items bytes false
asks_of_limit (name ∷ items ∷ bytes ∷ last ∷ []) = asks_of_setting (is_noreply last) name items bytes true
asks_of_limit (name ∷ items ∷ bytes ∷ last ∷ other ∷ others) = tt

asks_of_name : (request : Request) (arguments : List (List ℕ)) → AsksAsAdmin (LineOnly request) → AsksAsAdmin (asked_of_name request arguments)
asks_of_name request [] lawful = lawful
asks_of_name request (word ∷ others) lawful = tt

-- by a test, one of two lines that do
asks_either : (test : Bool) (a b : Asked) → AsksAsAdmin a → AsksAsAdmin b → AsksAsAdmin (cond test a b)
asks_either true a b first second = first
asks_either false a b first second = second

asks_of_admin : (parts : List (List ℕ)) → AsksAsAdmin (asked_of_admin parts)
asks_of_admin [] = tt
asks_of_admin (name ∷ arguments) =
    asks_either (is_word name (codes "limit")) _ _ (asks_of_limit arguments)
    (asks_either (is_word name (codes "version")) _ _ (asks_of_name (Local Version false) arguments tt)
    (asks_either (is_word name (codes "quit")) _ _ (asks_of_name Quit arguments tt) tt))

line_alone : (a : Asked) → AsksAsAdmin a → body_length a ≡ 0
line_alone (LineOnly request) asks = refl
line_alone (RefusedBlock size refusal quiet) asks = absurd asks
line_alone (StoredBlock header) asks = absurd asks

pub no_block : (line : List ℕ) → body_length (asked_by_admin line) ≡ 0
no_block line = line_alone (asked_by_admin line) (asks_of_admin (words line))

request_alone : (a : Asked) (body : List ℕ) (request : Request) → AsksAsAdmin a → request ≡ request_of a body → AsksAsAdmin (LineOnly request)
request_alone (LineOnly other) body request asks is = subst (λ r. AsksAsAdmin (LineOnly r)) (sym is) asks
request_alone (RefusedBlock size refusal quiet) body request asks is = absurd asks
request_alone (StoredBlock header) body request asks is = absurd asks

admins_text : (text : List ℕ) (request : Request) → IsRequestText asked_by_admin text request → AsksAsAdmin (LineOnly request)
admins_text text request (inl is) = request_alone (asked_by_admin is.line) is.body request (asks_of_admin (words is.line)) is.is_asked
admins_text text request (inr is) = subst (λ r. AsksAsAdmin (LineOnly r)) (sym is.is_too_long) tt

pub no_logged : (text : List ℕ) (command : Command) (quiet : Bool) → IsRequestText asked_by_admin text (Logged command quiet) → ⊥
no_logged text command quiet is = admins_text text (Logged command quiet) is

pub lawful_setting : (text name : List ℕ) (limits : Limits) (quiet : Bool) → IsRequestText asked_by_admin text (Limit name limits quiet) → IsTrue (is_lawful_name name) × AreLawfulLimits limits
lawful_setting text name limits quiet is = admins_text text (Limit name limits quiet) is
