-- Quotas that an administrator's line sets are those of its words.
use Rattle.std.proofs.Common.{◌≡◌, ℕ, zero, suc, Bool, true, false, cond, List, [], ◌∷◌, ◌++◌, length, take, drop, Option, Some, None, codes, inl, inr, refl, sym, ap, subst, arith}
use Rattle.mc_model.specs.declared.reply.Reply.{Reply}
use Rattle.mc_model.specs.declared.reply.Reply.TheVariants.{Version}
use Rattle.mc_model.specs.declared.request.Request.{Request}
use Rattle.mc_model.specs.declared.request.Request.TheVariants.{Limit, Local, Logged, Quit, TooLong}
use Rattle.mc_model.specs.declared.settings.Limits.{Limits}
use Rattle.mc_model.specs.declared.settings.TheConstants.{MAX_BYTES, MAX_ITEMS}
use Rattle.mc_model.specs.Name.{is_lawful_name}
use Rattle.mc_model.specs.Number.{number_up_to}
use Rattle.mc_model.specs.Settings.{both_quotas, limits_named, positive}
use Rattle.mc_laws.proofs.LineWords.{IsTold, same_line, same_word, says_noreply, spelled_by}
use Rattle.mc_laws.specs.Lines.{IsLimitLineOf}
use Rattle.mc_read.specs.declared.line.Asked.{Asked}
use Rattle.mc_read.specs.declared.line.Asked.TheVariants.{LineOnly, RefusedBlock, StoredBlock}
use Rattle.mc_read.specs.declared.line.Header.{Header}
use Rattle.mc_read.specs.Administering.{asked_by_admin, asked_of_admin, asked_of_limit, asked_of_quotas, asked_of_setting}
use Rattle.mc_read.specs.Line.{asked_of_name, malformed}
use Rattle.mc_read.specs.Sending.{noreply_if}
use Rattle.mc_read.specs.Text.{IsRequestText, IsUnbroken, body_length, ends_well, request_of, stored_if}
use Rattle.mc_read.specs.Word.{is_noreply, is_word, words}

-- a request is that of these words; so is what a line with these words asks for
abbrev IsOwn : List (List ℕ) → Request → Type 0
IsOwn parts (Logged command quiet) = ⊥
IsOwn parts (Local reply quiet) = IsTold parts reply quiet
IsOwn parts (Limit name limits quiet) = IsLimitLineOf name limits quiet parts []
IsOwn parts Quit = parts ≡ codes "quit" ∷ []
IsOwn parts TooLong = ⊥

abbrev Asks : List (List ℕ) → Asked → Type 0
Asks parts (LineOnly request) = IsOwn parts request
Asks parts (RefusedBlock size refusal quiet) = ⊥
Asks parts (StoredBlock header) = ⊥

module _ (name items bytes : List ℕ) (more : List (List ℕ)) (quiet : Bool) where
  abbrev limit_words : List (List ℕ)
  limit_words = codes "limit" ∷ name ∷ items ∷ bytes ∷ more

  asks_of_quotas : (ends : more ≡ noreply_if quiet) (number other : Option ℕ) → number_up_to MAX_ITEMS items ≡ number → number_up_to MAX_BYTES bytes ≡ other →
      Asks limit_words (asked_of_quotas name (both_quotas (positive number) (positive other)) quiet)
  asks_of_quotas ends None other is is_other = tt
  asks_of_quotas ends (Some zero) other is is_other = tt
  asks_of_quotas ends (Some (suc number)) None is is_other = tt
  asks_of_quotas ends (Some (suc number)) (Some zero) is is_other = tt
  asks_of_quotas ends (Some (suc number)) (Some (suc other)) is is_other = (
    items,
    bytes,
    ap (λ m. codes "limit" ∷ name ∷ items ∷ bytes ∷ m) ends,
    spelled_by MAX_ITEMS items (suc number) is,
    spelled_by MAX_BYTES bytes (suc other) is_other,
    refl,
  )

  asks_of_setting : (is_lawful : Bool) → (is_lawful ≡ true → more ≡ noreply_if quiet) → Asks limit_words (asked_of_setting is_lawful name items bytes quiet)
  asks_of_setting false ends = tt
  asks_of_setting true ends = by_test (is_lawful_name name)
    where
      by_test : (test : Bool) → Asks limit_words (cond test (asked_of_quotas name (limits_named items bytes) quiet) malformed)
      by_test true = asks_of_quotas (ends refl) (number_up_to MAX_ITEMS items) (number_up_to MAX_BYTES bytes) refl refl
      by_test false = tt

asks_of_limit : (arguments : List (List ℕ)) → Asks (codes "limit" ∷ arguments) (asked_of_limit arguments)
asks_of_limit [] = tt
asks_of_limit (name ∷ []) = tt
asks_of_limit (name ∷ items ∷ []) = tt
asks_of_limit (name ∷ items ∷ bytes ∷ []) = asks_of_setting name items bytes [] false true (λ ends. refl)
asks_of_limit (name ∷ items ∷ bytes ∷ last ∷ []) = asks_of_setting name items bytes (last ∷ []) true (is_noreply last) (says_noreply last)
asks_of_limit (name ∷ items ∷ bytes ∷ last ∷ other ∷ others) = tt

asks_of_name : (name : List ℕ) (request : Request) (arguments : List (List ℕ)) → IsOwn (name ∷ []) request → Asks (name ∷ arguments) (asked_of_name request arguments)
asks_of_name name request [] asks = asks
asks_of_name name request (word ∷ others) asks = tt

by_name : (name known : List ℕ) (arguments : List (List ℕ)) (a b : Asked) → Asks (known ∷ arguments) a → Asks (name ∷ arguments) b → Asks (name ∷ arguments) (cond (is_word name known) a b)
by_name name known arguments a b same other = by_test (is_word name known) refl
  where
    by_test : (test : Bool) → is_word name known ≡ test → Asks (name ∷ arguments) (cond test a b)
    by_test true is = subst (λ n. Asks (n ∷ arguments) a) (sym (same_word name known is)) same
    by_test false is = other

asks_of_admin : (parts : List (List ℕ)) → Asks parts (asked_of_admin parts)
asks_of_admin [] = tt
asks_of_admin (name ∷ arguments) =
    by_name name (codes "limit") arguments _ _ (asks_of_limit arguments)
    (by_name name (codes "version") arguments _ _ (asks_of_name (codes "version") (Local Version false) arguments (refl, refl))
    (by_name name (codes "quit") arguments _ _ (asks_of_name (codes "quit") Quit arguments refl) tt))

-- what an administrator's line asks for besides quotas
module _ (line : List ℕ) where
  pub admin_quit_line : asked_by_admin line ≡ LineOnly Quit → words line ≡ codes "quit" ∷ []
  admin_quit_line is = subst (Asks (words line)) is (asks_of_admin (words line))

  pub admin_told_line : (reply : Reply) (quiet : Bool) → asked_by_admin line ≡ LineOnly (Local reply quiet) → IsTold (words line) reply quiet
  admin_told_line reply quiet is = subst (Asks (words line)) is (asks_of_admin (words line))

  pub no_long_admin_line : asked_by_admin line ≡ LineOnly TooLong → ⊥
  no_long_admin_line is = subst (Asks (words line)) is (asks_of_admin (words line))

module _ (parts : List (List ℕ)) (name : List ℕ) (limits : Limits) (quiet : Bool) where
  none_stored : (header : Header) (block : List ℕ) (is_whole : Bool) → stored_if is_whole header block ≡ Limit name limits quiet → ⊥
  none_stored header block true is = cc
  none_stored header block false is = cc

  line_of_request : (a : Asked) (body : List ℕ) → Asks parts a → length body ≡ body_length a → request_of a body ≡ Limit name limits quiet → IsLimitLineOf name limits quiet parts body
  line_of_request (LineOnly request) body asks whole is = subst (IsLimitLineOf name limits quiet parts) (sym (none body whole)) (subst (IsOwn parts) is asks)
    where
      none : (bytes : List ℕ) → length bytes ≡ 0 → bytes ≡ []
      none [] is_none = refl
      none (byte ∷ bytes) is_none = absurd (omega (arith, is_none))
  line_of_request (RefusedBlock size refusal noreply) body asks whole is = cc
  line_of_request (StoredBlock header) body asks whole is = absurd (none_stored header (take header.length body) (ends_well (drop header.length body)) is)

pub limit_line_of_text : (line body name : List ℕ) (limits : Limits) (quiet : Bool) → IsUnbroken line → IsRequestText asked_by_admin (line ++ 10 ∷ body) (Limit name limits quiet) →
    IsLimitLineOf name limits quiet (words line) body
limit_line_of_text line body name limits quiet unbroken (inl is) =
    let same = same_line line body is.line is.body unbroken is.unbroken is.in_text in
    let found = line_of_request (words is.line) name limits quiet (asked_by_admin is.line) is.body (asks_of_admin (words is.line)) is.whole (sym is.is_asked) in
    subst (λ rest. IsLimitLineOf name limits quiet (words line) rest) same.1 (subst (λ own. IsLimitLineOf name limits quiet (words own) is.body) same.0 found)
limit_line_of_text line body name limits quiet unbroken (inr is) = absurd (never is.is_too_long)
  where
    never : Limit name limits quiet ≡ TooLong → ⊥
    never same = cc
