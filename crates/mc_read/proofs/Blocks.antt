-- A storage line with a readable length takes its block with it, whatever of it is refused.
use Rattle.std.proofs.Common.{◌≡◌, ℕ, ◌+◌, ◌≤◌, List, [], ◌∷◌, length, codes, Option, Some, None, refl, ◌∙◌, ap, arith}
use Rattle.std.specs.Str.Parse.{IsNumeral, digits_value}
use Rattle.mc_model.specs.declared.command.Verb.{Verb}
use Rattle.mc_model.specs.declared.reply.WireNo.{WireNo}
use Rattle.mc_model.specs.Number.{number_up_to}
use Rattle.mc_model.specs.Numerals.{IsNumber}
use Rattle.model_lemmas.proofs.NumberTests.{number_up_to-none, number_up_to-some}
use Rattle.mc_read.specs.declared.line.Storage.{Storage}
use Rattle.mc_read.specs.declared.line.Storage.TheVariants.{Plain}
use Rattle.mc_read.specs.declared.line.TheConstants.{BLOCK_LENGTH, FLAGS}
use Rattle.mc_read.specs.Line.{StorageLine, asked, asked_by, asked_of_block, asked_of_cas, asked_of_length, asked_of_storage, asked_of_words, asked_with, check_and_set, first_failure, storage_checks}
use Rattle.mc_read.specs.Sending.{verb_name}
use Rattle.mc_read.specs.Text.{body_length}
use Rattle.mc_read.specs.Word.{words}
use Rattle.mc_read.proofs.Sending.{name_asked}

-- a block of this length, whether it is stored or refused
body_with : (line : StorageLine) (size : ℕ) (failure : Option WireNo) → body_length (asked_with line size failure) ≡ size + 2
body_with line size None = refl
body_with line size (Some refusal) = refl

body_of : (line : StorageLine) → IsNumber BLOCK_LENGTH line.size → body_length (asked_of_block line) ≡ digits_value 10 line.size + 2
body_of line number =
    ap (λ size. body_length (asked_of_length line size)) (number_up_to-some BLOCK_LENGTH line.size number)
    ∙ body_with line (digits_value 10 line.size) (first_failure (storage_checks line (digits_value 10 line.size)))

no_body_of : (line : StorageLine) → (IsNumber BLOCK_LENGTH line.size → ⊥) → body_length (asked_of_block line) ≡ 0
no_body_of line none = ap (λ size. body_length (asked_of_length line size)) (number_up_to-none BLOCK_LENGTH line.size none)

abbrev line_of_words : Option Storage → List ℕ → List ℕ → List ℕ → List ℕ → Option (List ℕ) → StorageLine
line_of_words storage key flags exptime size last =
    record { storage = storage; key = key; flags = number_up_to FLAGS flags; exptime = exptime; size = size; last = last }

module _ (line key flags exptime size : List ℕ) where
  module _ (number : IsNumeral 10 size) (few : digits_value 10 size ≤ 2147483645) where
    abbrev its_block : (storage : Option Storage) (last : Option (List ℕ)) → body_length (asked_of_words storage key flags exptime size last) ≡ digits_value 10 size + 2
    its_block storage last = body_of (line_of_words storage key flags exptime size last) (number, few)

    block_of_verb : (verb : Verb) (last : List (List ℕ)) → length last ≤ 1 → body_length (asked_of_storage verb (key ∷ flags ∷ exptime ∷ size ∷ last)) ≡ digits_value 10 size + 2
    block_of_verb verb [] at_most = its_block (Some (Plain verb)) None
    block_of_verb verb (word ∷ []) at_most = its_block (Some (Plain verb)) (Some word)
    block_of_verb verb (word ∷ other ∷ others) at_most = absurd (omega (arith, at_most))

    block_of_cas : (unique : List ℕ) (last : List (List ℕ)) → length last ≤ 1 → body_length (asked_of_cas (key ∷ flags ∷ exptime ∷ size ∷ unique ∷ last)) ≡ digits_value 10 size + 2
    block_of_cas unique [] at_most = its_block (check_and_set unique) None
    block_of_cas unique (word ∷ []) at_most = its_block (check_and_set unique) (Some word)
    block_of_cas unique (word ∷ other ∷ others) at_most = absurd (omega (arith, at_most))

    pub block_goes_with_store : (verb : Verb) (last : List (List ℕ)) → length last ≤ 1 → words line ≡ verb_name verb ∷ key ∷ flags ∷ exptime ∷ size ∷ last → body_length (asked line) ≡ digits_value 10 size + 2
    block_goes_with_store verb last at_most are =
        ap (λ parts. body_length (asked_by parts)) are ∙ (ap body_length (name_asked verb (key ∷ flags ∷ exptime ∷ size ∷ last)) ∙ block_of_verb verb last at_most)

    pub block_goes_with_cas : (unique : List ℕ) (last : List (List ℕ)) → length last ≤ 1 → words line ≡ codes "cas" ∷ key ∷ flags ∷ exptime ∷ size ∷ unique ∷ last → body_length (asked line) ≡ digits_value 10 size + 2
    block_goes_with_cas unique last at_most are = ap (λ parts. body_length (asked_by parts)) are ∙ block_of_cas unique last at_most

  module _ (unreadable : IsNumeral 10 size → digits_value 10 size ≤ 2147483645 → ⊥) where
    abbrev no_block : (storage : Option Storage) (last : Option (List ℕ)) → body_length (asked_of_words storage key flags exptime size last) ≡ 0
    no_block storage last = no_body_of (line_of_words storage key flags exptime size last) (λ is. unreadable is.0 is.1)

    alone_with_verb : (verb : Verb) (last : List (List ℕ)) → length last ≤ 1 → body_length (asked_of_storage verb (key ∷ flags ∷ exptime ∷ size ∷ last)) ≡ 0
    alone_with_verb verb [] at_most = no_block (Some (Plain verb)) None
    alone_with_verb verb (word ∷ []) at_most = no_block (Some (Plain verb)) (Some word)
    alone_with_verb verb (word ∷ other ∷ others) at_most = absurd (omega (arith, at_most))

    alone_with_cas : (unique : List ℕ) (last : List (List ℕ)) → length last ≤ 1 → body_length (asked_of_cas (key ∷ flags ∷ exptime ∷ size ∷ unique ∷ last)) ≡ 0
    alone_with_cas unique [] at_most = no_block (check_and_set unique) None
    alone_with_cas unique (word ∷ []) at_most = no_block (check_and_set unique) (Some word)
    alone_with_cas unique (word ∷ other ∷ others) at_most = absurd (omega (arith, at_most))

    pub store_goes_alone : (verb : Verb) (last : List (List ℕ)) → length last ≤ 1 → words line ≡ verb_name verb ∷ key ∷ flags ∷ exptime ∷ size ∷ last → body_length (asked line) ≡ 0
    store_goes_alone verb last at_most are =
        ap (λ parts. body_length (asked_by parts)) are ∙ (ap body_length (name_asked verb (key ∷ flags ∷ exptime ∷ size ∷ last)) ∙ alone_with_verb verb last at_most)

    pub cas_goes_alone : (unique : List ℕ) (last : List (List ℕ)) → length last ≤ 1 → words line ≡ codes "cas" ∷ key ∷ flags ∷ exptime ∷ size ∷ unique ∷ last → body_length (asked line) ≡ 0
    cas_goes_alone unique last at_most are = ap (λ parts. body_length (asked_by parts)) are ∙ alone_with_cas unique last at_most
