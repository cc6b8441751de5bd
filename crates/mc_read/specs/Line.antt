-- What a line asks for: one function of its words, in which the first check that fails decides.
-- After memcached's doc/protocol.txt, "Storage commands", "Retrieval command", "Deletion",
-- "Increment/Decrement", "Other commands" and "Error strings". The order of the checks and what a
-- refusal takes with it are this project's profile.
use Rattle.std.specs.Prelude.{ℕ, ◌≤◌, Bool, true, false, ◌&&◌, ◌||◌, nat_le, if◌then◌else◌, List, [], ◌∷◌, Option, Some, None, is_some, unwrap_or, option_map, codes}
use Rattle.std.specs.List.{list_all}
use Rattle.mc_model.specs.declared.command.Command.{Command}
use Rattle.mc_model.specs.declared.command.Command.TheVariants.{Decr, Delete, Flush, Get, Incr}
use Rattle.mc_model.specs.declared.command.Verb.{Verb}
use Rattle.mc_model.specs.declared.command.Verb.TheVariants.{Add, Append, Prepend, Replace, Set}
use Rattle.mc_model.specs.declared.item.TheConstants.{DATA_BYTES}
use Rattle.mc_model.specs.declared.key.Key.{Key}
use Rattle.mc_model.specs.declared.reply.Reply.TheVariants.{Refused, Version}
use Rattle.mc_model.specs.declared.reply.TheConstants.WireNo.{BAD_DELTA, BAD_FORMAT, NO_EXPIRY, TOO_LARGE, UNKNOWN_COMMAND}
use Rattle.mc_model.specs.declared.reply.WireNo.{WireNo}
use Rattle.mc_model.specs.declared.reply.WireNo.TheVariants.{E1, E2, E9}
use Rattle.mc_model.specs.declared.request.Request.{Request}
use Rattle.mc_model.specs.declared.request.Request.TheVariants.{Local, Logged, Quit}
use Rattle.mc_model.specs.Key.{is_lawful_key}
use Rattle.mc_model.specs.Number.{number_up_to}
use Rattle.mc_read.specs.declared.line.Asked.{Asked}
use Rattle.mc_read.specs.declared.line.Asked.TheVariants.{LineOnly, RefusedBlock, StoredBlock}
use Rattle.mc_read.specs.declared.without_block.Change.{Change}
use Rattle.mc_read.specs.declared.without_block.Change.TheVariants as change
use Rattle.mc_read.specs.declared.line.Storage.{Storage}
use Rattle.mc_read.specs.declared.line.Storage.TheVariants.{CheckAndSet, Plain}
use Rattle.mc_read.specs.declared.line.TheConstants.{BLOCK_LENGTH, DELTA, FLAGS, UNIQUE}
use Rattle.mc_read.specs.Word.{is_exptime, is_noreply, is_word, is_zero, words}

-- a refusal, which is answered without the log
abbrev pub refused : WireNo → Bool → Request
refused refusal quiet = Local (Refused refusal) quiet

-- an unknown name, or a number of words that no line of this name has
abbrev pub no_command : Asked
no_command = LineOnly (refused UNKNOWN_COMMAND false)

-- words that are malformed, without a block
abbrev pub malformed : Asked
malformed = LineOnly (refused BAD_FORMAT false)

-- checks in order, each with its refusal
abbrev pub Checks : Type 0
Checks = List (Bool × WireNo)

-- the refusal of the first check that fails
abbrev pub first_failure : Checks → Option WireNo
first_failure [] = None
first_failure (check ∷ checks) = if check.0 then first_failure checks else Some check.1

-- whether a refusal of a line that says noreply is quiet: not if the line's name, format or delta
-- is refused, which are UNKNOWN_COMMAND, BAD_FORMAT and BAD_DELTA, here by their variants
abbrev pub is_quiet_refusal : WireNo → Bool
is_quiet_refusal E1 = false
is_quiet_refusal E2 = false
is_quiet_refusal E9 = false
is_quiet_refusal other = true

-- Lines without a block.
-- a command that is quiet if its line says noreply, or the refusal
abbrev pub asked_unless : Option WireNo → Command → Bool → Asked
asked_unless None command noreply = LineOnly (Logged command noreply)
asked_unless (Some refusal) command noreply =
    LineOnly (refused refusal (is_quiet_refusal refusal && noreply))

abbrev pub asked_after : Checks → Command → Bool → Asked
asked_after checks command noreply = asked_unless (first_failure checks) command noreply

-- one invalid key refuses the line
abbrev pub asked_of_retrieval : Bool → List (List ℕ) → Asked
asked_of_retrieval uniques [] = no_command
asked_of_retrieval uniques (key ∷ keys) =
    asked_after
    ((list_all is_lawful_key (key ∷ keys), BAD_FORMAT) ∷ [])
    (Get (key ∷ keys) uniques) false

-- a key; after it a 0, noreply, or both in this order
abbrev pub asked_of_delete : List (List ℕ) → Asked
asked_of_delete (key ∷ []) =
    asked_after ((is_lawful_key key, BAD_FORMAT) ∷ []) (Delete key) false
asked_of_delete (key ∷ last ∷ []) =
    asked_after
    ((is_word last (codes "0") || is_noreply last, BAD_FORMAT)
    ∷ (is_lawful_key key, BAD_FORMAT) ∷ [])
    (Delete key) (is_noreply last)
asked_of_delete (key ∷ time ∷ last ∷ []) =
    asked_after
    ((is_word time (codes "0"), BAD_FORMAT)
    ∷ (is_noreply last, BAD_FORMAT) ∷ (is_lawful_key key, BAD_FORMAT) ∷ [])
    (Delete key) true
asked_of_delete arguments = no_command

-- a change of a key's number by a delta
abbrev pub changed : Change → Key → ℕ → Command
changed change.Incr key by = Incr key by
changed change.Decr key by = Decr key by

-- a key and a delta, which is `None` if it isn't a number; the word after these may have to be
-- valid
abbrev pub asked_of_delta : Change → Bool → Key → Option ℕ → Bool → Asked
asked_of_delta change is_lawful key delta noreply =
    asked_after
    ((is_lawful, BAD_FORMAT) ∷ (is_lawful_key key, BAD_FORMAT) ∷ (is_some delta, BAD_DELTA) ∷ [])
    (changed change key (unwrap_or delta 0)) noreply

abbrev pub asked_of_change : Change → List (List ℕ) → Asked
asked_of_change change (key ∷ delta ∷ []) =
    asked_of_delta change true key (number_up_to DELTA delta) false
asked_of_change change (key ∷ delta ∷ last ∷ []) =
    asked_of_delta change (is_noreply last) key (number_up_to DELTA delta) true
asked_of_change change arguments = no_command

-- an exptime that is spelled as one, and is zero
abbrev pub exptime_checks : List ℕ → Checks
exptime_checks exptime = (is_exptime exptime, BAD_FORMAT) ∷ (is_zero exptime, NO_EXPIRY) ∷ []

-- an exptime, noreply, or both in this order
abbrev pub asked_of_flush : List (List ℕ) → Asked
asked_of_flush [] = asked_after [] Flush false
asked_of_flush (word ∷ []) =
    if is_noreply word then asked_after [] Flush true
    else asked_after (exptime_checks word) Flush false
asked_of_flush (exptime ∷ last ∷ []) =
    asked_after ((is_noreply last, BAD_FORMAT) ∷ exptime_checks exptime) Flush true
asked_of_flush arguments = no_command

-- a name with no arguments
abbrev pub asked_of_name : Request → List (List ℕ) → Asked
asked_of_name request [] = LineOnly request
asked_of_name request arguments = no_command

-- Lines with a block.
-- the words of a storage line after its name, with a last word in the longer form; how the block is
-- stored is `None` if the unique of cas isn't a number, and so are the flags if they aren't one
pub record StorageLine : Type 0 where
  pub storage : Option Storage
  pub key : List ℕ
  pub flags : Option ℕ
  pub exptime : List ℕ
  pub size : List ℕ
  pub last : Option (List ℕ)

-- the last word of the longer form, if there is one, is noreply
abbrev pub ends_in_noreply : Option (List ℕ) → Bool
ends_in_noreply None = true
ends_in_noreply (Some word) = is_noreply word

-- append and prepend leave the item's exptime as it is, and ignore the value of theirs
abbrev pub ignores_exptime : Option Storage → Bool
ignores_exptime (Some (Plain Append)) = true
ignores_exptime (Some (Plain Prepend)) = true
ignores_exptime other = false

-- the checks of a storage line whose block has this length, except for the two bytes after the
-- block
abbrev pub storage_checks : StorageLine → ℕ → Checks
storage_checks line length =
    (ends_in_noreply line.last, BAD_FORMAT)
    ∷ (is_lawful_key line.key, BAD_FORMAT)
    ∷ (is_some line.flags, BAD_FORMAT)
    ∷ (is_exptime line.exptime, BAD_FORMAT)
    ∷ (is_some line.storage, BAD_FORMAT)
    ∷ (ignores_exptime line.storage || is_zero line.exptime, NO_EXPIRY)
    ∷ (nat_le length DATA_BYTES, TOO_LARGE)
    ∷ []

-- what becomes of a block of this length; if no check failed, neither the storage nor the flags are
-- `None`
abbrev pub asked_with : StorageLine → ℕ → Option WireNo → Asked
asked_with line length None =
    StoredBlock (record {
      length = length;
      storage = unwrap_or line.storage (Plain Set);
      key = line.key;
      flags = unwrap_or line.flags 0;
      quiet = is_some line.last;
    })
asked_with line length (Some refusal) =
    RefusedBlock length refusal (is_quiet_refusal refusal && is_some line.last)

-- without a readable length there is no block, and the format is refused
abbrev pub asked_of_length : StorageLine → Option ℕ → Asked
asked_of_length line None = malformed
asked_of_length line (Some length) =
    asked_with line length (first_failure (storage_checks line length))

abbrev pub asked_of_block : StorageLine → Asked
asked_of_block line = asked_of_length line (number_up_to BLOCK_LENGTH line.size)

-- the words that all six commands have
abbrev pub asked_of_words : Option Storage → List ℕ → List ℕ → List ℕ → List ℕ →
    Option (List ℕ) → Asked
asked_of_words storage key flags exptime size last =
    asked_of_block (record {
      storage = storage;
      key = key;
      flags = number_up_to FLAGS flags;
      exptime = exptime;
      size = size;
      last = last;
    })

-- a line of set, add, replace, append or prepend
abbrev pub asked_of_storage : Verb → List (List ℕ) → Asked
asked_of_storage verb (key ∷ flags ∷ exptime ∷ size ∷ []) =
    asked_of_words (Some (Plain verb)) key flags exptime size None
asked_of_storage verb (key ∷ flags ∷ exptime ∷ size ∷ last ∷ []) =
    asked_of_words (Some (Plain verb)) key flags exptime size (Some last)
asked_of_storage verb arguments = no_command

-- cas with its unique, if that is a number
abbrev pub check_and_set : List ℕ → Option Storage
check_and_set unique = option_map CheckAndSet (number_up_to UNIQUE unique)

abbrev pub asked_of_cas : List (List ℕ) → Asked
asked_of_cas (key ∷ flags ∷ exptime ∷ size ∷ unique ∷ []) =
    asked_of_words (check_and_set unique) key flags exptime size None
asked_of_cas (key ∷ flags ∷ exptime ∷ size ∷ unique ∷ last ∷ []) =
    asked_of_words (check_and_set unique) key flags exptime size (Some last)
asked_of_cas arguments = no_command

-- All lines.
-- the storage command with this name, except for cas
abbrev pub verb_named : List ℕ → Option Verb
verb_named name =
    if is_word name (codes "set") then Some Set
    else if is_word name (codes "add") then Some Add
    else if is_word name (codes "replace") then Some Replace
    else if is_word name (codes "append") then Some Append
    else if is_word name (codes "prepend") then Some Prepend
    else None

-- what a line asks for whose name stores nothing, reads nothing and counts nothing
abbrev pub asked_of_others : List ℕ → List (List ℕ) → Asked
asked_of_others name arguments =
    if is_word name (codes "delete") then asked_of_delete arguments
    else if is_word name (codes "flush_all") then asked_of_flush arguments
    else if is_word name (codes "version") then asked_of_name (Local Version false) arguments
    else if is_word name (codes "quit") then asked_of_name Quit arguments
    else no_command

-- what a line asks for whose name stores nothing
abbrev pub asked_without_block : List ℕ → List (List ℕ) → Asked
asked_without_block name arguments =
    if is_word name (codes "get") then asked_of_retrieval false arguments
    else if is_word name (codes "gets") then asked_of_retrieval true arguments
    else if is_word name (codes "incr") then asked_of_change change.Incr arguments
    else if is_word name (codes "decr") then asked_of_change change.Decr arguments
    else asked_of_others name arguments

abbrev pub asked_by_verb : Option Verb → List ℕ → List (List ℕ) → Asked
asked_by_verb (Some verb) name arguments = asked_of_storage verb arguments
asked_by_verb None name arguments =
    if is_word name (codes "cas") then asked_of_cas arguments
    else asked_without_block name arguments

-- what a line asks for, by the name of the command, byte for byte; a line without words has none
abbrev pub asked_by : List (List ℕ) → Asked
asked_by [] = no_command
asked_by (name ∷ arguments) = asked_by_verb (verb_named name) name arguments

-- what a line asks for; the line comes without its line feed
abbrev pub asked : List ℕ → Asked
asked line = asked_by (words line)

-- a block has a length that a line can name, and is small enough if it is to be stored
abbrev pub HasLawfulBlock : Asked → Type 0
HasLawfulBlock (LineOnly request) = Unit {0}
HasLawfulBlock (RefusedBlock length refusal quiet) = length ≤ BLOCK_LENGTH
HasLawfulBlock (StoredBlock header) = header.length ≤ DATA_BYTES
