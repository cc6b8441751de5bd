-- The commands of an event list: one function of the words of each. They are memcached's, one line
-- each, with the data as a word, and the one that sets the tenant's quotas; this form is this
-- project's profile.
use Rattle.std.specs.Prelude.{ℕ, Bool, true, false, ◌&&◌, nat_lt, nat_le, if◌then◌else◌, List, [], ◌∷◌, length, Option, Some, None, option_map, codes}
use Rattle.std.specs.List.{list_all}
use Rattle.mc_model.specs.declared.command.Command.{Command}
use Rattle.mc_model.specs.declared.command.Command.TheVariants.{Cas, Decr, Delete, Flush, Get, Incr, Limit, Store}
use Rattle.mc_model.specs.declared.command.Verb.{Verb}
use Rattle.mc_model.specs.declared.command.Verb.TheVariants.{Add, Append, Prepend, Replace, Set}
use Rattle.mc_model.specs.declared.item.Data.{Data}
use Rattle.mc_model.specs.declared.item.TheConstants.{DATA_BYTES}
use Rattle.mc_model.specs.declared.key.Key.{Key}
use Rattle.mc_model.specs.Key.{is_lawful_key, key_of}
use Rattle.mc_model.specs.Number.{number_up_to}
use Rattle.mc_model.specs.Settings.{limits_named}
use Rattle.mc_read.specs.Word.{is_word}
use Rattle.mc_schedules.specs.declared.command.TheConstants.{FLAGS, NUMBER}

-- a byte of visible ASCII
abbrev pub is_data_byte : ℕ → Bool
is_data_byte byte = nat_lt 32 byte && nat_lt byte 127

-- the data that a word stands for: a dot for none, visible bytes for themselves, at most as many as
-- a block may have
abbrev pub data_of : List ℕ → Option Data
data_of word =
    if is_word word (codes ".") then Some []
    else if nat_le (length word) DATA_BYTES && list_all is_data_byte word then Some word
    else None

-- a storage command, if each of its words can be read
abbrev pub storage_command : Verb → Option Key → Option ℕ → Option Data → Option Command
storage_command verb (Some key) (Some flags) (Some block) = Some (Store verb key flags block)
storage_command verb key flags block = None

-- a key, flags and data
abbrev pub storage_of : Verb → List (List ℕ) → Option Command
storage_of verb (key ∷ flags ∷ block ∷ []) =
    storage_command verb (key_of key) (number_up_to FLAGS flags) (data_of block)
storage_of verb arguments = None

abbrev pub checking : Option Key → Option ℕ → Option ℕ → Option Data → Option Command
checking (Some key) (Some flags) (Some unique) (Some block) = Some (Cas key flags block unique)
checking key flags unique block = None

-- a key, flags, a unique and data
abbrev pub cas_of : List (List ℕ) → Option Command
cas_of (key ∷ flags ∷ unique ∷ block ∷ []) =
    checking (key_of key) (number_up_to FLAGS flags) (number_up_to NUMBER unique) (data_of block)
cas_of arguments = None

-- one or more keys
abbrev pub retrieval_of : Bool → List (List ℕ) → Option Command
retrieval_of uniques [] = None
retrieval_of uniques (key ∷ keys) =
    if list_all is_lawful_key (key ∷ keys) then Some (Get (key ∷ keys) uniques) else None

-- a key
abbrev pub deletion_of : List (List ℕ) → Option Command
deletion_of (key ∷ []) = option_map Delete (key_of key)
deletion_of arguments = None

abbrev pub changing : Option Key → Option ℕ → Option (Key × ℕ)
changing (Some key) (Some by) = Some (key, by)
changing key by = None

-- a key and a number
abbrev pub change_of : List (List ℕ) → Option (Key × ℕ)
change_of (key ∷ by ∷ []) = changing (key_of key) (number_up_to NUMBER by)
change_of arguments = None

-- no words
abbrev pub flush_of : List (List ℕ) → Option Command
flush_of [] = Some Flush
flush_of arguments = None

-- a quota of items and one of bytes
abbrev pub limit_of : List (List ℕ) → Option Command
limit_of (items ∷ bytes ∷ []) = option_map Limit (limits_named items bytes)
limit_of arguments = None

-- a command, by its name, byte for byte
abbrev pub command_of : List (List ℕ) → Option Command
command_of [] = None
command_of (name ∷ arguments) =
    if is_word name (codes "set") then storage_of Set arguments
    else if is_word name (codes "add") then storage_of Add arguments
    else if is_word name (codes "replace") then storage_of Replace arguments
    else if is_word name (codes "append") then storage_of Append arguments
    else if is_word name (codes "prepend") then storage_of Prepend arguments
    else if is_word name (codes "cas") then cas_of arguments
    else if is_word name (codes "get") then retrieval_of false arguments
    else if is_word name (codes "gets") then retrieval_of true arguments
    else if is_word name (codes "delete") then deletion_of arguments
    else if is_word name (codes "incr")
    then option_map (λ (change : Key × ℕ). Incr change.0 change.1) (change_of arguments)
    else if is_word name (codes "decr")
    then option_map (λ (change : Key × ℕ). Decr change.0 change.1) (change_of arguments)
    else if is_word name (codes "flush_all") then flush_of arguments
    else if is_word name (codes "limit") then limit_of arguments else None
