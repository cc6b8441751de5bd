-- What a client sends for a command, after memcached's doc/protocol.txt, "Storage commands",
-- "Retrieval command", "Deletion", "Increment/Decrement" and "Other commands", with one space
-- between two words and an exptime of 0.
use Rattle.std.specs.Prelude.{ℕ, ◌^◌, ◌<◌, ◌≤◌, Bool, if◌then◌else◌, List, [], ◌∷◌, ◌++◌, length, codes, decimal, All, IsTrue}
use Rattle.std.specs.List.{join_with_byte}
use Rattle.mc_model.specs.declared.command.Command.{Command}
use Rattle.mc_model.specs.declared.command.Command.TheVariants.{Cas, Decr, Delete, Flush, Get, Incr, Limit, Store}
use Rattle.mc_model.specs.declared.command.Verb.{Verb}
use Rattle.mc_model.specs.declared.command.Verb.TheVariants.{Add, Append, Prepend, Replace, Set}
use Rattle.mc_model.specs.declared.item.Data.{Data}
use Rattle.mc_model.specs.declared.name.Name.{Name}
use Rattle.mc_model.specs.Key.{is_lawful_key}

-- <command name>
abbrev pub verb_name : Verb → List ℕ
verb_name Set = codes "set"
verb_name Add = codes "add"
verb_name Replace = codes "replace"
verb_name Append = codes "append"
verb_name Prepend = codes "prepend"

-- [noreply]
abbrev pub noreply_if : Bool → List (List ℕ)
noreply_if quiet = if quiet then codes "noreply" ∷ [] else []

-- a command line: its words, separated by the space byte, and its end
abbrev pub line_sent : List (List ℕ) → List ℕ
line_sent words = join_with_byte 32 words ++ codes "\r\n"

-- <data block>\r\n
abbrev pub block_sent : Data → List ℕ
block_sent block = block ++ codes "\r\n"

-- what is sent for a command, which asks for no reply if it is to be quiet; a retrieval always asks
-- for one, and nothing that a tenant's client sends sets quotas
abbrev pub sent : Command → Bool → List ℕ
sent (Store verb key flags block) quiet =
    line_sent
    (verb_name verb ∷ key ∷ decimal flags ∷ codes "0" ∷ decimal (length block) ∷ noreply_if quiet)
    ++ block_sent block
sent (Cas key flags block unique) quiet =
    line_sent
    (codes "cas" ∷ key ∷ decimal flags ∷ codes "0" ∷ decimal (length block) ∷ decimal unique
    ∷ noreply_if quiet)
    ++ block_sent block
sent (Get keys uniques) quiet = line_sent ((if uniques then codes "gets" else codes "get") ∷ keys)
sent (Delete key) quiet = line_sent (codes "delete" ∷ key ∷ noreply_if quiet)
sent (Incr key by) quiet = line_sent (codes "incr" ∷ key ∷ decimal by ∷ noreply_if quiet)
sent (Decr key by) quiet = line_sent (codes "decr" ∷ key ∷ decimal by ∷ noreply_if quiet)
sent Flush quiet = line_sent (codes "flush_all" ∷ noreply_if quiet)
sent (Limit limits) quiet = []

-- what an administrator sends to set a tenant's quotas:
-- limit <name> <items> <bytes> [noreply]
abbrev pub setting_sent : Name → ℕ → ℕ → Bool → List ℕ
setting_sent name items bytes quiet =
    line_sent (codes "limit" ∷ name ∷ decimal items ∷ decimal bytes ∷ noreply_if quiet)

-- a command whose keys are valid, with numbers and data that a line can name; no line of a tenant's
-- client sets quotas
abbrev pub IsLawfulCommand : Command → Type 0
IsLawfulCommand (Store verb key flags block) =
    IsTrue (is_lawful_key key) × (flags < 2 ^ 32) × (length block ≤ 1048576)
IsLawfulCommand (Cas key flags block unique) =
    IsTrue (is_lawful_key key) × (flags < 2 ^ 32) × (length block ≤ 1048576) × (unique < 2 ^ 64)
IsLawfulCommand (Get keys uniques) =
    (0 < length keys) × All (λ key. IsTrue (is_lawful_key key)) keys
IsLawfulCommand (Delete key) = IsTrue (is_lawful_key key)
IsLawfulCommand (Incr key by) = IsTrue (is_lawful_key key) × (by < 2 ^ 64)
IsLawfulCommand (Decr key by) = IsTrue (is_lawful_key key) × (by < 2 ^ 64)
IsLawfulCommand Flush = Unit {0}
IsLawfulCommand (Limit limits) = ⊥
