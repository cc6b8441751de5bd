-- Which command a line spells, by its words and by the body behind its line feed. After memcached's
-- doc/protocol.txt, "Storage commands", "Retrieval command", "Deletion", "Increment/Decrement" and
-- "Other commands". That a number may have any number of digits, what an exptime may be, and
-- `limit` are this project's profile. Only the contracts of laws rest on these definitions.
use Rattle.std.specs.Prelude.{◌≡◌, ◌⊎◌, ℕ, Bool, false, if◌then◌else◌, IsTrue, List, [], ◌∷◌, length, codes}
use Rattle.std.specs.Str.Parse.{IsNumeral, digits_value}
use Rattle.mc_model.specs.declared.command.Command.{Command}
use Rattle.mc_model.specs.declared.command.Command.TheVariants.{Store, Cas, Get, Delete, Incr, Decr, Flush, Limit}
use Rattle.mc_model.specs.declared.command.Verb.{Verb}
use Rattle.mc_model.specs.declared.command.Verb.TheVariants.{Set, Add, Replace, Append, Prepend}
use Rattle.mc_model.specs.declared.name.Name.{Name}
use Rattle.mc_model.specs.declared.settings.Limits.{Limits}
use Rattle.mc_read.specs.Sending.{block_sent, noreply_if, verb_name}
use Rattle.mc_read.specs.Word.{is_exptime, is_zero}

-- the word is decimal digits, however many, and their number is this one
abbrev pub SpellsNumber : List ℕ → ℕ → Type 0
SpellsNumber word number = IsNumeral 10 word × (digits_value 10 word ≡ number)

-- an exptime that is zero
abbrev pub IsZeroExptime : List ℕ → Type 0
IsZeroExptime word = IsTrue (is_exptime word) × IsTrue (is_zero word)

-- an exptime for this verb: zero, but any for append and prepend, which ignore it
abbrev pub IsExptimeOf : Verb → List ℕ → Type 0
IsExptimeOf Set exptime = IsZeroExptime exptime
IsExptimeOf Add exptime = IsZeroExptime exptime
IsExptimeOf Replace exptime = IsZeroExptime exptime
IsExptimeOf Append exptime = IsTrue (is_exptime exptime)
IsExptimeOf Prepend exptime = IsTrue (is_exptime exptime)

-- the line's words and its body are those of this command, which is quiet if noreply comes last.
-- The body of a storage line is the block, as many bytes as the line says, and its end; other lines
-- have none. A retrieval takes no noreply.
abbrev pub IsLineOf : Command → Bool → List (List ℕ) → List ℕ → Type 0
IsLineOf (Store verb key flags block) quiet words body =
    (digits exptime size : List ℕ)
    × (words ≡ verb_name verb ∷ key ∷ digits ∷ exptime ∷ size ∷ noreply_if quiet)
    × SpellsNumber digits flags × IsExptimeOf verb exptime
    × SpellsNumber size (length block) × (body ≡ block_sent block)
IsLineOf (Cas key flags block unique) quiet words body =
    (digits exptime size seen : List ℕ)
    × (words ≡ codes "cas" ∷ key ∷ digits ∷ exptime ∷ size ∷ seen ∷ noreply_if quiet)
    × SpellsNumber digits flags × IsZeroExptime exptime
    × SpellsNumber size (length block) × SpellsNumber seen unique × (body ≡ block_sent block)
IsLineOf (Get keys uniques) quiet words body =
    (words ≡ (if uniques then codes "gets" else codes "get") ∷ keys)
    × (quiet ≡ false) × (body ≡ [])
IsLineOf (Delete key) quiet words body =
    ((words ≡ codes "delete" ∷ key ∷ noreply_if quiet)
    ⊎ (words ≡ codes "delete" ∷ key ∷ codes "0" ∷ noreply_if quiet))
    × (body ≡ [])
IsLineOf (Incr key by) quiet words body =
    (delta : List ℕ) × (words ≡ codes "incr" ∷ key ∷ delta ∷ noreply_if quiet)
    × SpellsNumber delta by × (body ≡ [])
IsLineOf (Decr key by) quiet words body =
    (delta : List ℕ) × (words ≡ codes "decr" ∷ key ∷ delta ∷ noreply_if quiet)
    × SpellsNumber delta by × (body ≡ [])
IsLineOf Flush quiet words body =
    ((words ≡ codes "flush_all" ∷ noreply_if quiet)
    ⊎ ((exptime : List ℕ) × (words ≡ codes "flush_all" ∷ exptime ∷ noreply_if quiet)
    × IsZeroExptime exptime))
    × (body ≡ [])
IsLineOf (Limit limits) quiet words body = ⊥

-- the same for an administrator's line that sets these quotas under this name
abbrev pub IsLimitLineOf : Name → Limits → Bool → List (List ℕ) → List ℕ → Type 0
IsLimitLineOf name limits quiet words body =
    (items bytes : List ℕ) × (words ≡ codes "limit" ∷ name ∷ items ∷ bytes ∷ noreply_if quiet)
    × SpellsNumber items limits.items × SpellsNumber bytes limits.bytes × (body ≡ [])
