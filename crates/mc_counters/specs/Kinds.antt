-- The kinds of commands, by the names of their lines, and of refusals, by their texts; after
-- memcached's doc/protocol.txt.
use Rattle.std.specs.Prelude.{ℕ, if◌then◌else◌, length}
use Rattle.mc_model.specs.declared.command.Command.{Command}
use Rattle.mc_model.specs.declared.command.Command.TheVariants as command
use Rattle.mc_model.specs.declared.command.Verb.{Verb}
use Rattle.mc_model.specs.declared.command.Verb.TheVariants as verb
use Rattle.mc_model.specs.declared.reply.WireNo.{WireNo}
use Rattle.mc_model.specs.declared.reply.WireNo.TheVariants.{E1, E2, E3, E4, E5, E6, E7, E8, E9, E10, E11}
use Rattle.mc_counters.specs.declared.kinds.Asked.{Asked}
use Rattle.mc_counters.specs.declared.kinds.CommandKind.{CommandKind}
use Rattle.mc_counters.specs.declared.kinds.CommandKind.TheVariants.{Get, Gets, Set, Add, Replace, Append, Prepend, Cas, Delete, Incr, Decr, Flush, Limit}

-- the kind of a storage command without a unique
abbrev pub kind_of_verb : Verb → CommandKind
kind_of_verb verb.Set = Set
kind_of_verb verb.Add = Add
kind_of_verb verb.Replace = Replace
kind_of_verb verb.Append = Append
kind_of_verb verb.Prepend = Prepend

-- the kind of a command
abbrev pub kind_of : Command → CommandKind
kind_of (command.Store verb key flags block) = kind_of_verb verb
kind_of (command.Cas key flags block unique) = Cas
kind_of (command.Get keys uniques) = if uniques then Gets else Get
kind_of (command.Delete key) = Delete
kind_of (command.Incr key by) = Incr
kind_of (command.Decr key by) = Decr
kind_of command.Flush = Flush
kind_of (command.Limit limits) = Limit

-- how many keys a command retrieves
abbrev pub keys_asked : Command → ℕ
keys_asked (command.Get keys uniques) = length keys
keys_asked _ = 0

-- what a command asks for
abbrev pub asked_for_by : Command → Asked
asked_for_by command = record { kind = kind_of command; keys = keys_asked command }

-- at which place counts keep a kind of commands
abbrev pub place_of_kind : CommandKind → ℕ
place_of_kind Get = 0
place_of_kind Gets = 1
place_of_kind Set = 2
place_of_kind Add = 3
place_of_kind Replace = 4
place_of_kind Append = 5
place_of_kind Prepend = 6
place_of_kind Cas = 7
place_of_kind Delete = 8
place_of_kind Incr = 9
place_of_kind Decr = 10
place_of_kind Flush = 11
place_of_kind Limit = 12

-- at which place counts keep a kind of refusals
abbrev pub place_of_refusal : WireNo → ℕ
place_of_refusal E1 = 0
place_of_refusal E2 = 1
place_of_refusal E3 = 2
place_of_refusal E4 = 3
place_of_refusal E5 = 4
place_of_refusal E6 = 5
place_of_refusal E7 = 6
place_of_refusal E8 = 7
place_of_refusal E9 = 8
place_of_refusal E10 = 9
place_of_refusal E11 = 10
