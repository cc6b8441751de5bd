-- What a program does for the words of its command line that ask for no service: help and the
-- version, mistakes, and words that can't be read. Generic over the program's name and its command,
-- by clap's own definitions; this project's profile.
use Rattle.std.specs.Option.{option_map_or}
use Rattle.std.specs.Prelude.{◌≡◌, ◌≢◌, ◌⊎◌, ◌-◌, ◌^◌, ℕ, Bool, true, false, List, Option, Some, codes, option_and_then, unwrap_or}
use Rattle.std.specs.Str.{bytes_eq}
use Rattle.std.specs.Str.Parse.{without_leading_plus}
use Rattle.clap.specs.Faults.{fault_of}
use Rattle.clap.specs.Kinds.{IsAmong}
use Rattle.clap.specs.Simple.{App, matches_of, new_app, new_rule, on_top}
use Rattle.clap.specs.Matches.{one_text}
use Rattle.clap.specs.Walk.{Rule, Text, one_of}
use Rattle.clap.specs.declared.builder.action.ArgAction.TheVariants.{SetTrue}
use Rattle.clap.specs.declared.builder.value_parser.ValueParser.TheVariants.{Unsigned}
use Rattle.clap.specs.declared.error.kind.ErrorKind.{ErrorKind}
use Rattle.clap.specs.declared.error.kind.ErrorKind.TheVariants.{DisplayHelp, DisplayVersion, OutOfMemory}
use Rattle.clap.specs.declared.parser.matches.Found.{Found}
use Rattle.mc_model.specs.Number.{number_up_to}
use Rattle.mc_model.specs.declared.fault.Fault.{Fault}
use Rattle.mc_model.specs.declared.fault.Fault.TheVariants.{Memory}
use Rattle.mc_programs.specs.Faults.{fault_line, program_line}
use Rattle.mc_programs.specs.Waiting.{FailsToPush, PushesAll}
use Rattle.mc_stream.specs.Pushing.{PushesOrFails}
use Rattle.mc_stream.specs.Stream.{Outflow, Streams}

-- a command without its options: `--help` and `--version` only; the words begin after the program's
-- name
abbrev pub bare_app : Text → App
bare_app name =
    on_top (λ shape. record shape { has_version = true; no_binary_name = true }) (new_app name)

-- an option `--name N`, a number of 64 bits
abbrev pub number_rule : Text → Rule
number_rule name = record (new_rule name) {
  long = Some name;
  value_names = 1;
  parser = Some (Unsigned 0 (2 ^ 64 - 1));
}

-- an option `--name` without a value
abbrev pub flag_rule : Text → Rule
flag_rule name = record (new_rule name) { long = Some name; action = Some SetTrue }

-- the number of 64 bits that a text spells; it may begin with a plus
abbrev pub u64_of : Text → Option ℕ
u64_of text = number_up_to (2 ^ 64 - 1) (without_leading_plus text)

-- the number that was given for an option, in what was matched
abbrev pub number_given : Found → Text → Option ℕ
number_given found name = option_and_then u64_of (one_text found name)

-- the number that words ask for by an option of a command, or a default if they don't have the
-- option
abbrev pub number_asked : App → Text → ℕ → List Text → ℕ
number_asked app name default words =
    unwrap_or (option_and_then u64_of (one_of name (matches_of app words))) default

-- words have an option of a command that takes no value
abbrev pub flag_asked : App → Text → List Text → Bool
flag_asked app name words =
    option_map_or (λ (text : Text). bytes_eq text (codes "true"))
    (one_of name (matches_of app words)) false

-- an option that takes no value was given, in what was matched
abbrev pub flag_given : Found → Text → Bool
flag_given found name =
    option_map_or (λ (text : Text). bytes_eq text (codes "true")) (one_text found name) false

-- clap returns an error of this kind for the words
abbrev pub ClapReturns : App → List Text → ErrorKind → Type 0
ClapReturns app words kind = IsAmong kind (fault_of app words)

-- help or the version, which are no mistakes
abbrev pub IsShown : ErrorKind → Type 0
IsShown kind = (kind ≡ DisplayHelp) ⊎ (kind ≡ DisplayVersion)

-- a mistake in the words, and neither help or the version nor out of memory
abbrev pub IsMistake : ErrorKind → Type 0
IsMistake kind = (kind ≢ OutOfMemory) × ¬ (IsShown kind)

-- the words ask for help or the version
abbrev pub AsksToShow : App → List Text → Type 0
AsksToShow app words = (kind : ErrorKind) × ClapReturns app words kind × IsShown kind

-- the words are a mistake
abbrev pub IsMistaken : App → List Text → Type 0
IsMistaken app words = (kind : ErrorKind) × ClapReturns app words kind × ¬ (IsShown kind)

-- The words ask for help or the version. A text was pushed, nothing was pulled, and neither stream
-- failed.
pub record ShowsHelp (app : App) (words : List Text) (before after : Streams) : Type 0 where
  pub asks : AsksToShow app words
  pub unread : after.input ≡ before.input
  pub text : List ℕ
  pub went : PushesAll text before.output after.output

-- what went to the output before a fault: nothing if memory ran out, and a prefix of what is shown
-- if the output failed
abbrev pub StopsShowing : Type 0 → Outflow → Outflow → Fault → Type 0
StopsShowing is_shown before after fault =
    (fault ≡ Memory) × (after ≡ before)
    ⊎ is_shown × ((text : List ℕ) × FailsToPush text before after fault)

-- A fault kept words from being answered, and was reported.
pub record FailsToAnswer (program : List ℕ) (kind : ErrorKind)
    (before after errors_before errors : Outflow) : Type 0 where
  pub fault : Fault
  pub stops : StopsShowing (IsShown kind) before after fault
  pub told : PushesOrFails (fault_line program fault) errors_before errors

-- how words that ask for no service are answered, by the status: help or the version is shown, a
-- fault is reported, or a mistake is
abbrev pub AnswersWords : List ℕ → ErrorKind → ℕ → Outflow → Outflow → Outflow → Outflow → Type 0
AnswersWords program kind status before after errors_before errors =
    (status ≡ 0) × IsShown kind
    × ((text : List ℕ) × PushesAll text before after) × (errors ≡ errors_before)
    ⊎ (status ≡ 1) × FailsToAnswer program kind before after errors_before errors
    ⊎ (status ≡ 2) × IsMistake kind
    × ((text : List ℕ) × PushesOrFails text errors_before errors) × (after ≡ before)

-- A fault kept the words from being read or answered, and was reported. Nothing was pulled.
pub record FailsToShow (program : List ℕ) (app : App) (words : List Text) (before after : Streams)
    (errors_before errors : Outflow) : Type 0 where
  pub fault : Fault
  pub unread : after.input ≡ before.input
  pub stops : StopsShowing (AsksToShow app words) before.output after.output fault
  pub told : PushesOrFails (fault_line program fault) errors_before errors

-- the words are a mistake, for which a text was pushed
pub record TellsMistake (app : App) (words : List Text)
    (errors_before errors : Outflow) : Type 0 where
  pub mistaken : IsMistaken app words
  pub text : List ℕ
  pub told : PushesOrFails text errors_before errors

-- what becomes of words that ask for no service, by the status: help or the version is shown, a
-- fault is reported, or a mistake is; nothing is pulled
abbrev pub EndsUnserved : List ℕ → App → List Text → ℕ → Streams → Streams → Outflow → Outflow →
    Type 0
EndsUnserved program app words status before after errors_before errors =
    (status ≡ 0) × ShowsHelp app words before after × (errors ≡ errors_before)
    ⊎ (status ≡ 1) × FailsToShow program app words before after errors_before errors
    ⊎ (status ≡ 2) × TellsMistake app words errors_before errors × (after.output ≡ before.output)

-- the line for words that aren't UTF-8
abbrev pub unreadable_line : List ℕ → List ℕ
unreadable_line program = program_line program (codes "the command line is not UTF-8")
