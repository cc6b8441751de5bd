-- What is printed while wfmc's tenants are served, and how its run ends; this project's profile.
use Rattle.std.specs.List.{AllZip}
use Rattle.std.specs.Prelude.{◌≡◌, ◌⊎◌, ℕ, List, [], ◌++◌, Contains, None, codes, map}
use Rattle.clap.specs.Walk.{Text}
use Rattle.mc_model.specs.declared.fault.Fault.{Fault}
use Rattle.mc_model.specs.declared.fault.Fault.TheVariants.{Memory, BadSettings}
use Rattle.mc_model.specs.Settings.{Configuration}
use Rattle.mc_net.specs.Halting.{IsNetworkFault}
use Rattle.mc_programs.specs.Faults.{fault_line}
use Rattle.mc_server.specs.Listeners.{IsListeningFor, listeners_asked}
use Rattle.mc_server.specs.Logs.{WereServed}
use Rattle.mc_server.specs.NetworkTexts.{cannot_listen_line, done_line, ready_text}
use Rattle.mc_server.specs.Checking.{ChecksWords}
use Rattle.mc_server.specs.NetworkWords.{AsksForCheck, AsksForNone, AsksForService, NetworkAsked, given_by_words, network_app, settings_asked}
use Rattle.mc_programs.specs.Waiting.{FailsToPush, PushesAll}
use Rattle.mc_programs.specs.Words.{FailsToShow, ShowsHelp, TellsMistake}
use Rattle.mc_server.specs.declared.listeners.Stop.{Stop}
use Rattle.mc_server.specs.declared.listeners.Stop.TheVariants.{CannotListen, Failed}
use Rattle.mc_server.specs.declared.network_texts.Listening.{Listening}
use Rattle.mc_stream.specs.Pushing.{PushesOrFails}
use Rattle.mc_stream.specs.Stream.{Outflow, Streams, both}

-- an output without an input
abbrev pub alone : Outflow → Streams
alone output = both (record { events = []; left = None }) output

-- it was printed which listener is at which address
abbrev pub IsReady : List Listening → Outflow → Outflow → Type 0
IsReady listening before after = PushesAll (ready_text listening) before after

-- it was printed which listener is at which address, and then, when all had been served over at
-- most this many logs, how many places were used in total
abbrev pub EndsServing : Configuration → ℕ → List Listening → Outflow → Outflow → Type 0
EndsServing settings most listening before after =
    (number : ℕ) × WereServed settings most number
    × PushesAll (ready_text listening ++ done_line number) before after

-- what was printed if a fault ended the service: nothing or the listeners' lines, if memory ran out
-- or waiting for connections failed; or a prefix of all that is to be printed, if the output failed
abbrev pub StopsServing : Configuration → ℕ → List Listening → Outflow → Outflow → Fault →
    Type 0
StopsServing settings most listening before after fault =
    IsNetworkFault fault × (after ≡ before)
    ⊎ IsNetworkFault fault × IsReady listening before after
    ⊎ FailsToPush (ready_text listening) before after fault
    ⊎ ((number : ℕ) × WereServed settings most number
    × FailsToPush (ready_text listening ++ done_line number) before after fault)

-- the listeners' names
abbrev pub names_of : NetworkAsked → List Text
names_of asked = map (λ listener. listener.name) (listeners_asked asked)

-- what was printed if a run stopped: nothing if an address can't be listened on, or memory ran out
-- before all listeners were bound; and otherwise what the fault leaves
abbrev pub StopsRun : NetworkAsked → Outflow → Outflow → Stop → Type 0
StopsRun asked before after (CannotListen name) =
    Contains (names_of asked) name.now × (after ≡ before)
StopsRun asked before after (Failed fault) =
    (fault ≡ Memory) × (after ≡ before)
    ⊎ ((listening : List Listening) × AllZip IsListeningFor (listeners_asked asked) listening
    × StopsServing (settings_asked asked) asked.generations listening before after fault)

-- the line that reports why a run stopped
abbrev pub stop_line : Stop → List ℕ
stop_line (CannotListen name) = cannot_listen_line name.now
stop_line (Failed fault) = fault_line (codes "wfmc") fault

-- A run stopped, and the reason was reported.
pub record FailsToServe (asked : NetworkAsked)
    (before after errors_before errors : Outflow) : Type 0 where
  pub stop : Stop
  pub stops : StopsRun asked before after stop
  pub told : PushesOrFails (stop_line stop) errors_before errors

-- Each tenant had a listener, and administrators and metrics one if it was asked for, all
-- connections were served, and the listeners' lines and how many places were used were printed.
pub record ServesTenants (asked : NetworkAsked) (before after : Outflow) : Type 0 where
  pub listening : List Listening
  pub is_told : AllZip IsListeningFor (listeners_asked asked) listening
  pub served : EndsServing (settings_asked asked) asked.generations listening before after

-- what the words ask for was served, or help or the version was shown
abbrev pub WfmcEndsWell : List Text → Outflow → Outflow → Type 0
WfmcEndsWell words before after =
    ((asked : NetworkAsked) × AsksForService words asked × ServesTenants asked before after)
    ⊎ ShowsHelp network_app words (alone before) (alone after)

-- an address can't be listened on, or a fault ended the service, or kept the words from being read
-- or answered; it was reported
abbrev pub WfmcEndsInFault : List Text → Outflow → Outflow → Outflow → Outflow → Type 0
WfmcEndsInFault words before after errors_before errors =
    ((asked : NetworkAsked) × AsksForService words asked
    × FailsToServe asked before after errors_before errors)
    ⊎ FailsToShow (codes "wfmc") network_app words (alone before) (alone after) errors_before errors

-- the words ask for nothing that can be served, or are a mistake, and that was reported
abbrev pub WfmcRefuses : List Text → Outflow → Outflow → Type 0
WfmcRefuses words errors_before errors =
    AsksForNone words × PushesOrFails (fault_line (codes "wfmc") BadSettings) errors_before errors
    ⊎ TellsMistake network_app words errors_before errors

-- how a run of wfmc ends, by its status
abbrev pub WfmcEnds : List Text → ℕ → Outflow → Outflow → Outflow → Outflow → Type 0
WfmcEnds words status before after errors_before errors =
    AsksForCheck words
    × ChecksWords (given_by_words words) status before after errors_before errors
    ⊎ (status ≡ 0) × WfmcEndsWell words before after × (errors ≡ errors_before)
    ⊎ (status ≡ 1) × WfmcEndsInFault words before after errors_before errors
    ⊎ (status ≡ 2) × WfmcRefuses words errors_before errors × (after ≡ before)
