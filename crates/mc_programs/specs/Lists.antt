-- What mc_schedule does for the words of its command line and the bytes that come; this project's
-- profile.
use Rattle.std.specs.Io.KnownBytes.{Consumes, IsAtEnd}
use Rattle.std.specs.Prelude.{◌≡◌, ◌⊎◌, ℕ, ◌+◌, ◌<◌, Bool, true, false, List, [], ◌++◌, length, Some, None, codes, decimal}
use Rattle.clap.specs.Faults.{fault_of}
use Rattle.clap.specs.Simple.{App, with_rule}
use Rattle.clap.specs.Walk.{Text}
use Rattle.mc_model.specs.Settings.{Configuration, IsLawful}
use Rattle.mc_model.specs.declared.fault.Fault.{Fault}
use Rattle.mc_model.specs.declared.fault.Fault.TheVariants.{Memory, Input, BadSettings}
use Rattle.mc_schedules.specs.declared.schedule.TheConstants.{INPUT_BYTES}
use Rattle.mc_schedules.specs.Doing.{DoesAll, Ending}
use Rattle.mc_schedules.specs.Report.{report}
use Rattle.mc_schedules.specs.Schedule.{BadLine, Listed, Whole, reading}
use Rattle.mc_programs.specs.Faults.{fault_line, program_line}
use Rattle.mc_programs.specs.Serving.{IsUnfailedInput}
use Rattle.mc_programs.specs.Waiting.{FailsToPush, PushesAll}
use Rattle.mc_programs.specs.Words.{FailsToShow, ShowsHelp, TellsMistake, bare_app, flag_asked, flag_rule}
use Rattle.mc_stream.specs.Event.{failures, has_ended, moved}
use Rattle.mc_stream.specs.Pushing.{PushesOrFails}
use Rattle.mc_stream.specs.Stream.{Inflow, Outflow, Streams}
use Rattle.uc_core.specs.Core.{CoreState, new_core}
use Rattle.uc_core.specs.Run.{Given}

-- the command: `--quiet` and `--picture`
abbrev pub schedule_app : App
schedule_app =
    with_rule (with_rule (bare_app (codes "mc_schedule")) (flag_rule (codes "quiet")))
    (flag_rule (codes "picture"))

-- the words ask for a report without replies
abbrev pub asks_quiet : List Text → Bool
asks_quiet words = flag_asked schedule_app (codes "quiet") words

-- the words ask for a picture before the report
abbrev pub asks_picture : List Text → Bool
asks_picture words = flag_asked schedule_app (codes "picture") words

-- The bytes that came: all up to the end of the input, or more than an event list may have.
pub record Receives (bytes : List ℕ) (before after : Inflow) : Type 0 where
  pub came : moved after.events ≡ moved before.events ++ bytes
  pub consumed : Consumes before.left after.left bytes
  pub whole : (has_ended after.events ≡ true) × IsAtEnd after.left ⊎ (INPUT_BYTES < length bytes)
  pub unfailed : IsUnfailedInput before after

-- the settings that a list names
abbrev pub settings_of : Listed → Configuration
settings_of list = record { workers = list.workers; places = list.places; tenants = list.tenants }

-- The bytes that came read as a list whose settings are within their bounds, and its run ended so;
-- this text is its report, after a picture if the words ask for one.
pub record Ran (words : List Text) (before after : Inflow) (end : Ending)
    (text : List ℕ) : Type 0 where
  pub taken : fault_of schedule_app words ≡ []
  pub bytes : List ℕ
  pub received : Receives bytes before after
  pub list : Listed
  pub reads : reading bytes ≡ Whole list
  pub lawful : IsLawful (settings_of list)
  pub core : CoreState
  pub given : List Given
  pub did : DoesAll list.items (new_core (settings_of list)) core given end
  pub picture : List ℕ
  pub undrawn : asks_picture words ≡ false → picture ≡ []
  pub told : text ≡ picture ++ report (asks_quiet words) core given end

-- The text of such a run was pushed, and neither stream failed.
abbrev pub Reports : List Text → Streams → Streams → Ending → Type 0
Reports words before after end =
    (text : List ℕ) × Ran words before.input after.input end text
    × PushesAll text before.output after.output

-- all of the list was done, and that was reported, or help or the version was shown
abbrev pub ScheduleEndsWell : List Text → Streams → Streams → Type 0
ScheduleEndsWell words before after =
    Reports words before after None ⊎ ShowsHelp schedule_app words before after

-- what the input did if a fault kept its bytes from being received or answered
abbrev pub StopsReading : Inflow → Inflow → Fault → Type 0
StopsReading before after fault =
    (fault ≡ Memory) × IsUnfailedInput before after
    ⊎ (fault ≡ Input) × (failures after.events ≡ failures before.events + 1)

-- What was read and pushed before a fault of the program: if memory ran out or the input failed,
-- nothing was pushed; if the output failed, a prefix of the text of a run was.
abbrev pub StopsReporting : List Text → Streams → Streams → Fault → Type 0
StopsReporting words before after fault =
    StopsReading before.input after.input fault × (after.output ≡ before.output)
    ⊎ ((end : Ending) × (text : List ℕ) × Ran words before.input after.input end text
    × FailsToPush text before.output after.output fault)

-- A fault of the program kept it from reporting, and was reported itself.
pub record FailsToReport (words : List Text) (before after : Streams)
    (errors_before errors : Outflow) : Type 0 where
  pub fault : Fault
  pub stops : StopsReporting words before after fault
  pub told : PushesOrFails (fault_line (codes "mc_schedule") fault) errors_before errors

-- an event met a fault, which the report names, or a fault of the program was reported
abbrev pub ScheduleEndsInFault : List Text → Streams → Streams → Outflow → Outflow → Type 0
ScheduleEndsInFault words before after errors_before errors =
    ((met : ℕ × Fault) × Reports words before after (Some met) × (errors ≡ errors_before))
    ⊎ FailsToReport words before after errors_before errors
    ⊎ FailsToShow (codes "mc_schedule") schedule_app words before after errors_before errors

-- the line on a list's first bad line
abbrev pub bad_line_text : ℕ → List ℕ
bad_line_text line =
    program_line (codes "mc_schedule") (codes "line " ++ decimal line ++ codes ": bad line")

-- The bytes that came have a bad line, and the first one was reported; or they name settings out of
-- their range, and that was reported.
abbrev pub RefusesList : List ℕ → Outflow → Outflow → Type 0
RefusesList bytes errors_before errors =
    ((line : ℕ) × (reading bytes ≡ BadLine line)
    × PushesOrFails (bad_line_text line) errors_before errors)
    ⊎ ((list : Listed) × (reading bytes ≡ Whole list) × ¬ (IsLawful (settings_of list))
    × PushesOrFails (fault_line (codes "mc_schedule") BadSettings) errors_before errors)

-- the list is refused, or the words are a mistake; either was reported
abbrev pub ScheduleRefuses : List Text → Inflow → Inflow → Outflow → Outflow → Type 0
ScheduleRefuses words before after errors_before errors =
    ((bytes : List ℕ) × (fault_of schedule_app words ≡ [])
    × Receives bytes before after × RefusesList bytes errors_before errors)
    ⊎ (after ≡ before) × TellsMistake schedule_app words errors_before errors

-- how a run of mc_schedule ends, by its status
abbrev pub ScheduleEnds : List Text → ℕ → Streams → Streams → Outflow → Outflow → Type 0
ScheduleEnds words status before after errors_before errors =
    (status ≡ 0) × ScheduleEndsWell words before after × (errors ≡ errors_before)
    ⊎ (status ≡ 1) × ScheduleEndsInFault words before after errors_before errors
    ⊎ (status ≡ 2) × ScheduleRefuses words before.input after.input errors_before errors
    × (after.output ≡ before.output)
