-- What the parts of mc_schedule's run give each other: the bytes that came, the answer to them, and
-- what is pushed of that; this project's profile.
use Rattle.std.specs.Prelude.{◌≡◌, ◌⊎◌, ℕ, false, List, [], ◌++◌, Some, None, codes}
use Rattle.clap.specs.Faults.{fault_of}
use Rattle.clap.specs.Walk.{Text}
use Rattle.mc_model.specs.Settings.{Configuration, IsLawful}
use Rattle.mc_model.specs.declared.fault.Fault.TheVariants as fault
use Rattle.mc_schedules.specs.declared.schedule.Item.{Item}
use Rattle.mc_schedules.specs.Doing.{DoesAll, Ending}
use Rattle.mc_schedules.specs.Report.{report}
use Rattle.mc_schedules.specs.Schedule.{BadLine, Listed, Whole, reading}
use Rattle.mc_programs.specs.declared.schedule.Answer.{Answer}
use Rattle.mc_programs.specs.declared.schedule.Answer.TheVariants as answer
use Rattle.mc_programs.specs.declared.schedule_words.ScheduleOptions.{ScheduleOptions}
use Rattle.mc_programs.specs.Faults.{fault_line}
use Rattle.mc_programs.specs.Lists.{Receives, asks_picture, asks_quiet, bad_line_text, schedule_app, settings_of}
use Rattle.mc_programs.specs.Waiting.{FailsToPush, PushesAll}
use Rattle.mc_stream.specs.Pushing.{PushesOrFails}
use Rattle.mc_stream.specs.Stream.{Inflow, Outflow}
use Rattle.uc_core.specs.Core.{CoreState, new_core}
use Rattle.uc_core.specs.Run.{Given}

-- The command takes the words, and they ask for these options.
pub record ScheduleAsksFor (words : List Text) (options : ScheduleOptions) : Type 0 where
  pub taken : fault_of schedule_app words ≡ []
  pub quiet : options.quiet ≡ asks_quiet words
  pub picture : options.picture ≡ asks_picture words

-- The items were done under these settings, the run ended so, and this is its report, after a
-- picture if one is asked for.
pub record RunsItems (settings : Configuration) (items : List Item) (options : ScheduleOptions)
    (end : Ending) (text : List ℕ) : Type 0 where
  pub core : CoreState
  pub given : List Given
  pub did : DoesAll items (new_core settings) core given end
  pub picture : List ℕ
  pub undrawn : options.picture ≡ false → picture ≡ []
  pub told : text ≡ picture ++ report options.quiet core given end

-- The bytes read as a list whose settings are within their bounds, its run ended so, and this text
-- is printed for it.
pub record IsReportOf (options : ScheduleOptions) (bytes : List ℕ) (end : Ending)
    (text : List ℕ) : Type 0 where
  pub list : Listed
  pub reads : reading bytes ≡ Whole list
  pub lawful : IsLawful (settings_of list)
  pub runs : RunsItems (settings_of list) list.items options end text

-- the answer to the bytes
abbrev pub IsAnswerTo : ScheduleOptions → List ℕ → Answer → Type 0
IsAnswerTo options bytes (answer.Report text end) = IsReportOf options bytes end text.items
IsAnswerTo options bytes (answer.BadLine line) = reading bytes ≡ BadLine line
IsAnswerTo options bytes answer.BadSettings =
    (list : Listed) × (reading bytes ≡ Whole list) × ¬ (IsLawful (settings_of list))

-- the answer to the bytes that came
abbrev pub IsAnswerToInput : ScheduleOptions → Inflow → Inflow → Answer → Type 0
IsAnswerToInput options before after answer =
    (bytes : List ℕ) × Receives bytes before after × IsAnswerTo options bytes answer

-- the exit status for how a run ended
abbrev pub status_of : Ending → ℕ
status_of None = 0
status_of (Some met) = 1

-- the text was pushed, with the status for how its run ended; or the output failed, and that was
-- reported
abbrev pub GivesReport : List ℕ → Ending → ℕ → Outflow → Outflow → Outflow → Outflow → Type 0
GivesReport text end status before after errors_before errors =
    (status ≡ status_of end) × PushesAll text before after × (errors ≡ errors_before)
    ⊎ (status ≡ 1) × FailsToPush text before after fault.Output
    × PushesOrFails (fault_line (codes "mc_schedule") fault.Output) errors_before errors

-- an answer was given, with this status
abbrev pub Gives : Answer → ℕ → Outflow → Outflow → Outflow → Outflow → Type 0
Gives (answer.Report text end) status before after errors_before errors =
    GivesReport text.items end status before after errors_before errors
Gives (answer.BadLine line) status before after errors_before errors =
    (status ≡ 2) × (after ≡ before) × PushesOrFails (bad_line_text line) errors_before errors
Gives answer.BadSettings status before after errors_before errors =
    (status ≡ 2) × (after ≡ before)
    × PushesOrFails (fault_line (codes "mc_schedule") fault.BadSettings) errors_before errors
