-- What the answer to a list says about the words, if they ask for the answer's options.
use Rattle.std.proofs.Common.{◌≡◌, ◌∙◌, ◌++◌, inl, inr, ⊎_elim, ℕ, List, Some, None, ap}
use Rattle.clap.specs.Walk.{Text}
use Rattle.mc_model.specs.declared.fault.Fault.TheVariants as fault
use Rattle.mc_schedules.specs.Doing.{Ending}
use Rattle.mc_schedules.specs.Report.{report}
use Rattle.mc_programs.specs.declared.schedule.Answer.{Answer}
use Rattle.mc_programs.specs.declared.schedule.Answer.TheVariants as answer
use Rattle.mc_programs.specs.declared.schedule_words.ScheduleOptions.{ScheduleOptions}
use Rattle.mc_programs.specs.Lists.{ScheduleEnds, Ran, Receives}
use Rattle.mc_programs.specs.Reporting.{ScheduleAsksFor, Gives, GivesReport, IsAnswerToInput, IsReportOf, status_of}
use Rattle.mc_programs.specs.Waiting.{PushesAll}
use Rattle.mc_stream.specs.Stream.{Inflow, Outflow, Streams}

module _ (words : List Text) (options : ScheduleOptions) (asks : ScheduleAsksFor words options) where
  -- a report of the bytes that came is one that the words ask for
  ran : (bytes : List ℕ) (before after : Inflow) (end : Ending) (text : List ℕ) → Receives bytes before after → IsReportOf options bytes end text → Ran words before after end text
  ran bytes before after end text receives reported = record {
    taken = asks.taken;
    bytes = bytes;
    received = receives;
    list = reported.list;
    reads = reported.reads;
    lawful = reported.lawful;
    core = reported.runs.core;
    given = reported.runs.given;
    did = reported.runs.did;
    picture = reported.runs.picture;
    undrawn = λ unasked. reported.runs.undrawn (asks.picture ∙ unasked);
    told = reported.runs.told ∙ ap (λ quiet. reported.runs.picture ++ report quiet reported.runs.core reported.runs.given end) asks.quiet;
  }

  module _ (before after : Streams) (errors_before errors : Outflow) (status : ℕ) where
    -- all was done, or an event met a fault, and that was reported, or the output failed
    report_ends : (bytes : List ℕ) (end : Ending) (text : List ℕ) → Receives bytes before.input after.input → IsReportOf options bytes end text
        → GivesReport text end status before.output after.output errors_before errors → ScheduleEnds words status before after errors_before errors
    report_ends bytes end text receives reported gives =
        let is_ran = ran bytes before.input after.input end text receives reported in
        ⊎_elim
        (by_end end is_ran)
        (λ fails. inr (inl (fails.0, inr (inl (record { fault = fault.Output; stops = inr (end, text, is_ran, fails.1); told = fails.2 })))))
        gives
      where
        by_end : (end : Ending) → Ran words before.input after.input end text → (status ≡ status_of end) × PushesAll text before.output after.output × (errors ≡ errors_before)
            → ScheduleEnds words status before after errors_before errors
        by_end None is_ran told = inl (told.0, inl (text, is_ran, told.1), told.2)
        by_end (Some met) is_ran told = inr (inl (told.0, inl (met, (text, is_ran, told.1), told.2)))

    -- how a run ends, by what is given
    pub ends : (answer : Answer) → IsAnswerToInput options before.input after.input answer → Gives answer status before.output after.output errors_before errors
        → ScheduleEnds words status before after errors_before errors
    ends (answer.Report text end) (bytes, receives, reported) gives = report_ends bytes end text.items receives reported gives
    ends (answer.BadLine line) (bytes, receives, reads) gives = inr (inr (gives.0, inl (bytes, asks.taken, receives, inl (line, reads, gives.2)), gives.1))
    ends answer.BadSettings (bytes, receives, (list, reads, unlawful)) gives =
        inr (inr (gives.0, inl (bytes, asks.taken, receives, inr (list, reads, unlawful, gives.2)), gives.1))
