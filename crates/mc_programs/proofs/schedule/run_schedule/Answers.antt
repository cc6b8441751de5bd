use Rattle.std.proofs.Common.{◌≡◌, ◌⊎◌, inl, inr, ⊎_elim, map, refl, string_bytes, subst, List, String, Global}
use Rattle.clap.specs.Words.{kind_of}
use Rattle.clap.specs.declared.error.kind.ErrorKind.TheVariants.{OutOfMemory}
use Rattle.mc_programs.specs.Lists.{schedule_app}
use Rattle.mc_programs.specs.Reporting.{ScheduleAsksFor}
use Rattle.mc_programs.specs.Words.{ClapReturns}
use Rattle.mc_stream.specs.Stream.{both}
use Rattle.mc_programs.proofs.Reported.{ends}
use Rattle.mc_programs.proofs.schedule.run_schedule.Goals as goal

-- the words ask for no service
pub returns-in-Err : goal.returns-in-Err
returns-in-Err g c =
    let failed : (kind_of c.in-Err.error ≡ OutOfMemory) ⊎ ClapReturns schedule_app (map string_bytes c.args.words.items) (kind_of c.in-Err.error) =
    subst (λ (words : List (String Global)). (kind_of c.in-Err.error ≡ OutOfMemory) ⊎ ClapReturns schedule_app (map string_bytes words) (kind_of c.in-Err.error)) c.deref.ensures.value c.in-Err.ensures.outcome in
    ⊎_elim
    (λ shown. inl (shown.0, inr shown.1, shown.2))
    (λ others. inr (⊎_elim (λ fails. inl (fails.0, inr (inr fails.1))) (λ mistake. inr (mistake.0, inr (refl, mistake.1), mistake.2)) others))
    (c.answer_words.ensures.words schedule_app _ _ failed)

-- a fault kept the list from being read or answered
pub returns : goal.returns
returns g c =
    inr (inl (c.fail.ensures.status, inr (inl (record { fault = c.in-Err-do_list.fault; stops = inl (c.in-Err-do_list.ensures.outcome, refl); told = c.fail.ensures.told }))))

pub returns-in-Ok-do_list : goal.returns-in-Ok-do_list
returns-in-Ok-do_list g c =
    let asks : ScheduleAsksFor (map string_bytes c.args.words.items) c.in-Ok.options =
    subst (λ (words : List (String Global)). ScheduleAsksFor (map string_bytes words) c.in-Ok.options) c.deref.ensures.value c.in-Ok.ensures.outcome in
    ends _ _ asks (both (g.I.Input.tells c.args.input.now) (g.O.Output.tells c.args.output.now)) (both (g.I.Input.tells c.do_list.new.input) (g.O.Output.tells c.give.new.output)) _ _ _
    c.in-Ok-do_list.answer c.in-Ok-do_list.ensures.outcome c.give.ensures
