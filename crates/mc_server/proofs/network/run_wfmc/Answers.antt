use Rattle.std.proofs.Common.{◌≡◌, ◌⊎◌, inl, inr, ⊎_elim, map, refl, string_bytes, subst, List, String, Global}
use Rattle.clap.specs.Words.{kind_of}
use Rattle.clap.specs.declared.error.kind.ErrorKind.TheVariants.{OutOfMemory}
use Rattle.mc_model.specs.declared.fault.Fault.TheVariants.{Memory, BadSettings}
use Rattle.mc_server.specs.Checking.{ChecksWords}
use Rattle.mc_server.specs.NetworkWords.{AsksForCheck, AsksForNone, AsksForService, AsksInVain, given_by_words, given_in, network_app, served_by}
use Rattle.mc_programs.specs.Words.{ClapReturns}
use Rattle.mc_server.proofs.NetworkRuns.{for_check, for_none, for_service}
use Rattle.mc_server.proofs.network.run_wfmc.Goals as goal

-- the words ask for no service
pub returns-in-Err : goal.returns-in-Err
returns-in-Err g c =
    let failed : (kind_of c.in-Err.error ≡ OutOfMemory) ⊎ ClapReturns network_app (map string_bytes c.args.words.items) (kind_of c.in-Err.error) =
    subst (λ (words : List (String Global)). (kind_of c.in-Err.error ≡ OutOfMemory) ⊎ ClapReturns network_app (map string_bytes words) (kind_of c.in-Err.error)) c.deref.ensures.value c.in-Err.ensures.outcome in
    inr (⊎_elim
    (λ shown. inl (shown.0, inr shown.1, shown.2))
    (λ others. inr (⊎_elim (λ fails. inl (fails.0, inr fails.1)) (λ mistake. inr (mistake.0, inr mistake.1, mistake.2)) others))
    (c.answer_words.ensures.words network_app _ _ failed))

-- the words ask for nothing that can be served
pub returns-in-Err-BadSettings : goal.returns-in-Err-BadSettings
returns-in-Err-BadSettings g c =
    let known : (BadSettings ≡ Memory) ⊎ (BadSettings ≡ BadSettings) × AsksInVain (given_in c.in-Ok.given) = rw c.in-Err-BadSettings.field-0-is at c.in-Err-BadSettings.ensures.outcome in
    let vain : AsksInVain (given_in c.in-Ok.given) = ⊎_elim (λ (memory : BadSettings ≡ Memory). absurd cc) (λ none. none.1) known in
    let none = subst (λ (words : List (String Global)). AsksForNone (map string_bytes words)) c.deref.ensures.value (for_none _ c.in-Ok.given c.in-Ok.ensures.outcome c.if-given.false vain) in
    inr (inr (inr (refl, inl (none, c.tell_fault.ensures), refl)))

-- what they ask for was served
pub returns-in-Ok-run_service : goal.returns-in-Ok-run_service
returns-in-Ok-run_service g c =
    let asks : AsksForService (map string_bytes c.args.words.items) (served_by c.in-Ok-service_of.service) = subst (λ (words : List (String Global)). AsksForService (map string_bytes words) (served_by c.in-Ok-service_of.service)) c.deref.ensures.value
    (for_service _ c.in-Ok.given c.in-Ok-service_of.service c.in-Ok.ensures.outcome c.if-given.false c.in-Ok-service_of.ensures.outcome.0 c.in-Ok-service_of.ensures.outcome.1) in
    inr (inl (refl, inl (served_by c.in-Ok-service_of.service, asks, c.in-Ok-run_service.ensures.outcome), refl))

-- a run stopped
pub returns : goal.returns
returns g c =
    let asks : AsksForService (map string_bytes c.args.words.items) (served_by c.in-Ok-service_of.service) = subst (λ (words : List (String Global)). AsksForService (map string_bytes words) (served_by c.in-Ok-service_of.service)) c.deref.ensures.value
    (for_service _ c.in-Ok.given c.in-Ok-service_of.service c.in-Ok.ensures.outcome c.if-given.false c.in-Ok-service_of.ensures.outcome.0 c.in-Ok-service_of.ensures.outcome.1) in
    inr (inr (inl (refl, inl (served_by c.in-Ok-service_of.service, asks, record { stop = c.in-Err-run_service.stop; stops = c.in-Err-run_service.ensures.outcome; told = c.tell_stop.ensures }))))

-- they ask only to be checked
pub returns-then-given : goal.returns-then-given
returns-then-given g c =
    let P = λ (words : List (String Global)). AsksForCheck (map string_bytes words)
    × ChecksWords (given_by_words (map string_bytes words)) c.check_words.result (g.O.Output.tells c.args.output.now) (g.O.Output.tells c.check_words.new.output) (g.E.Output.tells c.args.errors.now) (g.E.Output.tells c.check_words.new.errors)
    in
    inl (subst P c.deref.ensures.value (for_check _ c.in-Ok.given _ _ _ _ _ c.in-Ok.ensures.outcome c.if-given.true c.check_words.ensures))
