-- What is decided when a command is announced isn't that command, since its ticket is new: so it
-- stands after all of it, and after each command that was answered by then.
use Rattle.std.proofs.Common.{◌≡◌, ◌<◌, length, None, ⊎_elim, sym, subst, ◌∙◌, arith}
use Rattle.std.proofs.lemmas.Bool.{cases_lt}
use Rattle.std.proofs.lemmas.Option.{same_Some, slice_get_within}
use Rattle.mc_model.specs.declared.id.Ticket.{Ticket}
use Rattle.lists.specs.Lists.{BeginsWith}
use Rattle.mc_model.specs.Lawful.{announced_by}
use Rattle.mc_model.specs.Legal.{ticket_of}
use Rattle.uc_core.specs.Core.{CoreState}
use Rattle.uc_core.specs.Headline.{KeepsRealTime, OfEveryRun, StandsAfterDecided}
use Rattle.uc_core.specs.declared.event.Event.TheVariants.{Announce}
use Rattle.uc_core.proofs.CoreLaws.{CoreLaw, grows, keeps}
use Rattle.uc_core.proofs.Lookups.{there}
use Rattle.uc_core.proofs.Runs.{Grows-through, answers_of, law_of, of_run, stands_on}

pub stands_after : (core : CoreState) → CoreLaw core → StandsAfterDecided core
stands_after core law place it = ⊎_elim (λ below. absurd (not_before below)) (λ above. above) (cases_lt place (length core.shown.decided))
  where
    begins : BeginsWith it.new.shown.decided core.shown.decided
    begins = let event = Announce it.number it.tenant it.command in
        (Grows-through core it.announced it.new (grows core it.announced event None law it.announces)
        (of_run it.announced it.new it.events it.given (keeps core it.announced event None law it.announces) it.runs).1).decided

    not_before : place < length core.shown.decided → ⊥
    not_before below =
        let ticket = there core.shown.decided place below in
        let same : ticket.0 ≡ ticket_of it.number (announced_by core.shown it.number) = same_Some ticket.0 _
        (sym (stands_on it.new.shown.decided core.shown.decided begins place ticket.0 ticket.1) ∙ it.stands) in
        let known = subst (λ (t : Ticket). t.number < announced_by core.shown t.worker) same (law.sound.announced place ticket.0 ticket.1) in
        omega (arith, known)

pub keeps_real_time : OfEveryRun KeepsRealTime
keeps_real_time settings events core given run at worker place later reply told it =
    let stands = (answers_of settings events core given run at worker place reply told).stands in
    omega (arith, slice_get_within core.shown.decided place _ stands, stands_after core (law_of settings events core given run) later it)
