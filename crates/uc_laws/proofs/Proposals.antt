-- How often a worker has proposed since its latest announcement, by the events of a run.
use Rattle.std.proofs.Common.{◌≡◌, ◌≢◌, ℕ, ◌+◌, Bool, if◌then◌else◌, List, Option, Some, None, slice_get, slice_set, ⊎_elim, refl, sym, ap, ◌∙◌, eq-eqb, ne_eqb}
use Rattle.std.proofs.lemmas.Bool.{cases_eq}
use Rattle.std.proofs.lemmas.Option.{slice_get_within}
use Rattle.std.specs.List.{fold}
use Rattle.std.specs.Option.{option_map_or}
use Rattle.lists.proofs.Public.{at_replicated, set_here}
use Rattle.mc_model.specs.declared.command.Command.{Command}
use Rattle.mc_model.specs.declared.id.Ticket.{Ticket}
use Rattle.mc_model.specs.declared.reply.Reply.{Reply}
use Rattle.mc_model.specs.declared.shown.ShownState.{ShownState}
use Rattle.mc_model.specs.declared.shown.WorkerState.{WorkerState}
use Rattle.mc_model.specs.Lawful.{announced_by, next, turn}
use Rattle.mc_model.specs.Settings.{Configuration}
use Rattle.mc_model.specs.Shown.{announce, look, new_worker, propose, read, stop}
use Rattle.mc_model.specs.State.{TableState}
use Rattle.uc_core.specs.Asked.{proposals_with}
use Rattle.uc_core.specs.Core.{CoreState, core_size}
use Rattle.uc_core.specs.Headline.{StepsAreAlone}
use Rattle.uc_core.specs.Step.{CoreStep, actor}
use Rattle.uc_core.specs.declared.event.Event.{Event}
use Rattle.uc_core.specs.declared.event.Event.TheVariants.{Announce, Look, Propose, Read, Replay, Stop}
use Rattle.uc_laws.proofs.Made.{EachMakes, made}
use Rattle.uc_laws.specs.CoreRun.{core_over}
use Rattle.uc_laws.specs.Counts.{ProposalsCount}
use Rattle.uc_laws.specs.Over.{ByEventsOver}

-- the proposals of a worker since its latest announcement
abbrev proposals_in : Option WorkerState → ℕ
proposals_in found = option_map_or (λ (worker : WorkerState). worker.proposals) found 0

abbrev proposals_by : ℕ → CoreState → ℕ
proposals_by number core = proposals_in (slice_get core.shown.workers number)

module _ (alone : (core : CoreState) → StepsAreAlone core) (number : ℕ) where
  -- what an event makes of its own worker's
  module _ (old : CoreState) where
    others_propose : (event : Event) (new : CoreState) (reply : Option Reply) → CoreStep old event new reply → number ≢ actor event →
        proposals_by number new ≡ proposals_by number old
    others_propose event new reply step apart = ap proposals_in (alone old event new reply number step apart).0

    own_proposals : (shown : ShownState) (was is : WorkerState) → slice_get old.shown.workers number ≡ Some was →
        shown.workers ≡ slice_set old.shown.workers number is → proposals_in (slice_get shown.workers number) ≡ is.proposals
    own_proposals shown was is at set =
        ap (λ (workers : List WorkerState). proposals_in (slice_get workers number)) set
        ∙ ap proposals_in (set_here old.shown.workers number is (slice_get_within old.shown.workers number was at))

    -- an event of this worker that makes `is` of it
    of_own : (worker : ℕ) (new : CoreState) (was is : WorkerState) → number ≡ worker → slice_get old.shown.workers worker ≡ Some was →
        new.shown.workers ≡ slice_set old.shown.workers worker is →
        (proposals_by number new ≡ is.proposals) × (proposals_by number old ≡ was.proposals)
    of_own worker new was is here at set =
        let mine = ap (slice_get old.shown.workers) here ∙ at in
        (own_proposals new.shown was is mine (set ∙ ap (λ (n : ℕ). slice_set old.shown.workers n is) (sym here)), ap proposals_in mine)

    -- an event that leaves its worker's proposals
    leaves_them : (event : Event) (new : CoreState) (reply : Option Reply) (was is : WorkerState) → CoreStep old event new reply →
        slice_get old.shown.workers (actor event) ≡ Some was → new.shown.workers ≡ slice_set old.shown.workers (actor event) is →
        is.proposals ≡ was.proposals → proposals_by number new ≡ proposals_by number old
    leaves_them event new reply was is step at set same = ⊎_elim
        (λ (here : number ≡ actor event). let both = of_own (actor event) new was is here at set in both.0 ∙ same ∙ sym both.1)
        (λ apart. others_propose event new reply step apart)
        (cases_eq number (actor event))

    announce_resets : (worker tenant : ℕ) (command : Command) (new : CoreState) (reply : Option Reply) → CoreStep old (Announce worker tenant command) new reply →
        proposals_by number new ≡ proposals_with number (proposals_by number old) (Announce worker tenant command)
    announce_resets worker tenant command new reply step = ⊎_elim
        (λ (here : number ≡ worker).
        (of_own worker new step.1.0 (announce step.1.0) here step.1.1 (ap (λ (it : ShownState). it.workers) step.1.4)).0
        ∙ ap (λ (b : Bool). if b then 0 else proposals_by number old) (sym (eq-eqb worker number (sym here))))
        (λ apart.
        others_propose (Announce worker tenant command) new reply step apart
        ∙ ap (λ (b : Bool). if b then 0 else proposals_by number old) (sym (ne_eqb worker number (λ same. apart (sym same)))))
        (cases_eq number worker)

    proposal_counts : (worker : ℕ) (new : CoreState) (reply : Option Reply) → CoreStep old (Propose worker) new reply →
        proposals_by number new ≡ proposals_with number (proposals_by number old) (Propose worker)
    proposal_counts worker new reply step = ⊎_elim
        (λ (here : number ≡ worker).
        let both = of_own worker new step.0.0 (propose worker (next old.shown step.0.0) step.0.0) here step.0.1 (ap (λ (it : ShownState). it.workers) step.0.3) in
        both.0 ∙ ap (λ (n : ℕ). n + 1) (sym both.1)
        ∙ ap (λ (b : Bool). if b then proposals_by number old + 1 else proposals_by number old) (sym (eq-eqb worker number (sym here))))
        (λ apart.
        others_propose (Propose worker) new reply step apart
        ∙ ap (λ (b : Bool). if b then proposals_by number old + 1 else proposals_by number old) (sym (ne_eqb worker number (λ same. apart (sym same)))))
        (cases_eq number worker)

    reading_proposes : (found : Option Ticket) (worker : WorkerState) (reader : ℕ) → (read reader found worker).proposals ≡ worker.proposals
    reading_proposes None worker reader = refl
    reading_proposes (Some ticket) worker reader = refl

  proposals_made : EachMakes (proposals_by number) (proposals_with number)
  proposals_made old (Announce worker tenant command) new reply step = announce_resets old worker tenant command new reply step
  proposals_made old (Read worker) new reply step =
      leaves_them old (Read worker) new reply step.0.0 (read worker (next old.shown step.0.0) step.0.0) step step.0.1
      (ap (λ (it : ShownState). it.workers) step.0.4) (reading_proposes old (next old.shown step.0.0) step.0.0 worker)
  proposals_made old (Look worker) new reply step =
      let whose = turn (core_size old) step.0.0 in
      leaves_them old (Look worker) new reply step.0.0 (look whose (announced_by old.shown whose) step.0.0) step step.0.1
      (ap (λ (it : ShownState). it.workers) step.0.5) refl
  proposals_made old (Propose worker) new reply step = proposal_counts old worker new reply step
  proposals_made old (Replay worker) new reply step = ap (λ (it : CoreState). proposals_by number it) step.8
  proposals_made old (Stop worker) new reply step =
      leaves_them old (Stop worker) new reply step.0.0 (stop step.0.0) step step.0.1 (ap (λ (it : ShownState). it.workers) step.0.3) refl

none_proposed : (settings : Configuration) (tables : List TableState) (number : ℕ) → proposals_by number (core_over settings tables) ≡ 0
none_proposed settings tables number = by_found (slice_get (core_over settings tables).shown.workers number) refl
  where
    by_found : (found : Option WorkerState) → slice_get (core_over settings tables).shown.workers number ≡ found → proposals_in found ≡ 0
    by_found None at = refl
    by_found (Some worker) at = ap (λ (it : WorkerState). it.proposals) (sym (at_replicated settings.workers number new_worker worker at))

pub proposals_count : ((core : CoreState) → StepsAreAlone core) → ByEventsOver (λ settings events core. ProposalsCount events core)
proposals_count alone settings tables events core given run number worker at =
    ap proposals_in (sym at)
    ∙ (made (proposals_by number) (proposals_with number) (proposals_made alone number) (core_over settings tables) core events given run
    ∙ ap (λ (n : ℕ). fold (proposals_with number) n events) (none_proposed settings tables number))
