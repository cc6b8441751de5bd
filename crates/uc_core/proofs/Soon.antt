-- A run of the core is a run of what the log shows, so what is decided soon there is decided soon
-- here.
use Rattle.std.proofs.Common.{◌≡◌, ◌+◌, ◌∙◌, List, [], ◌∷◌, length, length-set, Option, None, ap, subst}
use Rattle.mc_model.specs.declared.reply.Reply.{Reply}
use Rattle.mc_model.specs.declared.shown.LogSize.{LogSize}
use Rattle.mc_model.specs.declared.shown.ShownState.{ShownState}
use Rattle.mc_model.specs.Lawful.{LeadOn, ShownEvent, Step, announces, looks, proposes, reads, stops}
use Rattle.uc_core.specs.Core.{CoreState, core_size}
use Rattle.uc_core.specs.Headline.{IsDecidedSoon}
use Rattle.uc_core.specs.Run.{Given, Runs}
use Rattle.uc_core.specs.Step.{CoreStep}
use Rattle.uc_core.specs.declared.event.Event.{Event}
use Rattle.uc_core.specs.declared.event.Event.TheVariants.{Announce, Look, Propose, Read, Replay, Stop}
use Rattle.uc_core.proofs.CoreLaws.{CoreLaw}
use Rattle.model_lemmas.proofs.Turns.{is_soon_decided}

-- some events of the shown log lead from one state to another
abbrev pub LeadsOn : LogSize → ShownState → ShownState → Type 0
LeadsOn size old new = (events : List ShownEvent) × LeadOn size old events new

-- no event makes or takes away a worker
workers_stay : (size : LogSize) (old new : ShownState) (event : ShownEvent) → Step size old event new → length new.workers ≡ length old.workers
workers_stay size old new (announces number) step = ap (λ (it : ShownState). length it.workers) step.4 ∙ length-set old.workers number _
workers_stay size old new (reads number) step = ap (λ (it : ShownState). length it.workers) step.4 ∙ length-set old.workers number _
workers_stay size old new (looks number) step = ap (λ (it : ShownState). length it.workers) step.5 ∙ length-set old.workers number _
workers_stay size old new (proposes number) step = ap (λ (it : ShownState). length it.workers) step.3 ∙ length-set old.workers number _
workers_stay size old new (stops number) step = ap (λ (it : ShownState). length it.workers) step.3 ∙ length-set old.workers number _

-- what an event of the core is to what the log shows: an event of the same size of log, or nothing
pub record ShowsStep (old new : CoreState) : Type 0 where
  pub size : core_size new ≡ core_size old
  before : (last : ShownState) → LeadsOn (core_size old) new.shown last → LeadsOn (core_size old) old.shown last

shows_event : (old new : CoreState) (event : ShownEvent) → Step (core_size old) old.shown event new.shown → new.places ≡ old.places → ShowsStep old new
shows_event old new event step places = record {
  size = λ i. record { workers = workers_stay (core_size old) old.shown new.shown event step i; places = places i };
  before = λ last on. (event ∷ on.0, (new.shown, step, on.1));
}

pub shows_step : (old new : CoreState) (event : Event) (reply : Option Reply) → CoreStep old event new reply → ShowsStep old new
shows_step old new (Announce number tenant command) reply step = shows_event old new (announces number) step.1 (ap (λ (it : CoreState). it.places) step.2)
shows_step old new (Read number) reply step = shows_event old new (reads number) step.0 (ap (λ (it : CoreState). it.places) step.1)
shows_step old new (Look number) reply step = shows_event old new (looks number) step.0 (ap (λ (it : CoreState). it.places) step.1)
shows_step old new (Propose number) reply step = shows_event old new (proposes number) step.0 (ap (λ (it : CoreState). it.places) step.1)
shows_step old new (Stop number) reply step = shows_event old new (stops number) step.0 (ap (λ (it : CoreState). it.places) step.1)
shows_step old new (Replay number) reply step = record {
  size = ap (λ (it : CoreState). core_size it) step.8;
  before = λ last on. subst (λ (shown : ShownState). LeadsOn (core_size old) shown last) (ap (λ (it : CoreState). it.shown) step.8) on;
}

-- a run, so
pub shows_run : (old new : CoreState) (events : List Event) (given : List Given) → Runs old events new given → LeadsOn (core_size old) old.shown new.shown
shows_run old new [] given runs = ([], ap (λ (it : CoreState). it.shown) runs.0)
shows_run old new (event ∷ events) given runs =
    let step = shows_step old runs.0 event runs.1 runs.3 in
    step.before new.shown (subst (λ (size : LogSize). LeadsOn size runs.0.shown new.shown) step.size (shows_run runs.0 new events runs.2 runs.4))

pub decided_soon : (core : CoreState) → CoreLaw core → IsDecidedSoon (length core.shown.workers + 1) core
decided_soon core law number tenant command announced new events given step runs far =
    let same = (shows_step core announced (Announce number tenant command) None step).size in
    let on = subst (λ (size : LogSize). LeadsOn size announced.shown new.shown) same (shows_run announced new events given runs) in
    is_soon_decided (core_size core) core.shown announced.shown new.shown number on.0 law.reached step.1 on.1 far
