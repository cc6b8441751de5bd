-- A run of what the log shows is one of a core with a tenant: its announcements are of flushes. So
-- the bound on places is sharp for runs of the core, where it is for the shown log (`OwnRound`).
use Rattle.std.proofs.Common.{◌≡◌, ℕ, ◌<◌, ◌∙◌, List, [], ◌∷◌, length, map, None, slice_get, refl, sym, ap, subst, arith}
use Rattle.std.proofs.lemmas.List.{length-replicate}
use Rattle.mc_model.specs.declared.command.Command.TheVariants.{Flush}
use Rattle.mc_model.specs.declared.request.Entry.{Entry}
use Rattle.mc_model.specs.declared.settings.Limits.{Limits}
use Rattle.mc_model.specs.declared.shown.LogSize.{LogSize}
use Rattle.mc_model.specs.declared.shown.ShownState.{ShownState}
use Rattle.mc_model.specs.Lawful.{LeadOn, ShownEvent, Step, announced_by, announces, looks, proposes, reads, stops}
use Rattle.mc_model.specs.Settings.{Configuration}
use Rattle.mc_model.specs.Shown.{new_worker}
use Rattle.uc_core.specs.Core.{CoreState, core_size, new_core}
use Rattle.uc_core.specs.Headline.{IsDecidedSoon, AreOfSeveral, OfEveryRunWith}
use Rattle.uc_core.specs.Run.{Runs}
use Rattle.uc_core.specs.Step.{CoreStep, announced_entry, with_entry}
use Rattle.uc_core.specs.declared.event.Event.{Event}
use Rattle.uc_core.specs.declared.event.Event.TheVariants.{Announce, Look, Propose, Read, Stop}
use Rattle.uc_core.proofs.OwnRound.{Late, late}
use Rattle.uc_core.proofs.Soon.{shows_step}

-- the core's event of the same name, and the entries after it
abbrev event_of : ShownEvent → Event
event_of (announces number) = Announce number 0 Flush
event_of (reads number) = Read number
event_of (looks number) = Look number
event_of (proposes number) = Propose number
event_of (stops number) = Stop number

abbrev entries_after : CoreState → ShownEvent → List (List Entry)
entries_after old (announces number) = with_entry old.entries (announced_entry old number 0 Flush)
entries_after old (reads number) = old.entries
entries_after old (looks number) = old.entries
entries_after old (proposes number) = old.entries
entries_after old (stops number) = old.entries

abbrev core_after : CoreState → ShownEvent → ShownState → CoreState
core_after old event shown = record old { shown = shown; entries = entries_after old event }

core_step : (old : CoreState) (event : ShownEvent) (shown : ShownState) → 0 < length old.openings → Step (core_size old) old.shown event shown →
    CoreStep old (event_of event) (core_after old event shown) None
core_step old (announces number) shown some step = (some, step, refl, refl)
core_step old (reads number) shown some step = (step, refl, refl)
core_step old (looks number) shown some step = (step, refl, refl)
core_step old (proposes number) shown some step = (step, refl, refl)
core_step old (stops number) shown some step = (step, refl, refl)

-- the core shows this, in a log of this size, and has a tenant
record Shows (size : LogSize) (shown : ShownState) (core : CoreState) : Type 0 where
  sized : core_size core ≡ size
  is : core.shown ≡ shown
  some : 0 < length core.openings

shown_step : (size : LogSize) (old new : ShownState) (event : ShownEvent) (core : CoreState) → Shows size old core → Step size old event new →
    CoreStep core (event_of event) (core_after core event new) None
shown_step size old new event core shows step = core_step core event new shows.some
    (subst (λ (at : LogSize × ShownState). Step at.0 at.1 event new) (λ i. (sym shows.sized i, sym shows.is i)) step)

shows_next : (size : LogSize) (old new : ShownState) (event : ShownEvent) (core : CoreState) → Shows size old core → Step size old event new →
    Shows size new (core_after core event new)
shows_next size old new event core shows step = record {
  sized = (shows_step core (core_after core event new) (event_of event) None (shown_step size old new event core shows step)).size ∙ shows.sized;
  is = refl;
  some = shows.some;
}

-- events of the shown log are a run that gives no reply
shown_run : (size : LogSize) (events : List ShownEvent) (old new : ShownState) (core : CoreState) → Shows size old core → LeadOn size old events new →
    (last : CoreState) × Shows size new last × Runs core (map event_of events) last []
shown_run size [] old new core shows on = (core, record { sized = shows.sized; is = shows.is ∙ sym on; some = shows.some }, (refl, refl))
shown_run size (event ∷ events) old new core shows (next, step, on) =
    let rest = shown_run size events next new (core_after core event next) (shows_next size old next event core shows step) on in
    (rest.0, rest.1, (core_after core event next, None, [], shown_step size old next event core shows step, rest.2, refl))

-- a core that is opened with two workers and more
module _ (workers places : ℕ) (tenants : List Limits) (some : 0 < length tenants) where
  abbrev settings : Configuration
  settings = record { workers = workers; places = places; tenants = tenants }

  abbrev size : LogSize
  size = record { workers = workers; places = places }

  shows_new : Shows size (new_core settings).shown (new_core settings)
  shows_new = record { sized = λ i. record { workers = length-replicate workers new_worker i; places = places }; is = refl; some = some }

  sharp : Late size → OfEveryRunWith settings (λ core given. IsDecidedSoon workers core) → ⊥
  sharp it all =
      let first = shown_run size it.first_events (new_core settings).shown it.old (new_core settings) shows_new it.leads in
      let core = first.0 in
      let announced = core_after core (announces 0) it.announced in
      let step = shown_step size it.old it.announced (announces 0) core first.1 it.announcing in
      let rest = shown_run size it.later_events it.announced it.new announced (shows_next size it.old it.announced (announces 0) core first.1 it.announcing) it.goes_on in
      let none : length core.shown.decided ≡ 0 = ap (λ (shown : ShownState). length shown.decided) first.1.is ∙ ap length it.none in
      let many : length rest.0.shown.decided ≡ workers = ap (λ (shown : ShownState). length shown.decided) rest.1.is ∙ it.many in
      let soon = all (map event_of it.first_events) core [] first.2 0 0 Flush announced rest.0 (map event_of it.later_events) [] step rest.2 (omega arith) in
      it.without soon.0 (announced_by core.shown 0) (ap (λ (shown : ShownState). slice_get shown.decided soon.0) (sym rest.1.is) ∙ soon.2)

pub sharp_of_runs : (settings : Configuration) → AreOfSeveral settings → OfEveryRunWith settings (λ core given. IsDecidedSoon settings.workers core) → ⊥
sharp_of_runs settings several =
    sharp settings.workers settings.places settings.tenants several.2 (late (record { workers = settings.workers; places = settings.places }) several.0 several.1)
