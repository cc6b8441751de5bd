-- What is true of the core in every state that events lead to: its parts keep to their laws before
-- any event, and one event keeps them so.
use Rattle.std.proofs.Common.{◌≡◌, ℕ, ◌+◌, ◌<◌, ◌≤◌, List, [], ◌∷◌, length, replicate, Option, Some, None, slice_get, slice_set, ⊎_elim, refl, sym, ap, subst, ◌∙◌, arith, le_refl, length-set}
use Rattle.std.proofs.lemmas.List.{length-map, length-replicate}
use Rattle.std.proofs.lemmas.Option.{none-some, same_Some, slice_get_within}
use Rattle.std.specs.Option.{option_map_or}
use Rattle.mc_model.specs.declared.command.Command.{Command}
use Rattle.mc_model.specs.declared.id.Ticket.{Ticket}
use Rattle.mc_model.specs.declared.reply.Reply.{Reply}
use Rattle.mc_model.specs.declared.request.Entry.{Entry}
use Rattle.mc_model.specs.declared.shown.LogSize.{LogSize}
use Rattle.mc_model.specs.declared.shown.ShownState.{ShownState}
use Rattle.mc_model.specs.declared.shown.WorkerState.{WorkerState}
use Rattle.lists.specs.Lists.{BeginsWith}
use Rattle.mc_model.specs.Lawful.{IsReached, IsWorker, ShownEvent, Step, announced_by, announces, looks, proposes, reads, stops, with_worker}
use Rattle.model_lemmas.proofs.Replays.{EachStands-none}
use Rattle.mc_model.specs.Replay.{TakeEffect, empty_tables}
use Rattle.mc_model.specs.State.{TableState}
use Rattle.mc_model.specs.Settings.{Configuration}
use Rattle.mc_model.specs.Shown.{announce, new_log, new_worker}
use Rattle.uc_core.specs.Core.{CoreState, ReplayState, entry_under, log_of, new_core, core_size}
use Rattle.uc_core.specs.Headline.{HasReplica}
use Rattle.uc_core.specs.Step.{CoreStep, announced_entry, entry_at, with_entry}
use Rattle.uc_core.specs.declared.event.Event.{Event}
use Rattle.uc_core.specs.declared.event.Event.TheVariants.{Announce, Look, Propose, Read, Replay, Stop}
pub use Rattle.uc_core.proofs.Entries.{AreEntries, EntriesLaw, HasEntry, KeepsEntries}
use Rattle.uc_core.proofs.Entries.{announcement-entries, announcement-keeps, entries_stay, has_entry, log-begins}
use Rattle.lists.proofs.Public.{at_replicated, at_set, begins_self}
use Rattle.uc_core.proofs.Lookups.{there}
use Rattle.uc_core.proofs.Moves.{IsQuiet, Moves, announced_elsewhere, looks_quietly, one_moves, proposes_quietly, reads_quietly, stops_quietly}
pub use Rattle.uc_core.proofs.Replays.{AreReplays, ReplayLaw}
use Rattle.uc_core.proofs.Replays.{replay_more, replay_stays}
use Rattle.model_lemmas.proofs.StateLaws.{IsSound, announced_after, announced_is, learned_few}
use Rattle.model_lemmas.proofs.StateLaws as state_laws

-- events lead to what the log shows, which is sound, and every worker has its entries and its
-- replay, which keep to their laws
pub record CoreLaw (core : CoreState) : Type 0 where
  pub reached : IsReached (core_size core) core.shown
  pub sound : IsSound (core_size core) core.shown
  pub listed : length core.entries ≡ length core.shown.workers
  pub kept : length core.replays ≡ length core.shown.workers
  pub entries : AreEntries core
  pub replays : AreReplays core

-- a core that another grows into: its quotas are the other's, and the other's places and log go on
-- from its own
pub record Grows (old new : CoreState) : Type 0 where
  pub openings : new.openings ≡ old.openings
  pub decided : BeginsWith new.shown.decided old.shown.decided
  pub log : BeginsWith (log_of new) (log_of old)

pub Grows-itself : (core : CoreState) → Grows core core
Grows-itself core = record { openings = refl; decided = begins_self core.shown.decided; log = begins_self (log_of core) }

-- what follows from the law: each decided ticket has its entry, and a worker has learned no more
-- than the places of the log
module _ (core : CoreState) (law : CoreLaw core) where
  pub stands_with_entry : (place : ℕ) (ticket : Ticket) → slice_get core.shown.decided place ≡ Some ticket → HasEntry core ticket
  stands_with_entry place ticket at = has_entry core ticket law.listed law.entries (law.sound.announced place ticket at)

  pub learned_in_log : (number : ℕ) (worker : WorkerState) → IsWorker core.shown number worker → length worker.learned ≤ length (log_of core)
  learned_in_log number worker at = omega (arith, learned_few (core_size core) core.shown number worker law.sound at, length-map core.shown.decided (entry_under core))

-- before any event nothing is announced and nothing replayed
nothing_announced : (size : LogSize) (number : ℕ) → announced_by (new_log size) number ≡ 0
nothing_announced size number = of_found (slice_get (replicate size.workers new_worker) number) refl
  where
    of_found : (found : Option WorkerState) → slice_get (replicate size.workers new_worker) number ≡ found →
        option_map_or (λ (worker : WorkerState). worker.announced) found 0 ≡ 0
    of_found None at = refl
    of_found (Some worker) at = ap (λ (it : WorkerState). it.announced) (sym (at_replicated size.workers number new_worker worker at))

new_entries : (settings : Configuration) (number : ℕ) (announced : List Entry) → announced ≡ [] → EntriesLaw (new_core settings) number announced
new_entries settings number announced none = subst (EntriesLaw (new_core settings) number) (sym none) record {
  many = sym (nothing_announced (record { workers = settings.workers; places = settings.places }) number);
  tickets = λ k entry at. absurd (none-some entry at);
  tenants = λ k entry at. absurd (none-some entry at);
}

new_replay : (settings : Configuration) (worker : WorkerState) (replay : ReplayState) →
    replay ≡ record { replayed = 0; tables = empty_tables settings.tenants } → ReplayLaw (new_core settings) worker replay
new_replay settings worker replay new =
    subst (ReplayLaw (new_core settings) worker) (sym new) record { few = omega arith; stands = EachStands-none (empty_tables settings.tenants) }

pub opens : (settings : Configuration) → CoreLaw (new_core settings)
opens settings =
    let core = new_core settings in
    let many : length core.shown.workers ≡ settings.workers = length-replicate settings.workers new_worker in
    let sized = λ (workers : ℕ). let size : LogSize = record { workers = workers; places = settings.places } in size in record {
      reached = ([], ap (λ n. new_log (sized n)) (sym many));
      sound = subst (λ n. IsSound (sized n) core.shown) (sym many) (state_laws.opens (sized settings.workers));
      listed = length-replicate settings.workers [] ∙ sym many;
      kept = length-replicate settings.workers _ ∙ sym many;
      entries = λ number announced at. new_entries settings number announced (sym (at_replicated settings.workers number [] announced at));
      replays = λ number worker replay at. new_replay settings worker replay (sym (at_replicated settings.workers number _ replay at.1));
    }

-- one event of what the log shows
module _ (old : CoreState) (law : CoreLaw old) (shown : ShownState) (lists : List (List Entry)) where
  abbrev moved : CoreState
  moved = record old { shown = shown; entries = lists }

  shown-grows : Moves old.shown shown → KeepsEntries old moved → Grows old moved
  shown-grows moves keeps = record { openings = refl; decided = moves.decided; log = log-begins old moved (stands_with_entry old law) moves.decided keeps }

  shown-keeps : (event : ShownEvent) → Step (core_size old) old.shown event shown → Moves old.shown shown → KeepsEntries old moved →
      length lists ≡ length old.entries → AreEntries moved → CoreLaw moved
  shown-keeps event step moves keeps same entries =
      let size : core_size old ≡ core_size moved = ap (λ n. let size : LogSize = record { workers = n; places = old.places } in size) (sym moves.many) in record {
        reached = subst (λ n. IsReached n shown) size (event ∷ law.reached.0, (old.shown, law.reached.1, step));
        sound = subst (λ n. IsSound n shown) size (state_laws.keeps (core_size old) old.shown shown event law.sound step);
        listed = same ∙ law.listed ∙ sym moves.many;
        kept = law.kept ∙ sym moves.many;
        entries = entries;
        replays = λ number worker replay has.
            let was = moves.learned number worker has.0 in
            replay_stays old moved was.0 worker replay (law.replays number was.0 replay (was.1, has.1)) refl
            (shown-grows moves keeps).log (learned_in_log old law number was.0 was.1) was.2;
      }

-- what holds of the next state
abbrev Continues : CoreState → CoreState → Type 0
Continues old new = CoreLaw new × Grows old new

-- reading, looking, proposing and stopping announce nothing
quiet-goes_on : (old : CoreState) (shown : ShownState) (event : ShownEvent) → CoreLaw old →
    Step (core_size old) old.shown event shown → IsQuiet old.shown shown → Continues old (record old { shown = shown })
quiet-goes_on old shown event law step quiet =
    let keeps : KeepsEntries old (record old { shown = shown }) = λ ticket entry at. at in (
      shown-keeps old law shown old.entries event step quiet.0 keeps refl (entries_stay old (record old { shown = shown }) law.entries refl refl quiet.1),
      shown-grows old law shown old.entries quiet.0 keeps,
    )

-- an announcement
module _ (old : CoreState) (number tenant : ℕ) (command : Command) (worker : WorkerState) (law : CoreLaw old) (known : tenant < length old.openings)
    (at : IsWorker old.shown number worker) where
  abbrev entry : Entry
  entry = announced_entry old number tenant command

  abbrev announced : CoreState
  announced = record old { shown = with_worker old.shown number (announce worker); entries = with_entry old.entries entry }

  abbrev shown : ShownState
  shown = with_worker old.shown number (announce worker)

  announce-goes_on : Step (core_size old) old.shown (announces number) shown → Continues old announced
  announce-goes_on step =
      let list = there old.entries number (omega (arith, law.listed, slice_get_within old.shown.workers number worker at)) in
      let moves = one_moves old.shown old.shown.decided number worker (announce worker) at (begins_self old.shown.decided) (le_refl (length worker.learned)) in
      let raised = announced_after old.shown old.shown.decided number worker (announce worker) at
      ∙ ap (λ (n : ℕ). n + 1) (sym (announced_is old.shown number worker at)) in
      let elsewhere = announced_elsewhere old.shown old.shown.decided number worker (announce worker) at in
      let keeps = announcement-keeps old shown list.0 entry list.1 in
      let entries = announcement-entries old shown list.0 entry list.1 law.entries known refl raised elsewhere in (
        shown-keeps old law shown (with_entry old.entries entry) (announces number) step moves keeps (length-set old.entries number _) entries,
        shown-grows old law shown (with_entry old.entries entry) moves keeps,
      )

-- a replay
module _ (old : CoreState) (number : ℕ) (worker : WorkerState) (replay : ReplayState) (tables : List TableState) (law : CoreLaw old)
    (has : HasReplica old number worker replay) where
  abbrev further : ReplayState
  further = record { replayed = replay.replayed + 1; tables = tables }

  abbrev replayed : CoreState
  replayed = record old { replays = slice_set old.replays number further }

  stays_replayed : (other : ℕ) (found : WorkerState) (known : ReplayState) → HasReplica old other found known → ReplayLaw replayed found known
  stays_replayed other found known is =
      replay_stays old replayed found found known (law.replays other found known is) refl (begins_self (log_of old))
      (learned_in_log old law other found is.0) (le_refl (length found.learned))

  replay-goes_on : replay.replayed < length worker.learned → TakeEffect (entry_at old replay.replayed) replay.tables tables → Continues old replayed
  replay-goes_on more takes =
      let inside : replay.replayed < length old.shown.decided = omega (arith, more, learned_few (core_size old) old.shown number worker law.sound has.0) in
      let mine : ReplayLaw replayed worker further = replay_more replayed worker replay tables (stays_replayed number worker replay has) more inside takes in (
        record {
          reached = law.reached;
          sound = law.sound;
          listed = law.listed;
          kept = length-set old.replays number further ∙ law.kept;
          entries = entries_stay old replayed law.entries refl refl (λ other. refl);
          replays = λ other found known is. ⊎_elim
              (λ (here : (other ≡ number) × (further ≡ known)).
              let same : worker ≡ found = same_Some worker found (sym has.0 ∙ ap (slice_get old.shown.workers) (sym here.0) ∙ is.0) in
              subst (λ (it : WorkerState × ReplayState). ReplayLaw replayed it.0 it.1) (λ i. (same i, here.1 i)) mine)
              (λ apart. stays_replayed other found known (is.0, apart.1))
              (at_set old.replays number other further known is.1);
        },
        record { openings = refl; decided = begins_self old.shown.decided; log = begins_self (log_of old) },
      )

-- one event
goes_on : (old new : CoreState) (event : Event) (reply : Option Reply) → CoreLaw old → CoreStep old event new reply → Continues old new
goes_on old new (Announce number tenant command) reply law step =
    let entry = announced_entry old number tenant command in
    subst (Continues old) (sym step.2) (subst (λ s. Continues old (record old { shown = s; entries = with_entry old.entries entry })) (sym step.1.4)
    (announce-goes_on old number tenant command step.1.0 law step.0 step.1.1 (step.1.0, step.1.1, step.1.2, step.1.3, refl)))
goes_on old new (Read number) reply law step =
    subst (Continues old) (sym step.1) (quiet-goes_on old new.shown (reads number) law step.0 (reads_quietly (core_size old) old.shown new.shown number step.0))
goes_on old new (Look number) reply law step =
    subst (Continues old) (sym step.1) (quiet-goes_on old new.shown (looks number) law step.0 (looks_quietly (core_size old) old.shown new.shown number step.0))
goes_on old new (Propose number) reply law step =
    subst (Continues old) (sym step.1) (quiet-goes_on old new.shown (proposes number) law step.0 (proposes_quietly (core_size old) old.shown new.shown number step.0))
goes_on old new (Stop number) reply law step =
    subst (Continues old) (sym step.1) (quiet-goes_on old new.shown (stops number) law step.0 (stops_quietly (core_size old) old.shown new.shown number step.0))
goes_on old new (Replay number) reply law step =
    subst (Continues old) (sym step.8) (replay-goes_on old number step.0 step.3 step.6 law (step.1, step.4) step.5 step.7)

pub keeps : (old new : CoreState) (event : Event) (reply : Option Reply) → CoreLaw old → CoreStep old event new reply → CoreLaw new
keeps old new event reply law step = (goes_on old new event reply law step).0

pub grows : (old new : CoreState) (event : Event) (reply : Option Reply) → CoreLaw old → CoreStep old event new reply → Grows old new
grows old new event reply law step = (goes_on old new event reply law step).1
