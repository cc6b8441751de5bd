-- Each worker's tables over those that the log was opened over stand for the places that it has
-- replayed: by induction over the events of a run, of which each leads from a core that a run leads to.
use Rattle.std.proofs.Common.{◌≡◌, ℕ, suc, ◌+◌, ◌<◌, ◌≤◌, List, [], ◌∷◌, ◌++◌, length, map, take, Option, Some, None, slice_get, slice_set, ⊎_elim, refl, sym, ap, ap₂, subst, ◌∙◌, arith, append_assoc, ◌&&◌, if◌then◌else◌, eq-eqb}
use Rattle.std.proofs.lemmas.List.{length-map, map-append, take-map}
use Rattle.std.proofs.lemmas.Option.{none-some, same_Some}
use Rattle.std.proofs.lemmas.Simd.{map-map}
use Rattle.std.specs.Option.{option_and_then, option_map}
use Rattle.lists.proofs.Public.{at_replicated, at_set, begins_longer, take_more}
use Rattle.lists.specs.Lists.{BeginsWith}
use Rattle.mc_model.specs.declared.id.Ticket.{Ticket}
use Rattle.mc_model.specs.declared.reply.Reply.{Reply}
use Rattle.mc_model.specs.declared.request.Entry.{Entry}
use Rattle.mc_model.specs.declared.shown.WorkerState.{WorkerState}
use Rattle.mc_model.specs.History.{state_from}
use Rattle.mc_model.specs.Lawful.{IsWorker}
use Rattle.mc_model.specs.Log.{PlaceSighting, entries_seen, entry_for, entry_seen, own}
use Rattle.mc_model.specs.Replay.{EachStands, TakeEffect}
use Rattle.mc_model.specs.Settings.{Configuration}
use Rattle.mc_model.specs.State.{TableState}
use Rattle.model_lemmas.proofs.Replays.{EachStands-none, EachStands-push}
use Rattle.model_lemmas.proofs.StateLaws.{IsSound, is_sound, learned_few}
use Rattle.uc_core.specs.Core.{CoreState, ReplayState, core_size, entry_under, log_of}
use Rattle.uc_core.specs.Headline.{HasReplica, LogIsSound, ReplicasAgree, replica_of}
use Rattle.uc_core.specs.Run.{Given, Runs, given_by}
use Rattle.uc_core.specs.Step.{CoreStep, entry_at}
use Rattle.uc_core.specs.declared.event.Event.{Event}
use Rattle.uc_core.specs.declared.event.Event.TheVariants.{Announce, Look, Propose, Read, Replay, Stop}
use Rattle.uc_laws.proofs.Echoed.{Laws, are_learned, is_reached, prefixes_agree}
use Rattle.uc_laws.proofs.Echoed as echoed
use Rattle.uc_laws.proofs.Growing.{Grows, HasEntries, grows, grows_self, grows_through, log_at, log_long, map-agree, stands_on, take-begins}
use Rattle.uc_laws.specs.Over.{TablesStandOver}
use Rattle.uc_laws.specs.CoreRun.{core_over}

-- each worker's tables are those that the log was opened over, after the places that it has replayed
abbrev pub AllStand : List TableState → CoreState → Type 0
AllStand tables core = (number : ℕ) (replay : ReplayState) → slice_get core.replays number ≡ Some replay →
    (replay.replayed ≤ length core.shown.decided) × EachStands tables (take replay.replayed (log_of core)) replay.tables

-- two lists with the same element at each place are equal
same_by_places : {X : Type 0} (xs ys : List X) → ((k : ℕ) → slice_get xs k ≡ slice_get ys k) → xs ≡ ys
same_by_places [] [] same = refl
same_by_places [] (y ∷ ys) same = absurd (none-some y (same 0))
same_by_places (x ∷ xs) [] same = absurd (none-some x (sym (same 0)))
same_by_places (x ∷ xs) (y ∷ ys) same = ap₂ (λ first rest. first ∷ rest) (same_Some x y (same 0)) (same_by_places xs ys (λ k. same (suc k)))

-- the log goes on
stand_on : (tables : List TableState) (old new : CoreState) → Grows old new → new.replays ≡ old.replays → AllStand tables old → AllStand tables new
stand_on tables old new grown same stands number replay at =
    let its = stands number replay (ap (λ (list : List ReplayState). slice_get list number) (sym same) ∙ at) in
    let few = its.0 in
    let longer = begins_longer new.shown.decided old.shown.decided grown.decided in
    let inside : replay.replayed ≤ length (log_of old) = omega (arith, few, log_long old) in (
      omega (arith, few, longer),
      subst (λ (log : List (Option Entry)). EachStands tables log replay.tables) (sym (take-begins (log_of new) (log_of old) replay.replayed grown.log inside)) its.1,
    )

-- a worker replays one more place
module _ (tables : List TableState) (old : CoreState) (number : ℕ) (replay : ReplayState) (further : List TableState) (at : slice_get old.replays number ≡ Some replay)
    (inside : replay.replayed < length old.shown.decided) (takes : TakeEffect (entry_at old replay.replayed) replay.tables further) (stands : AllStand tables old) where
  abbrev its : ReplayState
  its = record { replayed = replay.replayed + 1; tables = further }

  stands_further : EachStands tables (take (replay.replayed + 1) (log_of old)) further
  stands_further = let next : suc replay.replayed ≡ replay.replayed + 1 = omega arith in subst (λ (log : List (Option Entry)). EachStands tables log further)
      (sym (take_more (log_of old) replay.replayed (entry_at old replay.replayed) (log_at old replay.replayed inside))
      ∙ ap (λ (n : ℕ). take n (log_of old)) next)
      (EachStands-push tables (take replay.replayed (log_of old)) (entry_at old replay.replayed) replay.tables further (stands number replay at).1 takes)

  replay_stands : AllStand tables (record old { replays = slice_set old.replays number its })
  replay_stands other known is = ⊎_elim
      (λ (here : (other ≡ number) × (its ≡ known)).
      subst (λ (it : ReplayState). (it.replayed ≤ length old.shown.decided) × EachStands tables (take it.replayed (log_of old)) it.tables) here.1
      (omega (arith, inside), stands_further))
      (λ apart. stands other known apart.1)
      (at_set old.replays number other its known is)

-- one run follows another
pub runs_then : (one two three : CoreState) (events more : List Event) (given later : List Given) → Runs one events two given → Runs two more three later →
    Runs one (events ++ more) three (given ++ later)
runs_then one two three [] more given later none runs =
    subst (λ (z : CoreState × List Given). Runs z.0 more three (z.1 ++ later)) (λ i. (none.0 i, sym none.1 i)) runs
runs_then one two three (event ∷ events) more given later first runs = (
  first.0,
  first.1,
  first.2 ++ later,
  first.3,
  runs_then first.0 two three events more first.2 later first.4 runs,
  ap (λ (list : List Given). list ++ later) first.5 ∙ append_assoc (given_by one event first.1) first.2 later,
)

module _ (laws : Laws) (settings : Configuration) (tables : List TableState) where
  -- some run over the tables leads to the core
  abbrev pub IsOpened : CoreState → Type 0
  IsOpened core = (events : List Event) × (given : List Given) × Runs (core_over settings tables) events core given

  pub opened : IsOpened (core_over settings tables)
  opened = ([], [], (refl, refl))

  pub opened_on : (old new : CoreState) (event : Event) (reply : Option Reply) → IsOpened old → CoreStep old event new reply → IsOpened new
  opened_on old new event reply from step = (
    from.0 ++ event ∷ [],
    from.1 ++ (given_by old event reply ++ []),
    runs_then (core_over settings tables) old new from.0 (event ∷ []) from.1 (given_by old event reply ++ []) from.2 (new, reply, [], step, (refl, refl), refl),
  )

  pub sound_log : (core : CoreState) → IsOpened core → LogIsSound core
  sound_log core from = echoed.is_sound laws settings tables from.0 core from.1 from.2

  pub sound_shown : (core : CoreState) → IsOpened core → IsSound (core_size core) core.shown
  sound_shown core from = let there = is_reached laws settings tables from.0 core from.1 from.2 in is_sound (core_size core) there.0 core.shown there.1

  pub has_entries : (core : CoreState) → IsOpened core → HasEntries core
  has_entries core from place ticket at = let entry = (sound_log core from).announced place ticket at in (entry.0, entry.1)

  -- a worker has learned no more than is decided
  pub learned_inside : (core : CoreState) (number : ℕ) (worker : WorkerState) → IsOpened core → IsWorker core.shown number worker →
      length worker.learned ≤ length core.shown.decided
  learned_inside core number worker from at = learned_few (core_size core) core.shown number worker (sound_shown core from) at

  pub all_stand_first : AllStand tables (core_over settings tables)
  all_stand_first number replay at =
      let first : ReplayState = record { replayed = 0; tables = tables } in
      subst (λ (it : ReplayState). (it.replayed ≤ 0) × EachStands tables (take it.replayed []) it.tables) (at_replicated settings.workers number first replay at)
      (omega arith, EachStands-none tables)

  pub stand_after : (old new : CoreState) (event : Event) (reply : Option Reply) → IsOpened old → AllStand tables old → CoreStep old event new reply → AllStand tables new
  stand_after old new (Announce number tenant command) reply from stands step =
      stand_on tables old new (grows old new (Announce number tenant command) reply (has_entries old from) step) (ap (λ (core : CoreState). core.replays) step.2) stands
  stand_after old new (Read number) reply from stands step =
      stand_on tables old new (grows old new (Read number) reply (has_entries old from) step) (ap (λ (core : CoreState). core.replays) step.1) stands
  stand_after old new (Look number) reply from stands step =
      stand_on tables old new (grows old new (Look number) reply (has_entries old from) step) (ap (λ (core : CoreState). core.replays) step.1) stands
  stand_after old new (Propose number) reply from stands step =
      stand_on tables old new (grows old new (Propose number) reply (has_entries old from) step) (ap (λ (core : CoreState). core.replays) step.1) stands
  stand_after old new (Stop number) reply from stands step =
      stand_on tables old new (grows old new (Stop number) reply (has_entries old from) step) (ap (λ (core : CoreState). core.replays) step.1) stands
  stand_after old new (Replay number) reply from stands step =
      let inside : step.3.replayed < length old.shown.decided = omega (arith, step.5, learned_inside old number step.0 from step.1) in
      subst (AllStand tables) (sym step.8) (replay_stands tables old number step.3 step.6 step.4 inside step.7 stands)

  -- a whole run
  pub stand_at_end : (old new : CoreState) (events : List Event) (given : List Given) → IsOpened old → AllStand tables old → Runs old events new given →
      AllStand tables new × Grows old new
  stand_at_end old new [] given from stands runs = subst (λ (core : CoreState). AllStand tables core × Grows old core) (sym runs.0) (stands, grows_self old)
  stand_at_end old new (event ∷ events) given from stands runs =
      let rest = stand_at_end runs.0 new events runs.2 (opened_on old runs.0 event runs.1 from runs.3)
      (stand_after old runs.0 event runs.1 from stands runs.3) runs.4 in
      (rest.0, grows_through old runs.0 new (grows old runs.0 event runs.1 (has_entries old from) runs.3) rest.1)

  module _ (core : CoreState) (from : IsOpened core) where
    all_stand : AllStand tables core
    all_stand = (stand_at_end (core_over settings tables) core from.0 from.1 opened all_stand_first from.2).0

    -- what is seen of a ticket, and that its entry counts
    abbrev seen : Ticket → PlaceSighting
    seen ticket = record { ticket = ticket; entry = entry_under core ticket }

    own_entry : (entry : Entry) (ticket : Ticket) → entry.ticket ≡ ticket → entry_for ticket entry ≡ Some entry
    own_entry entry ticket own =
        let worker = eq-eqb entry.ticket.worker ticket.worker (ap (λ (it : Ticket). it.worker) own) in
        let number = eq-eqb entry.ticket.number ticket.number (ap (λ (it : Ticket). it.number) own) in
        ap₂ (λ a b. if a && b then Some entry else None) worker number

    counts : (place : ℕ) (ticket : Ticket) → slice_get core.shown.decided place ≡ Some ticket → entry_seen (seen ticket) ≡ entry_under core ticket
    counts place ticket at =
        let found = (sound_log core from).announced place ticket at in
        ap (option_and_then (entry_for ticket)) found.1 ∙ own_entry found.0 ticket found.2 ∙ sym found.1

    -- a worker's replica is the log up to what it has replayed
    replica_is : (number : ℕ) (worker : WorkerState) (replay : ReplayState) → HasReplica core number worker replay →
        entries_seen (replica_of core worker replay) ≡ take replay.replayed (log_of core)
    replica_is number worker replay has =
        let begins = ((sound_shown core from).each number worker has.0).begins in
        let few = are_learned laws settings tables from.0 core from.1 from.2 number worker replay has in
        let known : map entry_seen (map seen worker.learned) ≡ map (entry_under core) worker.learned = map-map entry_seen seen worker.learned
        ∙ map-agree _ (entry_under core) worker.learned (λ k ticket at. counts k ticket (stands_on core.shown.decided worker.learned begins k ticket at)) in
        let goes_on : BeginsWith (log_of core) (map (entry_under core) worker.learned) =
        (map (entry_under core) begins.0, ap (map (entry_under core)) begins.1 ∙ map-append (entry_under core) worker.learned begins.0) in
        let long : length (map (entry_under core) worker.learned) ≡ length worker.learned = length-map worker.learned (entry_under core) in
        sym (take-map entry_seen replay.replayed (map seen worker.learned)) ∙ ap (take replay.replayed) known
        ∙ sym (take-begins (log_of core) (map (entry_under core) worker.learned) replay.replayed goes_on (omega (arith, few, long)))

    pub tables_stand : TablesStandOver tables core
    tables_stand number worker replay has = (
      are_learned laws settings tables from.0 core from.1 from.2 number worker replay has,
      subst (λ (log : List (Option Entry)). EachStands tables log replay.tables) (sym (replica_is number worker replay has)) (all_stand number replay has.1).1,
    )

    pub replicas_agree : ReplicasAgree core
    replicas_agree = record {
      prefixes = prefixes_agree laws settings tables from.0 core from.1 from.2;
      tables = λ one other v w r s has there same. same_by_places r.tables s.tables (λ tenant.
          (all_stand one r has.1).1 tenant
          ∙ ap (λ (n : ℕ). option_map (λ (opening : TableState). state_from opening (own tenant (take n (log_of core)))) (slice_get tables tenant)) same
          ∙ sym ((all_stand other s there.1).1 tenant));
    }
