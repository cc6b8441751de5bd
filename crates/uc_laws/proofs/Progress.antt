-- A worker's progress by the events of a run: what is known of its counts, put together. Each worker
-- has a replay, since no event adds or drops one.
use Rattle.std.proofs.Common.{◌≡◌, ℕ, ◌≤◌, List, length, Option, Some, None, slice_get, sym, ap, ◌∙◌, arith}
use Rattle.std.proofs.lemmas.List.{length-replicate, length-set}
use Rattle.std.proofs.lemmas.Option.{slice_get_past, slice_get_within}
use Rattle.std.specs.List.{count_by}
use Rattle.std.specs.Option.{option_and_then, option_map, option_map_or}
use Rattle.mc_model.specs.declared.shown.WorkerState.{WorkerState}
use Rattle.mc_model.specs.Lawful.{IsWorker}
use Rattle.mc_model.specs.Settings.{Configuration}
use Rattle.mc_model.specs.State.{TableState}
use Rattle.uc_core.specs.Asked.{AnnouncementsStand, IsOfSettings, ReplaysCount, announcements, is_replay_of}
use Rattle.uc_core.specs.Core.{CoreState, ReplayState}
use Rattle.uc_core.specs.Run.{Given, Runs}
use Rattle.uc_core.specs.Showing.{progress_by, progress_of}
use Rattle.uc_core.specs.declared.event.Event.{Event}
use Rattle.uc_core.specs.declared.event.Event.TheVariants.{Announce, Look, Propose, Read, Replay, Stop}
use Rattle.uc_core.specs.declared.machine.Progress.{Progress}
use Rattle.uc_laws.proofs.Growing.{there}
use Rattle.uc_laws.proofs.Made.{EachMakes, made, nothing_made}
use Rattle.uc_laws.specs.CoreRun.{core_over}
use Rattle.uc_laws.specs.Counts.{ProgressStands, ProposalsCount, progress_after}
use Rattle.uc_laws.specs.Over.{ByEventsOver}

-- as many replays as there are workers
abbrev replays_in : CoreState → ℕ
replays_in core = length core.replays

kept_many : EachMakes replays_in (λ many event. many)
kept_many old (Announce worker tenant command) new reply step = ap (λ (it : CoreState). length it.replays) step.2
kept_many old (Read worker) new reply step = ap (λ (it : CoreState). length it.replays) step.1
kept_many old (Look worker) new reply step = ap (λ (it : CoreState). length it.replays) step.1
kept_many old (Propose worker) new reply step = ap (λ (it : CoreState). length it.replays) step.1
kept_many old (Replay worker) new reply step = ap (λ (it : CoreState). length it.replays) step.8 ∙ length-set old.replays worker _
kept_many old (Stop worker) new reply step = ap (λ (it : CoreState). length it.replays) step.1

many_replays : (settings : Configuration) (tables : List TableState) (events : List Event) (core : CoreState) (given : List Given) →
    Runs (core_over settings tables) events core given → length core.replays ≡ settings.workers
many_replays settings tables events core given run =
    made replays_in (λ many event. many) kept_many (core_over settings tables) core events given run
    ∙ nothing_made (length (core_over settings tables).replays) events
    ∙ length-replicate settings.workers _

-- the counts of a worker's progress in place of its own
abbrev counting : WorkerState → ℕ → ℕ → ℕ → Progress
counting worker announced replayed proposals = record {
  phase = worker.phase;
  announced = announced;
  learned = length worker.learned;
  replayed = replayed;
  mark = worker.mark;
  look = worker.look;
  proposals = proposals;
}

module _ (settings : Configuration) (events : List Event) (core : CoreState) (many : length core.replays ≡ settings.workers)
    (sized : IsOfSettings settings core) (announced : AnnouncementsStand events core) (replayed : ReplaysCount events core)
    (proposed : ProposalsCount events core) where
  shown_progress : (number : ℕ) (worker : WorkerState) → IsWorker core.shown number worker → progress_by core number ≡ Some (progress_after events number worker)
  shown_progress number worker at =
      let inside = slice_get_within core.shown.workers number worker at in
      let replay = there core.replays number (omega (arith, inside, many, sized.workers)) in
      let announces : worker.announced ≡ length (announcements number events) =
      ap (λ (found : Option WorkerState). option_map_or (λ (it : WorkerState). it.announced) found 0) (sym at) ∙ announced.many number in
      let replays : replay.0.replayed ≡ count_by (is_replay_of number) events =
      ap (λ (found : Option ReplayState). option_map_or (λ (it : ReplayState). it.replayed) found 0) (sym replay.1) ∙ replayed number in
      let proposes = proposed number worker at in
      ap (option_and_then (λ (it : WorkerState). option_map (progress_of it) (slice_get core.replays number))) at
      ∙ ap (option_map (progress_of worker)) replay.1
      ∙ (λ i. Some (counting worker (announces i) (replays i) (proposes i)))

  no_progress : (number : ℕ) → settings.workers ≤ number → progress_by core number ≡ None
  no_progress number beyond =
      let few = sized.workers in
      ap (option_and_then (λ (it : WorkerState). option_map (progress_of it) (slice_get core.replays number)))
      (slice_get_past core.shown.workers number (omega (arith, beyond, few)))

pub progress_stands : ByEventsOver (λ settings events core. IsOfSettings settings core) → ByEventsOver (λ settings events core. AnnouncementsStand events core) →
    ByEventsOver (λ settings events core. ReplaysCount events core) → ByEventsOver (λ settings events core. ProposalsCount events core) →
    ByEventsOver (λ settings events core. ProgressStands settings events core)
progress_stands sizes announces replays proposes settings tables events core given run =
    let many = many_replays settings tables events core given run in
    let sized = sizes settings tables events core given run in
    let announced = announces settings tables events core given run in
    let replayed = replays settings tables events core given run in
    let proposed = proposes settings tables events core given run in record {
      each = shown_progress settings events core many sized announced replayed proposed;
      others = no_progress settings events core many sized announced replayed proposed;
    }
