-- What the headline says of a run over tables by the run over empty ones that it echoes: all that
-- doesn't speak of tables.
use Rattle.std.proofs.Common.{◌≡◌, ◌≢◌, ℕ, suc, ◌+◌, ◌≤◌, List, [], ◌∷◌, length, map, take, Some, None, slice_get, refl, sym, ap, subst, ◌∙◌, arith}
use Rattle.mc_model.specs.declared.id.Ticket.{Ticket}
use Rattle.mc_model.specs.declared.shown.WorkerState.{WorkerState}
use Rattle.mc_model.specs.Lawful.{IsReached}
use Rattle.mc_model.specs.Log.{PlaceSighting}
use Rattle.mc_model.specs.Settings.{Configuration}
use Rattle.mc_model.specs.State.{TableState}
use Rattle.uc_core.specs.Core.{CoreState, ReplayState, core_size, entry_under, new_core}
use Rattle.uc_core.specs.Headline.{HasReplica, IsDecidedSoon, LogIsSound, OfEveryRun, ReplicasAgree, StandsAfterDecided, StandsLater, StepsAreAlone, StopsForGood, TablesStand, replica_of}
use Rattle.uc_core.specs.Run.{Given, Runs}
use Rattle.uc_core.specs.Step.{actor}
use Rattle.uc_core.specs.declared.event.Event.{Event}
use Rattle.uc_laws.proofs.Echoes.{AreAlike, Echoed, announce_echoes, found_alike, open_alike, run_echoes, stop_echoes, with_replays}
use Rattle.uc_laws.specs.CoreRun.{core_over}

-- the laws of every run over empty tables
pub record Laws : Type 0 where
  pub once : OfEveryRun (λ core given. LogIsSound core)
  pub replicas : OfEveryRun (λ core given. ReplicasAgree core)
  pub tables : OfEveryRun (λ core given. TablesStand core)
  pub helped : OfEveryRun (λ core given. IsDecidedSoon (length core.shown.workers + 1) core)
  pub after : OfEveryRun (λ core given. StandsAfterDecided core)
  pub stopped : OfEveryRun (λ core given. StopsForGood core)
  pub shown : OfEveryRun (λ core given. IsReached (core_size core) core.shown)
  pub alone : (core : CoreState) → StepsAreAlone core

-- what a worker has learned, as it is seen
abbrev seen_by : CoreState → WorkerState → List PlaceSighting
seen_by core worker = map (λ (ticket : Ticket).
    let seen : PlaceSighting = record { ticket = ticket; entry = entry_under core ticket } in seen) worker.learned

-- a worker that takes no event keeps what it has replayed
stays : (alone : (core : CoreState) → StepsAreAlone core) (old new : CoreState) (number : ℕ) (events : List Event) (given : List Given) → Runs old events new given →
    ((k : ℕ) (event : Event) → slice_get events k ≡ Some event → actor event ≢ number) → slice_get new.replays number ≡ slice_get old.replays number
stays alone old new number [] given runs others = ap (λ (core : CoreState). slice_get core.replays number) runs.0
stays alone old new number (event ∷ events) given runs others =
    stays alone runs.0 new number events runs.2 runs.4 (λ k. others (suc k))
    ∙ (alone old event runs.0 runs.1 number runs.3 (λ same. others 0 event refl (sym same))).1

module _ (laws : Laws) (settings : Configuration) (tables : List TableState) (events : List Event) (core : CoreState) (given : List Given)
    (run : Runs (core_over settings tables) events core given) where
  it : Echoed (core_over settings tables) events core given (new_core settings).replays
  it = run_echoes (core_over settings tables) core events given (new_core settings).replays (open_alike settings tables) run

  abbrev plain : CoreState
  plain = with_replays core it.later

  pub is_reached : IsReached (core_size core) core.shown
  is_reached = laws.shown settings events plain it.told it.runs

  pub is_sound : LogIsSound core
  is_sound = let its = laws.once settings events plain it.told it.runs in record { once = its.once; legal = its.legal; announced = its.announced }

  -- the replica over empty tables
  replica_too : (number : ℕ) (worker : WorkerState) (replay : ReplayState) → HasReplica core number worker replay →
      (other : ReplayState) × HasReplica plain number worker other × (other.replayed ≡ replay.replayed)
  replica_too number worker replay has = let found = found_alike core.replays it.later number replay it.alike has.1 in (found.0, (has.0, found.1), found.2)

  pub are_learned : (number : ℕ) (worker : WorkerState) (replay : ReplayState) → HasReplica core number worker replay → replay.replayed ≤ length worker.learned
  are_learned number worker replay has =
      let too = replica_too number worker replay has in
      subst (λ (n : ℕ). n ≤ length worker.learned) too.2 (laws.tables settings events plain it.told it.runs number worker too.0 too.1).0

  pub prefixes_agree : (one other : ℕ) (v w : WorkerState) (r s : ReplayState) → HasReplica core one v r → HasReplica core other w s →
      r.replayed ≤ s.replayed → replica_of core v r ≡ take r.replayed (replica_of core w s)
  prefixes_agree one other v w r s has there fewer =
      let p = replica_too one v r has in let q = replica_too other w s there in
      let same = p.2 in let same_other = q.2 in
      subst (λ (n : ℕ × ℕ). take n.0 (seen_by core v) ≡ take n.0 (take n.1 (seen_by core w))) (λ i. (p.2 i, q.2 i))
      ((laws.replicas settings events plain it.told it.runs).prefixes one other v w p.0 q.0 p.1 q.1 (omega (arith, fewer, same, same_other)))

  -- an event that replays nothing leaves the replays as they are
  still_alike : (new : CoreState) → new.replays ≡ core.replays → AreAlike new.replays it.later
  still_alike new same = subst (λ (list : List ReplayState). AreAlike list it.later) (sym same) it.alike

  pub is_soon : IsDecidedSoon (length core.shown.workers + 1) core
  is_soon number tenant command announced new events_after given_after step runs far =
      let rest = run_echoes announced new events_after given_after it.later (still_alike announced (ap (λ (c : CoreState). c.replays) step.2)) runs in
      laws.helped settings events plain it.told it.runs number tenant command (with_replays announced it.later) (with_replays new rest.later) events_after rest.told
      (announce_echoes core announced number tenant command None it.later step) rest.runs far

  stands_too : (place : ℕ) → StandsLater core place → StandsLater plain place
  stands_too place later =
      let rest = run_echoes later.announced later.new later.events later.given it.later
      (still_alike later.announced (ap (λ (c : CoreState). c.replays) later.announces.2)) later.runs in record {
        number = later.number;
        tenant = later.tenant;
        command = later.command;
        announced = with_replays later.announced it.later;
        new = with_replays later.new rest.later;
        events = later.events;
        given = rest.told;
        announces = announce_echoes core later.announced later.number later.tenant later.command None it.later later.announces;
        runs = rest.runs;
        stands = later.stands;
      }

  pub is_after : StandsAfterDecided core
  is_after place later = laws.after settings events plain it.told it.runs place (stands_too place later)

  pub stops : StopsForGood core
  stops number stopped new reply events_after given_after step runs =
      let same = ap (λ (c : CoreState). c.replays) step.1 in
      let rest = run_echoes stopped new events_after given_after it.later (still_alike stopped same) runs in
      let its = laws.stopped settings events plain it.told it.runs number (with_replays stopped it.later) (with_replays new rest.later) reply events_after rest.told
      (stop_echoes core stopped number reply it.later step) rest.runs in (
        its.0,
        its.1,
        stays laws.alone stopped new number events_after given_after runs its.0 ∙ ap (λ (list : List ReplayState). slice_get list number) same,
      )
