-- What the fields show once one worker of them changes, and that they stay in order.
use Rattle.std.proofs.Common.{◌≡◌, ℕ, suc, ◌≤◌, List, [], ◌∷◌, ◌++◌, length, length-append, map, take, Option, Some, refl, sym, ap, ap₂, ◌∙◌, subst, arith, slice_get, slice_set, vec_capacity}
use Rattle.std.specs.Global.{Vec}
use Rattle.std.specs.Option.{option_map}
use Rattle.std.specs.Vec.{with_item}
use Rattle.std.proofs.lemmas.List.{append-nil, append_assoc, length-set, map-set, take-append-le}
use Rattle.std.proofs.lemmas.Option.{slice_get-map}
use Rattle.mc_model.specs.declared.id.Ticket.{Ticket}
use Rattle.mc_model.specs.declared.reply.Reply.{Reply}
use Rattle.mc_model.specs.declared.request.Entry.{Entry}
use Rattle.mc_model.specs.declared.shown.WorkerState.{WorkerState}
use Rattle.uc_core.specs.Core.{CoreState, ReplayState, new_core}
use Rattle.uc_core.specs.Fields.{IsCore, core_of}
use Rattle.uc_core.specs.Kept.{AreCounts, IsInOrder, replay_of, shown_worker}
use Rattle.uc_core.specs.Run.{Given, IsReachedCore, Runs, given_by}
use Rattle.uc_core.specs.Step.{CoreStep}
use Rattle.uc_core.specs.declared.event.Event.{Event}
use Rattle.uc_core.specs.declared.machine.Core.TheInside.{Inside}
use Rattle.uc_core.specs.declared.worker.Worker.{Worker}
use Rattle.uc_core.proofs.Each.{EachIs, EachIs-set, map-kept}

-- the fields with other decided places, other lists of entries and another worker of this number
abbrev pub changed : Inside → Vec Ticket → Vec (Vec Entry) → ℕ → Worker → Inside
changed s decided entries number worker = record s { decided = decided; entries = entries; workers = with_item s.workers number worker }

-- a worker of these fields is in order where these places are decided
abbrev pub InOrder : Inside → List Ticket → Worker → Type 0
InOrder s decided worker = IsInOrder (length s.workers.items) s.places decided worker

-- where the decided places become more, each worker stays in order and shows what it has shown
later : (workers places : ℕ) (decided longer more : List Ticket) (worker : Worker) → longer ≡ decided ++ more →
    IsInOrder workers places decided worker → IsInOrder workers places longer worker
later workers places decided longer more worker grows order = record {
  learned = omega (arith, ap (λ (them : List Ticket). length them) grows, length-append decided more, order.learned);
  announced = order.announced;
  idle = order.idle;
  looked = order.looked;
  proposals = order.proposals;
  counted = order.counted;
  counts =
      let same = ap (take worker.learned) grows ∙ take-append-le worker.learned decided more order.learned in
      subst (λ (learned : List Ticket). AreCounts learned worker.counts.items) (sym same) order.counts;
  uniques = order.uniques;
}

pub shown-later : (decided more : List Ticket) (workers : List Worker) → EachIs (λ (worker : Worker). worker.learned ≤ length decided) workers →
    map (shown_worker (decided ++ more)) workers ≡ map (shown_worker decided) workers
shown-later decided more [] each = refl
shown-later decided more (worker ∷ workers) each =
    let same = take-append-le worker.learned decided more (each 0 worker refl) in
    ap₂ (λ (first : WorkerState) (rest : List WorkerState). first ∷ rest)
    (ap (λ (learned : List Ticket). record (shown_worker decided worker) { learned = learned }) same)
    (shown-later decided more workers (λ k. each (suc k)))

-- one more event of a run
pub Runs-push : (old : CoreState) (events : List Event) (core : CoreState) (given : List Given) (event : Event) (new : CoreState) (reply : Option Reply) →
    Runs old events core given → CoreStep core event new reply → Runs old (events ++ event ∷ []) new (given ++ given_by core event reply)
Runs-push old [] core given event new reply runs step = (
  new,
  reply,
  [],
  subst (λ (it : CoreState). CoreStep it event new reply) runs.0 step,
  (refl, refl),
  ap (λ (it : List Given). it ++ given_by core event reply) runs.1
      ∙ ap (λ (it : CoreState). given_by it event reply) runs.0 ∙ sym (append-nil (given_by old event reply)),
)
Runs-push old (first ∷ events) core given event new reply (next, answered, rest, step_first, runs, is) step = (
  next,
  answered,
  rest ++ given_by core event reply,
  step_first,
  Runs-push next events core rest event new reply runs step,
  ap (λ (it : List Given). it ++ given_by core event reply) is ∙ append_assoc (given_by old first answered) rest (given_by core event reply),
)

IsReachedCore-step : (old : CoreState) (event : Event) (new : CoreState) (reply : Option Reply) →
    IsReachedCore old → CoreStep old event new reply → IsReachedCore new
IsReachedCore-step old event new reply (settings, events, given, run) step =
    (settings, events ++ event ∷ [], given ++ given_by old event reply, Runs-push (new_core settings) events old given event new reply run step)

-- a worker that changes leaves as many workers
of_as_many : (places : ℕ) (decided : List Ticket) (workers : List Worker) (number : ℕ) (new : Worker) →
    EachIs (IsInOrder (length workers) places decided) (slice_set workers number new) →
    EachIs (IsInOrder (length (slice_set workers number new)) places decided) (slice_set workers number new)
of_as_many places decided workers number new each =
    subst (λ (many : ℕ). EachIs (IsInOrder many places decided) (slice_set workers number new)) (sym (length-set workers number new)) each

-- the fields stay in order where one worker's do
pub IsCore-step : (s : Inside) (decided : Vec Ticket) (entries : Vec (Vec Entry)) (number : ℕ) (worker : Worker) (event : Event) (reply : Option Reply) →
    IsCore s → (more : List Ticket) → decided.items ≡ s.decided.items ++ more → vec_capacity decided ≡ vec_capacity s.decided →
    length entries.items ≡ length s.entries.items → InOrder s decided.items worker →
    CoreStep (core_of s) event (core_of (changed s decided entries number worker)) reply → IsCore (changed s decided entries number worker)
IsCore-step s decided entries number worker event reply old more grows room lists order step = record {
  tenants = old.tenants;
  few = omega (arith, old.few, length-set s.workers.items number worker);
  lists = omega (arith, old.lists, lists, length-set s.workers.items number worker);
  reserved = omega (arith, old.reserved, room);
  each = of_as_many s.places decided.items s.workers.items number worker
      (EachIs-set (InOrder s decided.items) s.workers.items number worker
      (λ k w at. later (length s.workers.items) s.places s.decided.items decided.items more w grows (old.each k w at)) order);
  reached = IsReachedCore-step (core_of s) event _ reply old.reached step;
}

-- what is shown of all workers, and of one
pub workers-shown : (decided : List Ticket) (workers : List Worker) (number : ℕ) (new : Worker) (is : WorkerState) → shown_worker decided new ≡ is →
    map (shown_worker decided) (slice_set workers number new) ≡ slice_set (map (shown_worker decided) workers) number is
workers-shown decided workers number new is shows =
    map-set (shown_worker decided) workers number new ∙ ap (slice_set (map (shown_worker decided) workers) number) shows

pub worker-at : (decided : List Ticket) (workers : List Worker) (number : ℕ) (worker : Worker) → slice_get workers number ≡ Some worker →
    slice_get (map (shown_worker decided) workers) number ≡ Some (shown_worker decided worker)
worker-at decided workers number worker at = slice_get-map (shown_worker decided) workers number ∙ ap (option_map (shown_worker decided)) at

pub replay-at : (workers : List Worker) (number : ℕ) (worker : Worker) → slice_get workers number ≡ Some worker →
    slice_get (map replay_of workers) number ≡ Some (replay_of worker)
replay-at workers number worker at = slice_get-map replay_of workers number ∙ ap (option_map replay_of) at

-- a list of entries that holds what it held
module _ (s : Inside) (number : ℕ) (old new : Vec Entry) (at : slice_get s.entries.items number ≡ Some old) (same : new.items ≡ old.items) where
  pub entries-kept : core_of (record s { entries = with_item s.entries number new }) ≡ core_of s
  entries-kept =
      ap (λ (lists : List (List Entry)). record (core_of s) { entries = lists })
      (map-kept (λ (announced : Vec Entry). announced.items) s.entries.items number old new at same)

  pub IsCore-entries : IsCore s → IsCore (record s { entries = with_item s.entries number new })
  IsCore-entries core = record {
    tenants = core.tenants;
    few = core.few;
    lists = length-set s.entries.items number new ∙ core.lists;
    reserved = core.reserved;
    each = core.each;
    reached = subst IsReachedCore (sym entries-kept) core.reached;
  }

-- a worker that shows what it showed
module _ (s : Inside) (number : ℕ) (old new : Worker) (at : slice_get s.workers.items number ≡ Some old)
    (shows : shown_worker s.decided.items new ≡ shown_worker s.decided.items old) (replays : replay_of new ≡ replay_of old) where
  pub worker-kept : core_of (record s { workers = with_item s.workers number new }) ≡ core_of s
  worker-kept =
      ap₂ (λ (workers : List WorkerState) (kept : List ReplayState).
      record (core_of s) { shown = record { decided = s.decided.items; workers = workers }; replays = kept })
      (map-kept (shown_worker s.decided.items) s.workers.items number old new at shows) (map-kept replay_of s.workers.items number old new at replays)

  pub IsCore-worker : IsCore s → (InOrder s s.decided.items old → InOrder s s.decided.items new) →
      IsCore (record s { workers = with_item s.workers number new })
  IsCore-worker core order = record {
    tenants = core.tenants;
    few = omega (arith, core.few, length-set s.workers.items number new);
    lists = core.lists ∙ sym (length-set s.workers.items number new);
    reserved = core.reserved;
    each = of_as_many s.places s.decided.items s.workers.items number new
        (EachIs-set (InOrder s s.decided.items) s.workers.items number new core.each (order (core.each number old at)));
    reached = subst IsReachedCore (sym worker-kept) core.reached;
  }
