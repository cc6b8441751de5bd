-- What is known where an event meets no fault.
use Rattle.std.proofs.Common.{◌≡◌, ◌≢◌, ◌⊎◌, inl, inr, ℕ, ◌<◌, List, length, map, take, Option, Some, None, Bool, true, false, ◌||◌, not, ltb, is_some, refl, sym, ap, ap₂, ◌∙◌, arith, slice_get}
use Rattle.std.specs.Option.{option_map}
use Rattle.std.proofs.lemmas.Bool.{false≢true}
use Rattle.std.proofs.lemmas.Bool.Decides.{nat_tests}
use Rattle.std.proofs.lemmas.List.{length-take}
use Rattle.std.proofs.lemmas.Option.{none-some, slice_get-map, slice_get_within}
use Rattle.mc_model.specs.declared.command.Command.{Command}
use Rattle.mc_model.specs.declared.fault.Fault.{Fault}
use Rattle.mc_model.specs.declared.fault.Fault.TheVariants.{BadEvent}
use Rattle.mc_model.specs.declared.id.Ticket.{Ticket}
use Rattle.mc_model.specs.declared.shown.Phase.{Phase}
use Rattle.mc_model.specs.declared.shown.Phase.TheVariants.{Idle, Pending, Looked, Stopped}
use Rattle.uc_core.specs.Core.{CoreState}
use Rattle.uc_core.specs.Fields.{core_of}
use Rattle.uc_core.specs.Kept.{replay_of, shown_worker}
use Rattle.uc_core.specs.Step.{actor, is_idle, is_looked, is_pending, is_stopped, needs, refusal, refusal_by, refusal_of}
use Rattle.uc_core.specs.declared.event.Event.{Event}
use Rattle.uc_core.specs.declared.event.Event.TheVariants.{Announce, Look, Propose, Read, Replay, Stop}
use Rattle.uc_core.specs.declared.machine.Core.TheInside.{Inside}
use Rattle.uc_core.specs.declared.worker.Worker.{Worker}

-- an event's fault by the fields of its worker
by_found : (core : CoreState) (event : Event) (decided : List Ticket) (workers : List Worker) (found : Option Worker) →
    slice_get workers (actor event) ≡ found →
    refusal_of core event (slice_get (map (shown_worker decided) workers) (actor event)) (slice_get (map replay_of workers) (actor event))
    ≡ refusal_of core event (option_map (shown_worker decided) found) (option_map replay_of found)
by_found core event decided workers found is =
    ap₂ (refusal_of core event) (slice_get-map (shown_worker decided) workers (actor event) ∙ ap (option_map (shown_worker decided)) is)
    (slice_get-map replay_of workers (actor event) ∙ ap (option_map replay_of) is)

-- an event without a fault is of a worker that exists
pub exists : (s : Inside) (event : Event) → refusal (core_of s) event ≡ None → actor event < length s.workers.items
exists s event enabled =
    elim (slice_get s.workers.items (actor event)) as (λ found. slice_get s.workers.items (actor event) ≡ found → actor event < length s.workers.items) [
      | None ↦ λ none. absurd (none-some BadEvent (sym enabled ∙ by_found (core_of s) event s.decided.items s.workers.items None none))
      | Some worker ↦ λ at. slice_get_within s.workers.items (actor event) worker at
    ] refl

-- a condition without its fault is met, and so are those after it
pub met : (condition : Bool) (fault : Fault) (others : Option Fault) → needs condition fault others ≡ None → condition ≡ true
met true fault others is = refl
met false fault others is = absurd (none-some fault (sym is))

pub rest : (condition : Bool) (fault : Fault) (others : Option Fault) → needs condition fault others ≡ None → others ≡ None
rest true fault others is = is
rest false fault others is = absurd (none-some fault (sym is))

pub idle : (phase : Phase) → is_idle phase ≡ true → phase ≡ Idle
idle Idle is = refl
idle Pending is = absurd (false≢true is)
idle Looked is = absurd (false≢true is)
idle Stopped is = absurd (false≢true is)

pub pending : (phase : Phase) → is_pending phase ≡ true → phase ≡ Pending
pending Idle is = absurd (false≢true is)
pending Pending is = refl
pending Looked is = absurd (false≢true is)
pending Stopped is = absurd (false≢true is)

pub looked : (phase : Phase) → is_looked phase ≡ true → phase ≡ Looked
looked Idle is = absurd (false≢true is)
looked Pending is = absurd (false≢true is)
looked Looked is = refl
looked Stopped is = absurd (false≢true is)

pub goes_on : (phase : Phase) → not (is_stopped phase) ≡ true → phase ≢ Stopped
goes_on Idle is same = cc
goes_on Pending is same = cc
goes_on Looked is same = cc
goes_on Stopped is same = absurd (false≢true is)

pub idle_or_pending : (phase : Phase) → (is_idle phase || is_pending phase) ≡ true → (phase ≡ Idle) ⊎ (phase ≡ Pending)
idle_or_pending Idle is = inl refl
idle_or_pending Pending is = inr refl
idle_or_pending Looked is = absurd (false≢true is)
idle_or_pending Stopped is = absurd (false≢true is)

pub has_some : {X : Type 0} (found : Option X) → is_some found ≡ true → found ≢ None
has_some None is same = absurd (false≢true is)
has_some (Some x) is same = absurd (none-some x (sym same))

pub below : (n m : ℕ) → ltb n m ≡ true → n < m
below n m is = grind (arith, nat_tests)

-- what each event's conditions say of the fields
module _ (s : Inside) (number : ℕ) (worker : Worker) (at : slice_get s.workers.items number ≡ Some worker) where
  by_worker : (event : Event) → actor event ≡ number → refusal (core_of s) event ≡ None →
      refusal_by (core_of s) event (shown_worker s.decided.items worker) (replay_of worker) ≡ None
  by_worker event is enabled =
      sym (by_found (core_of s) event s.decided.items s.workers.items (Some worker) (ap (slice_get s.workers.items) is ∙ at)) ∙ enabled

  pub announce-enabled : (tenant : ℕ) (command : Command) → refusal (core_of s) (Announce number tenant command) ≡ None →
      (worker.phase ≡ Idle) × (tenant < length s.openings.items) × (length (take worker.learned s.decided.items) < s.places)
  announce-enabled tenant command enabled =
      let all = by_worker (Announce number tenant command) refl enabled in
      let later = rest _ _ _ all in
      (idle _ (met _ _ _ all), below _ _ (met _ _ _ later), below _ _ (met _ _ _ (rest _ _ _ later)))

  pub read-enabled : refusal (core_of s) (Read number) ≡ None →
      ((worker.phase ≡ Idle) ⊎ (worker.phase ≡ Pending)) × (length (take worker.learned s.decided.items) < s.places)
  read-enabled enabled =
      let all = by_worker (Read number) refl enabled in
      (idle_or_pending _ (met _ _ _ all), below _ _ (met _ _ _ (rest _ _ _ all)))

  pub look-enabled : refusal (core_of s) (Look number) ≡ None →
      (worker.phase ≡ Pending) × (length (take worker.learned s.decided.items) < s.places) × (worker.mark ≢ None)
  look-enabled enabled =
      let all = by_worker (Look number) refl enabled in
      let later = rest _ _ _ all in
      (pending _ (met _ _ _ all), below _ _ (met _ _ _ later), has_some _ (met _ _ _ (rest _ _ _ later)))

  pub propose-enabled : refusal (core_of s) (Propose number) ≡ None → worker.phase ≡ Looked
  propose-enabled enabled = looked _ (met _ _ _ (by_worker (Propose number) refl enabled))

  pub replay-enabled : refusal (core_of s) (Replay number) ≡ None →
      (worker.phase ≢ Stopped) × (worker.replayed < length (take worker.learned s.decided.items))
  replay-enabled enabled =
      let all = by_worker (Replay number) refl enabled in
      (goes_on _ (met _ _ _ all), below _ _ (met _ _ _ (rest _ _ _ all)))

  pub stop-enabled : refusal (core_of s) (Stop number) ≡ None → worker.phase ≢ Stopped
  stop-enabled enabled = goes_on _ (met _ _ _ (by_worker (Stop number) refl enabled))

  -- a worker that may replay has a decided place to replay
  pub replayable : refusal (core_of s) (Replay number) ≡ None → worker.replayed < length s.decided.items
  replayable enabled = omega (arith, (replay-enabled enabled).1, length-take worker.learned s.decided.items)
