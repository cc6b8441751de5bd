-- An event that meets no fault leads on, and an event that takes a worker to its next place learns
-- it.
use Rattle.std.proofs.Common.{◌≡◌, ℕ, zero, suc, ◌+◌, List, [], ◌∷◌, length, length-append, Option, Some, None, slice_get, slice_set, option_map, refl, sym, ap, ◌∙◌, arith}
use Rattle.std.proofs.lemmas.Option.{none-some, same_Some, slice_get_within}
use Rattle.mc_model.specs.declared.fault.Fault.TheVariants.{BadEvent, LogFull}
use Rattle.mc_model.specs.declared.id.Ticket.{Ticket}
use Rattle.mc_model.specs.declared.request.Entry.{Entry}
use Rattle.mc_model.specs.declared.shown.ShownState.{ShownState}
use Rattle.mc_model.specs.declared.shown.WorkerState.{WorkerState}
use Rattle.mc_model.specs.Lawful.{IsWorker, announced_by, decided_with, next, turn, with_worker}
use Rattle.mc_model.specs.Log.{own_command}
use Rattle.mc_model.specs.Replay.{TakeEffect, reply_from, with_command}
use Rattle.mc_model.specs.Shown.{announce, look, proposal, propose, read, stop}
use Rattle.mc_model.specs.State.{TableState}
use Rattle.uc_core.specs.Core.{CoreState, ReplayState, core_size}
use Rattle.uc_core.specs.Headline.{StepsLeadOn, StepsLearn}
use Rattle.uc_core.specs.Step.{actor, announced_entry, entry_at, refusal, refusal_by, refusal_of, with_entry}
use Rattle.uc_core.specs.declared.event.Event.{Event}
use Rattle.uc_core.specs.declared.event.Event.TheVariants.{Announce, Look, Propose, Read, Replay, Stop}
use Rattle.uc_core.proofs.Enabled.{below, goes_on, has_some, idle, idle_or_pending, looked, met, pending, rest}
use Rattle.lists.proofs.Public.{set_here}
use Rattle.uc_core.proofs.Lookups.{there}

-- there is a worker, and it has no fault
abbrev IsFree : CoreState → Event → Type 0
IsFree core event =
    (worker : WorkerState) × IsWorker core.shown (actor event) worker
    × (replay : ReplayState) × (slice_get core.replays (actor event) ≡ Some replay) × (refusal_by core event worker replay ≡ None)

is_free : (core : CoreState) (event : Event) → refusal core event ≡ None → IsFree core event
is_free core event free = by_found (slice_get core.shown.workers (actor event)) (slice_get core.replays (actor event)) refl refl free
  where
    by_found : (found : Option WorkerState) (kept : Option ReplayState) →
        slice_get core.shown.workers (actor event) ≡ found → slice_get core.replays (actor event) ≡ kept →
        refusal_of core event found kept ≡ None → IsFree core event
    by_found None kept at is none = absurd (none-some BadEvent (sym none))
    by_found (Some worker) None at is none = absurd (none-some BadEvent (sym none))
    by_found (Some worker) (Some replay) at is none = (worker, at, replay, is, none)

-- the tables that take an entry's effect, from the tenant of this number on
abbrev taken_from : Option Entry → ℕ → List TableState → List TableState
taken_from entry first [] = []
taken_from entry first (table ∷ tables) = with_command table (own_command first entry) ∷ taken_from entry (suc first) tables

is_taken : (entry : Option Entry) (first : ℕ) (tables : List TableState) (k tenant : ℕ) → first + k ≡ tenant →
    slice_get (taken_from entry first tables) k ≡ option_map (λ state. with_command state (own_command tenant entry)) (slice_get tables k)
is_taken entry first [] k tenant at = refl
is_taken entry first (table ∷ tables) zero tenant at =
    let same : first ≡ tenant = omega (arith, at) in ap (λ (n : ℕ). Some (with_command table (own_command n entry))) same
is_taken entry first (table ∷ tables) (suc k) tenant at = is_taken entry (suc first) tables k tenant (omega (arith, at))

takes_effect : (entry : Option Entry) (tables : List TableState) → TakeEffect entry tables (taken_from entry 0 tables)
takes_effect entry tables tenant = is_taken entry 0 tables tenant tenant (omega arith)

pub steps_lead_on : (core : CoreState) → StepsLeadOn core
steps_lead_on core (Announce number tenant command) free =
    let (worker, at, replay, is, none) = is_free core (Announce number tenant command) free in
    let later = rest _ BadEvent _ none in
    let shown = with_worker core.shown number (announce worker) in (
      record core { shown = shown; entries = with_entry core.entries (announced_entry core number tenant command) },
      None,
      (
        below _ _ (met _ BadEvent _ later),
        (worker, at, idle worker.phase (met _ BadEvent _ none), below _ _ (met _ LogFull _ (rest _ BadEvent _ later)), refl),
        refl,
        refl,
      ),
    )
steps_lead_on core (Read number) free =
    let (worker, at, replay, is, none) = is_free core (Read number) free in (
      record core { shown = with_worker core.shown number (read number (next core.shown worker) worker) },
      None,
      (
        (worker, at, idle_or_pending worker.phase (met _ BadEvent _ none), below _ _ (met _ BadEvent _ (rest _ BadEvent _ none)), refl),
        refl,
        refl,
      ),
    )
steps_lead_on core (Look number) free =
    let (worker, at, replay, is, none) = is_free core (Look number) free in
    let later = rest _ BadEvent _ none in
    let whose = turn (core_size core) worker in (
      record core { shown = with_worker core.shown number (look whose (announced_by core.shown whose) worker) },
      None,
      (
        (
          worker,
          at,
          pending worker.phase (met _ BadEvent _ none),
          below _ _ (met _ LogFull _ later),
          has_some worker.mark (met _ BadEvent _ (rest _ LogFull _ later)),
          refl,
        ),
        refl,
        refl,
      ),
    )
steps_lead_on core (Propose number) free =
    let (worker, at, replay, is, none) = is_free core (Propose number) free in
    let shown : ShownState = record {
      decided = decided_with (proposal number worker) core.shown.decided (next core.shown worker);
      workers = slice_set core.shown.workers number (propose number (next core.shown worker) worker);
    } in
    (record core { shown = shown }, None, ((worker, at, looked worker.phase (met _ BadEvent _ none), refl), refl, refl))
steps_lead_on core (Replay number) free =
    let (worker, at, replay, is, none) = is_free core (Replay number) free in
    let entry = entry_at core replay.replayed in
    let tables = taken_from entry 0 replay.tables in (
      record core { replays = slice_set core.replays number (record { replayed = replay.replayed + 1; tables = tables }) },
      reply_from number replay.tables entry,
      (
        worker,
        at,
        goes_on worker.phase (met _ BadEvent _ none),
        replay,
        is,
        below _ _ (met _ BadEvent _ (rest _ BadEvent _ none)),
        tables,
        takes_effect entry replay.tables,
        refl,
        refl,
      ),
    )
steps_lead_on core (Stop number) free =
    let (worker, at, replay, is, none) = is_free core (Stop number) free in (
      record core { shown = with_worker core.shown number (stop worker) },
      None,
      ((worker, at, goes_on worker.phase (met _ BadEvent _ none), refl), refl, refl),
    )

-- what stands at the next place is learned
reads_one : (number : ℕ) (worker : WorkerState) (found : Option Ticket) (ticket : Ticket) → found ≡ Some ticket →
    length (read number found worker).learned ≡ length worker.learned + 1
reads_one number worker found ticket is =
    ap (λ (it : Option Ticket). length (read number it worker).learned) is ∙ length-append worker.learned (ticket ∷ [])

-- a worker that is set is there
is_set : (workers : List WorkerState) (number : ℕ) (was is : WorkerState) → slice_get workers number ≡ Some was →
    slice_get (slice_set workers number is) number ≡ Some is
is_set workers number was is at = set_here workers number is (slice_get_within workers number was at)

pub steps_learn : (core : CoreState) → StepsLearn core
steps_learn core = record {
  reads = λ number many new reply step has inside.
      let was = step.0.0 in
      let same : length was.learned ≡ many = ap (λ (it : WorkerState). length it.learned) (same_Some was has.0 (sym step.0.1 ∙ has.1)) ∙ has.2 in
      let found = there core.shown.decided (length was.learned) (omega (arith, same, inside)) in (
        read number (next core.shown was) was,
        ap (λ (it : ShownState). slice_get it.workers number) step.0.4 ∙ is_set core.shown.workers number was _ step.0.1,
        reads_one number was (next core.shown was) found.0 found.1 ∙ ap (λ (n : ℕ). n + 1) same,
      );
  proposes = λ number many new reply step has.
      let was = step.0.0 in
      let same : length was.learned ≡ many = ap (λ (it : WorkerState). length it.learned) (same_Some was has.0 (sym step.0.1 ∙ has.1)) ∙ has.2 in (
        propose number (next core.shown was) was,
        ap (λ (it : ShownState). slice_get it.workers number) step.0.3 ∙ is_set core.shown.workers number was _ step.0.1,
        length-append was.learned _ ∙ ap (λ (n : ℕ). n + 1) same,
      );
}
