-- Each event that a worker needs decreases how many it can need.
use Rattle.std.proofs.Common.{◌≡◌, ◌≢◌, ℕ, ◌+◌, ◌-◌, ◌*◌, ◌<◌, ◌≤◌, Bool, true, false, not, ◌&&◌, [], ◌∷◌, length, length-append, ltb, Option, Some, None, is_some, if◌then◌else◌, slice_get, unwrap_or, refl, sym, ap, ap₂, subst, ◌∙◌, arith}
use Rattle.std.proofs.lemmas.Bool.{false≢true}
use Rattle.std.proofs.lemmas.Bool.Decides.{nat_tests}
use Rattle.std.proofs.lemmas.Option.{none-some, same_Some, slice_get_within}
use Rattle.std.specs.Option.{option_and_then, option_map, option_map_or}
use Rattle.mc_model.specs.declared.id.Ticket.{Ticket}
use Rattle.mc_model.specs.declared.reply.Reply.{Reply}
use Rattle.mc_model.specs.declared.shown.Phase.{Phase}
use Rattle.mc_model.specs.declared.shown.Phase.TheVariants.{Idle, Pending, Looked, Stopped}
use Rattle.mc_model.specs.declared.shown.WorkerState.{WorkerState}
use Rattle.mc_model.specs.Helping.{LogLaw}
use Rattle.mc_model.specs.Lawful.{IsReached, IsWorker, announced_by, next, turn}
use Rattle.mc_model.specs.Shown.{is_latest, learn, look, marked, proposal, propose, read}
use Rattle.uc_core.specs.Core.{CoreState, ReplayState, core_size}
use Rattle.uc_core.specs.Headline.{OfEveryRun}
use Rattle.uc_core.specs.Run.{IsReachedCore}
use Rattle.uc_core.specs.Showing.{progress_of}
use Rattle.uc_core.specs.Step.{CoreStep}
use Rattle.uc_core.specs.declared.event.Event.{Event}
use Rattle.uc_core.specs.declared.event.Event.TheVariants.{Look, Propose, Read, Replay}
use Rattle.uc_core.specs.declared.machine.Progress.{Progress}
use Rattle.lists.proofs.Public.{begins_longer, set_here}
use Rattle.model_lemmas.proofs.Waiting.{is_lawful}
use Rattle.mc_schedules.specs.Needed.{most_needed, most_needed_at, needed, needed_at, reads_on}

-- what the log shows in a core that some run has led to keeps to its law
law : OfEveryRun (λ core given. IsReached (core_size core) core.shown) → (core : CoreState) → IsReachedCore core → LogLaw (core_size core) core.shown
law shown core reached = is_lawful (core_size core) core.shown (shown reached.0 reached.1 core reached.2 reached.3)

-- what is known of a worker that needs an event
record Needing (core : CoreState) (number : ℕ) (event : Event) : Type 0 where
  worker : WorkerState
  replay : ReplayState
  shown : IsWorker core.shown number worker
  replays : slice_get core.replays number ≡ Some replay
  event_is : needed_at core.places number (progress_of worker replay) worker.phase ≡ Some event

-- an event is needed of a worker that exists
needing_by : (core : CoreState) (number : ℕ) (event : Event) (worker : Option WorkerState) (replay : Option ReplayState) →
    slice_get core.shown.workers number ≡ worker → slice_get core.replays number ≡ replay →
    option_and_then (λ (it : Progress). needed_at core.places number it it.phase)
    (option_and_then (λ (it : WorkerState). option_map (progress_of it) replay) worker) ≡ Some event → Needing core number event
needing_by core number event None replay shown replays is = absurd (none-some event is)
needing_by core number event (Some worker) None shown replays is = absurd (none-some event is)
needing_by core number event (Some worker) (Some replay) shown replays is =
    record { worker = worker; replay = replay; shown = shown; replays = replays; event_is = is }

needing : (core : CoreState) (number : ℕ) (event : Event) → needed core number ≡ Some event → Needing core number event
needing core number event is = needing_by core number event (slice_get core.shown.workers number) (slice_get core.replays number) refl refl is

-- how many it can need, by its worker and by what that has replayed
most_is : (core : CoreState) (number : ℕ) (worker : WorkerState) (replay : ReplayState) →
    IsWorker core.shown number worker → slice_get core.replays number ≡ Some replay →
    most_needed core number ≡ most_needed_at core.places (progress_of worker replay) worker.phase
most_is core number worker replay shown replays =
    ap₂ (λ (one : Option WorkerState) (other : Option ReplayState).
    option_map_or (λ (it : Progress). most_needed_at core.places it it.phase) (option_and_then (λ (it : WorkerState). option_map (progress_of it) other) one) 0)
    shown replays

-- the same by its phase
most_at : (places : ℕ) (worker : Progress) (phase : Phase) → worker.phase ≡ phase → most_needed_at places worker worker.phase ≡ most_needed_at places worker phase
most_at places worker phase is = ap (most_needed_at places worker) is

-- two for a worker without a mark, and one for a worker that has one
abbrev marks : Option ℕ → ℕ
marks mark = if is_some mark then 1 else 2

one_mark : (mark : Option ℕ) → mark ≢ None → marks mark ≡ 1
one_mark None apart = absurd (apart refl)
one_mark (Some place) apart = refl

-- what one that has learned one more place than before can need
after_learning : (places replayed learned : ℕ) (phase : Phase) (found : Bool) (worker : Progress) → phase ≡ Pending →
    worker.replayed ≡ replayed → worker.learned ≡ learned + 1 → learned < places →
    most_needed_at places worker (if found then Idle else phase) + 2 ≤ (places - replayed) + 2 * (places - learned) + marks worker.mark
after_learning places replayed learned phase true worker is same more room = omega arith
after_learning places replayed learned phase false worker is same more room =
    let pending = ap (most_needed_at places worker) is in omega arith

module _ (core new : CoreState) (number : ℕ) (worker : WorkerState) (replay : ReplayState)
    (shown : IsWorker core.shown number worker) (replays : slice_get core.replays number ≡ Some replay) where
  -- one event decreases how many it can need
  abbrev Lessens : Type 0
  Lessens = most_needed new number < most_needed core number

  -- how many it can need before the event
  before : (phase : Phase) → worker.phase ≡ phase → most_needed core number ≡ most_needed_at core.places (progress_of worker replay) phase
  before phase is = most_is core number worker replay shown replays ∙ most_at core.places (progress_of worker replay) phase is

  -- after an event that changes what is shown of the worker alone
  after : (other : WorkerState) → new ≡ record core { shown = new.shown } → slice_get new.shown.workers number ≡ Some other →
      most_needed new number ≡ most_needed_at core.places (progress_of other replay) other.phase
  after other same now =
      most_is new number other replay now (ap (λ (it : CoreState). slice_get it.replays number) same ∙ replays)
      ∙ ap (λ (it : CoreState). most_needed_at it.places (progress_of other replay) other.phase) same

  inside : number < length core.shown.workers
  inside = slice_get_within core.shown.workers number worker shown

  -- a read of a pending worker without a mark learns a place or finds the mark
  read_lessens : (reply : Option Reply) → CoreStep core (Read number) new reply → worker.phase ≡ Pending → worker.mark ≡ None →
      length worker.learned < core.places → Lessens
  read_lessens reply step pending unmarked room =
      let same = same_Some step.0.0 worker (sym step.0.1 ∙ shown) in
      let now : slice_get new.shown.workers number ≡ Some (read number (next core.shown worker) worker) =
      ap (λ it. slice_get it.workers number) step.0.4
      ∙ set_here core.shown.workers number (read number (next core.shown step.0.0) step.0.0) inside
      ∙ ap (λ it. Some (read number (next core.shown it) it)) same in
      let last = after (read number (next core.shown worker) worker) step.1 now in
      let first = before Pending pending in
      let two = ap marks unmarked in
      let less = by_found (next core.shown worker) in omega (arith, last, first, two, less)
    where
      by_found : (found : Option Ticket) →
          most_needed_at core.places (progress_of (read number found worker) replay) (read number found worker).phase
          < most_needed_at core.places (progress_of worker replay) Pending
      by_found None =
          let empty = most_at core.places (progress_of (read number None worker) replay) Pending pending in
          let one = ap₂ (λ phase mark. marks (marked phase mark (length worker.learned))) pending unmarked in
          let two = ap marks unmarked in omega (arith, empty, one, two)
      by_found (Some ticket) =
          let two = ap marks unmarked in
          let less = after_learning core.places replay.replayed (length worker.learned) worker.phase (is_latest number worker ticket)
          (progress_of (learn number worker.phase ticket worker) replay) pending refl (length-append worker.learned (ticket ∷ [])) room in
          omega (arith, two, less)

  -- a look is the last event before a proposal, and learns nothing
  look_lessens : (reply : Option Reply) → CoreStep core (Look number) new reply → worker.phase ≡ Pending → Lessens
  look_lessens reply step pending =
      let same = same_Some step.0.0 worker (sym step.0.1 ∙ shown) in
      let looked : WorkerState → WorkerState = λ it. look (turn (core_size core) it) (announced_by core.shown (turn (core_size core) it)) it in
      let now : slice_get new.shown.workers number ≡ Some (looked worker) =
      ap (λ it. slice_get it.workers number) step.0.5
      ∙ set_here core.shown.workers number (looked step.0.0) inside ∙ ap (λ it. Some (looked it)) same in
      let last = after (looked worker) step.1 now in
      let first = before Pending pending in
      let one = one_mark worker.mark (λ none. step.0.4 (ap (λ (it : WorkerState). it.mark) same ∙ none)) in omega (arith, last, first, one)

  -- a proposal learns a place
  propose_lessens : (reply : Option Reply) → CoreStep core (Propose number) new reply → worker.phase ≡ Looked → worker.mark ≢ None →
      length worker.learned < core.places → Lessens
  propose_lessens reply step looked has_mark room =
      let same = same_Some step.0.0 worker (sym step.0.1 ∙ shown) in
      let now : slice_get new.shown.workers number ≡ Some (propose number (next core.shown worker) worker) =
      ap (λ it. slice_get it.workers number) step.0.3
      ∙ set_here core.shown.workers number (propose number (next core.shown step.0.0) step.0.0) inside
      ∙ ap (λ it. Some (propose number (next core.shown it) it)) same in
      let last = after (propose number (next core.shown worker) worker) step.1 now in
      let first = before Looked looked in
      let ticket = unwrap_or (next core.shown worker) (proposal number worker) in
      let one = one_mark worker.mark has_mark in
      let less = after_learning core.places replay.replayed (length worker.learned) Pending (is_latest number worker ticket)
      (progress_of (propose number (next core.shown worker) worker) replay) refl refl (length-append worker.learned (ticket ∷ [])) room in
      omega (arith, last, first, one, less)

  -- a replay replays a place
  replay_lessens : (reply : Option Reply) → CoreStep core (Replay number) new reply → worker.phase ≡ Idle → replay.replayed < core.places → Lessens
  replay_lessens reply step idle room =
      let same = same_Some step.3 replay (sym step.4 ∙ replays) in
      let more : ReplayState = record { replayed = step.3.replayed + 1; tables = step.6 } in
      let there : slice_get new.replays number ≡ Some more =
      ap (λ (it : CoreState). slice_get it.replays number) step.8
      ∙ set_here core.replays number more (slice_get_within core.replays number replay replays) in
      let now = ap (λ (it : CoreState). slice_get it.shown.workers number) step.8 ∙ shown in
      let last = most_is new number worker more now there ∙ most_at new.places (progress_of worker more) Idle idle in
      let places = ap (λ (it : CoreState). it.places) step.8 in
      let first = before Idle idle in
      let count = ap (λ (it : ReplayState). it.replayed) same in omega (arith, last, places, first, count)

-- a worker that reads on has no mark
is_read : (mark : Option ℕ) (room : Bool) → (not (is_some mark) && room) ≡ true → (mark ≡ None) × (room ≡ true)
is_read None room is = (refl, is)
is_read (Some place) room is = absurd (false≢true is)

-- Each event that a worker needs, taken from a core that some run has led to, decreases how many
-- events it can need.
pub nearer : OfEveryRun (λ core given. IsReached (core_size core) core.shown) →
    (core new : CoreState) (number : ℕ) (event : Event) (reply : Option Reply) →
    IsReachedCore core → needed core number ≡ Some event → CoreStep core event new reply → most_needed new number < most_needed core number
nearer shown core new number event reply reached needs step = by_phase its.worker.phase refl its.event_is
  where
    its : Needing core number event
    its = needing core number event needs

    -- the law of what is shown
    kept : LogLaw (core_size core) core.shown
    kept = law shown core reached

    -- it has learned no more than all places
    few : length its.worker.learned ≤ core.places
    few = let begins = begins_longer core.shown.decided its.worker.learned (kept.each number its.worker its.shown).begins in omega (arith, begins, kept.few)

    -- the step is of the event that the definition names
    taken : (other : Event) → Some other ≡ Some event → CoreStep core other new reply
    taken other same = subst (λ it. CoreStep core it new reply) (sym (same_Some other event same)) step

    by_reads : (reads : Bool) → reads_on core.places (progress_of its.worker its.replay) ≡ reads → its.worker.phase ≡ Pending →
        Some (if reads then Read number else Look number) ≡ Some event → most_needed new number < most_needed core number
    by_reads true is pending same =
        let room = is_read its.worker.mark (ltb (length its.worker.learned) core.places) is in
        read_lessens core new number its.worker its.replay its.shown its.replays reply (taken (Read number) same) pending room.0
        (grind (arith, nat_tests, room.1))
    by_reads false is pending same =
        look_lessens core new number its.worker its.replay its.shown its.replays reply (taken (Look number) same) pending

    by_replays : (replays : Bool) → ltb its.replay.replayed (length its.worker.learned) ≡ replays → its.worker.phase ≡ Idle →
        (if replays then Some (Replay number) else None) ≡ Some event → most_needed new number < most_needed core number
    by_replays true is idle same =
        let behind : its.replay.replayed < length its.worker.learned = grind (arith, nat_tests) in
        replay_lessens core new number its.worker its.replay its.shown its.replays reply (taken (Replay number) same) idle (omega (arith, behind, few))
    by_replays false is idle same = absurd (none-some event same)

    by_phase : (phase : Phase) → its.worker.phase ≡ phase → needed_at core.places number (progress_of its.worker its.replay) phase ≡ Some event →
        most_needed new number < most_needed core number
    by_phase Idle is same = by_replays (ltb its.replay.replayed (length its.worker.learned)) refl is same
    by_phase Pending is same = by_reads (reads_on core.places (progress_of its.worker its.replay)) refl is same
    by_phase Looked is same =
        let looked = (kept.each number its.worker its.shown).looked is in
        propose_lessens core new number its.worker its.replay its.shown its.replays reply (taken (Propose number) same) is looked.2 looked.1
    by_phase Stopped is same = absurd (none-some event same)
