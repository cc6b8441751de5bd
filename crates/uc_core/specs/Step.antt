-- One event of the core: when it is enabled, which fault it meets if it isn't, and what it makes.
-- The conditions of an event are checked in their order; faults are this project's profile.
use Rattle.std.specs.Prelude.{◌≡◌, ◌≢◌, ℕ, ◌+◌, ◌<◌, ◌||◌, Bool, true, false, not, List, [], ◌∷◌, ◌++◌, length, ltb, is_some, Option, Some, None, slice_get, slice_set}
use Rattle.std.specs.Option.{option_and_then, option_map_or}
use Rattle.mc_model.specs.declared.command.Command.{Command}
use Rattle.mc_model.specs.declared.fault.Fault.{Fault}
use Rattle.mc_model.specs.declared.fault.Fault.TheVariants.{BadEvent, LogFull}
use Rattle.mc_model.specs.declared.reply.Reply.{Reply}
use Rattle.mc_model.specs.declared.request.Entry.{Entry}
use Rattle.mc_model.specs.declared.shown.Phase.{Phase}
use Rattle.mc_model.specs.declared.shown.Phase.TheVariants.{Idle, Pending, Looked, Stopped}
use Rattle.mc_model.specs.declared.shown.WorkerState.{WorkerState}
use Rattle.mc_model.specs.Lawful.{IsWorker, Step, announced_by, announces, looks, proposes, reads, stops}
use Rattle.mc_model.specs.Legal.{ticket_of}
use Rattle.mc_model.specs.Replay.{TakeEffect, reply_from}
use Rattle.mc_model.specs.State.{TableState}
use Rattle.uc_core.specs.Core.{CoreState, ReplayState, entry_under, core_size}
use Rattle.uc_core.specs.declared.event.Event.{Event}
use Rattle.uc_core.specs.declared.event.Event.TheVariants.{Announce, Look, Propose, Read, Replay, Stop}

-- the worker that takes the event
abbrev pub actor : Event → ℕ
actor (Announce worker tenant command) = worker
actor (Read worker) = worker
actor (Look worker) = worker
actor (Propose worker) = worker
actor (Replay worker) = worker
actor (Stop worker) = worker

abbrev pub is_idle : Phase → Bool
is_idle Idle = true
is_idle Pending = false
is_idle Looked = false
is_idle Stopped = false

abbrev pub is_pending : Phase → Bool
is_pending Idle = false
is_pending Pending = true
is_pending Looked = false
is_pending Stopped = false

abbrev pub is_looked : Phase → Bool
is_looked Idle = false
is_looked Pending = false
is_looked Looked = true
is_looked Stopped = false

abbrev pub is_stopped : Phase → Bool
is_stopped Idle = false
is_stopped Pending = false
is_stopped Looked = false
is_stopped Stopped = true

-- a condition with the fault if it fails, and the conditions after it
abbrev pub needs : Bool → Fault → Option Fault → Option Fault
needs true fault others = others
needs false fault others = Some fault

abbrev pub has_room : CoreState → WorkerState → Bool
has_room core worker = ltb (length worker.learned) core.places

-- the fault of an event's first condition that fails, if its worker exists
abbrev pub refusal_by : CoreState → Event → WorkerState → ReplayState → Option Fault
refusal_by core (Announce number tenant command) worker replay =
    needs (is_idle worker.phase) BadEvent
    (needs (ltb tenant (length core.openings)) BadEvent (needs (has_room core worker) LogFull None))
refusal_by core (Read number) worker replay =
    needs (is_idle worker.phase || is_pending worker.phase) BadEvent
    (needs (has_room core worker) BadEvent None)
refusal_by core (Look number) worker replay =
    needs (is_pending worker.phase) BadEvent
    (needs (has_room core worker) LogFull (needs (is_some worker.mark) BadEvent None))
refusal_by core (Propose number) worker replay = needs (is_looked worker.phase) BadEvent None
refusal_by core (Replay number) worker replay =
    needs (not (is_stopped worker.phase)) BadEvent
    (needs (ltb replay.replayed (length worker.learned)) BadEvent None)
refusal_by core (Stop number) worker replay = needs (not (is_stopped worker.phase)) BadEvent None

abbrev pub refusal_of : CoreState → Event → Option WorkerState → Option ReplayState → Option Fault
refusal_of core event (Some worker) (Some replay) = refusal_by core event worker replay
refusal_of core event worker replay = Some BadEvent

-- the fault that an event meets, if any; a worker that doesn't exist can't do anything
abbrev pub refusal : CoreState → Event → Option Fault
refusal core event =
    refusal_of core event (slice_get core.shown.workers (actor event))
    (slice_get core.replays (actor event))

-- a worker's list with one more entry at the end
abbrev pub with_entry : List (List Entry) → Entry → List (List Entry)
with_entry entries entry =
    slice_set entries entry.ticket.worker
    (option_map_or (λ (announced : List Entry). announced ++ entry ∷ [])
    (slice_get entries entry.ticket.worker) (entry ∷ []))

-- what the log keeps of an announcement: the command, its tenant, and the worker's next ticket
abbrev pub announced_entry : CoreState → ℕ → ℕ → Command → Entry
announced_entry core number tenant command = record {
  ticket = ticket_of number (announced_by core.shown number);
  tenant = tenant;
  command = command;
}

-- the entry at a place of the log
abbrev pub entry_at : CoreState → ℕ → Option Entry
entry_at core place = option_and_then (entry_under core) (slice_get core.shown.decided place)

-- An event leads from one state to the next, with a reply or none. Every event but the replay is
-- the shown log's event of the same name; an announcement also keeps its entry; a replay does to
-- the worker's tables what the next place's entry says, and answers the worker's own.
abbrev pub CoreStep : CoreState → Event → CoreState → Option Reply → Type 0
CoreStep old (Announce number tenant command) new reply =
    (tenant < length old.openings)
    × Step (core_size old) old.shown (announces number) new.shown
    × (new ≡ record old {
      shown = new.shown;
      entries = with_entry old.entries (announced_entry old number tenant command);
    })
    × (reply ≡ None)
CoreStep old (Read number) new reply =
    Step (core_size old) old.shown (reads number) new.shown
    × (new ≡ record old { shown = new.shown }) × (reply ≡ None)
CoreStep old (Look number) new reply =
    Step (core_size old) old.shown (looks number) new.shown
    × (new ≡ record old { shown = new.shown }) × (reply ≡ None)
CoreStep old (Propose number) new reply =
    Step (core_size old) old.shown (proposes number) new.shown
    × (new ≡ record old { shown = new.shown }) × (reply ≡ None)
CoreStep old (Stop number) new reply =
    Step (core_size old) old.shown (stops number) new.shown
    × (new ≡ record old { shown = new.shown }) × (reply ≡ None)
CoreStep old (Replay number) new reply =
    (worker : WorkerState) × IsWorker old.shown number worker × (worker.phase ≢ Stopped)
    × (replay : ReplayState) × (slice_get old.replays number ≡ Some replay)
    × (replay.replayed < length worker.learned)
    × (tables : List TableState) × TakeEffect (entry_at old replay.replayed) replay.tables tables
    × (new ≡ record old {
      replays = slice_set old.replays number
          (record { replayed = replay.replayed + 1; tables = tables });
    })
    × (reply ≡ reply_from number replay.tables (entry_at old replay.replayed))

-- the same for what is shown alone
abbrev pub StepShows : CoreState → Event → CoreState → Type 0
StepShows old (Announce number tenant command) new =
    Step (core_size old) old.shown (announces number) new.shown
StepShows old (Read number) new = Step (core_size old) old.shown (reads number) new.shown
StepShows old (Look number) new = Step (core_size old) old.shown (looks number) new.shown
StepShows old (Propose number) new = Step (core_size old) old.shown (proposes number) new.shown
StepShows old (Stop number) new = Step (core_size old) old.shown (stops number) new.shown
StepShows old (Replay number) new = new.shown ≡ old.shown

-- the event never needs memory
abbrev pub is_quiet : Event → Bool
is_quiet (Announce number tenant command) = false
is_quiet (Read number) = true
is_quiet (Look number) = true
is_quiet (Propose number) = true
is_quiet (Replay number) = false
is_quiet (Stop number) = true
