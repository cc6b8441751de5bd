-- What each operation on a word shows to the seat that does it. Announcing, reading, looking and
-- proposing are those of Herlihy's universal construction (Wait-Free Synchronization, TOPLAS 1991);
-- seats, and the lists and runs that they keep, are this project's own.
use Rattle.std.specs.Prelude.{◌≡◌, ◌≢◌, ℕ, ◌+◌, ◌<◌, ◌≤◌, List, [], ◌∷◌, ◌++◌, drop, length, slice_get, Some}
use Rattle.std.specs.Option.{option_map_or, unwrap_or}
use Rattle.atomic_table.specs.Table.{Me}
use Rattle.atomic_table.specs.Table as table
use Rattle.mc_model.specs.declared.id.TheConstants.{WORKERS}
use Rattle.mc_model.specs.declared.id.Ticket.{Ticket}
use Rattle.mc_model.specs.declared.shown.LogSize.{LogSize}
use Rattle.mc_model.specs.declared.shown.ShownState.{ShownState}
use Rattle.mc_model.specs.declared.shown.WorkerState.{WorkerState}
use Rattle.mc_model.specs.Lawful.{IsReached, IsWorker, ShownEvent, Step, announced_by, announces, looks, proposes, reads, turn}
use Rattle.mc_model.specs.Shown.{announce, look, new_log, new_worker, proposal, propose, read}
use Rattle.uc_places.specs.declared.view.Call.{Call}
use Rattle.uc_places.specs.declared.view.Call.TheVariants.{Announce, Look, Propose, Read}
use Rattle.uc_places.specs.declared.view.Kind.{Kind}
use Rattle.uc_places.specs.declared.view.Kind.TheVariants.{Spare, Seated, Spent}
use Rattle.uc_places.specs.declared.view.Part.{Part}
use Rattle.uc_places.specs.declared.view.View.{View}
use Rattle.uc_places.specs.declared.view.Witnessed.{Witnessed}
use Rattle.uc_places.specs.Rule.{OthersLead}
use Rattle.lists.specs.Lists.{BeginsWith}
use Rattle.uc_places.specs.Run.{AreOneRun, all_parts, part_of, witnessed_by}
use Rattle.uc_places.specs.Words.{found_in, said_ticket, said_word}

-- a view without any event; those of a log's seats at its opening: of the spare seat that
-- has the workers from this one on, and of a worker's seat
abbrev pub blank_view : LogSize → Kind → ℕ → View
blank_view size kind worker = record {
  size = size;
  kind = kind;
  worker = worker;
  state = new_worker;
  told = [];
  last = new_log size;
  calls = [];
  joined = [];
  witnessed = [];
}

abbrev pub spare_from : LogSize → ℕ → View
spare_from size worker = blank_view size Spare worker

abbrev pub new_seat : LogSize → ℕ → View
new_seat size worker = blank_view size Seated worker

-- the view after a call, which is an event of its worker
abbrev pub moved_on : View → Call → WorkerState → ShownState → View
moved_on view call state last =
    record view { state = state; last = last; calls = view.calls ++ call ∷ [] }

-- the event leads from a reachable state, in which the seat's worker is as the seat shows it, to a
-- reachable state, in which it has the given state; only events of other workers lie between the
-- seat's last event and this one
abbrev pub Happens : LogSize → ShownEvent → View → WorkerState → ShownState → Type 0
Happens size event view state new =
    (old : ShownState) × OthersLead size view.worker view.last old
    × IsReached size old × Step size old event new
    × IsReached size new × IsWorker old view.worker view.state × IsWorker new view.worker state

-- a step of the table, and the state of a seat: its view, with no slots
abbrev pub TableStep : Type 0
TableStep = table.Step Unit

abbrev pub SeatState : Type 0
SeatState = Me Unit View

-- a place's word, unless it is 0, encodes a ticket of this log
abbrev pub IsTicketOf : LogSize → ℕ → Type 0
IsTicketOf size word = word ≢ 0 →
    ((said_ticket word).worker < size.workers) × ((said_ticket word).number < size.places)
    × (word ≡ said_word (said_ticket word)) × (size.workers ≤ WORKERS)

-- an announcement finds how many commands its worker had announced
abbrev pub AnnounceTells : TableStep → SeatState → ℕ → SeatState → Type 0
AnnounceTells at old found new = let view = old.0 in let state = announce view.state in
    (new ≡ (moved_on view Announce state new.0.last, old.1)) × (found ≡ view.state.announced)
    × (found < view.size.places) × Happens view.size (announces view.worker) view state new.0.last

-- a read finds what stands at the next place, which is the ticket that the list shared with the
-- seat has there, if the list is long enough
abbrev pub ReadTells : TableStep → SeatState → ℕ → SeatState → Type 0
ReadTells at old found new =
    let view = old.0 in let state = read view.worker (found_in found) view.state in
    (new ≡ (moved_on view Read state new.0.last, old.1)) × IsTicketOf view.size found
    × ((ticket : Ticket) → slice_get view.told (length view.state.learned) ≡ Some ticket →
    found_in found ≡ Some ticket)
    × (slice_get new.0.last.decided (length view.state.learned) ≡ found_in found)
    × Happens view.size (reads view.worker) view state new.0.last

-- looking finds how many commands were announced by the worker whose turn it is
abbrev pub LookTells : TableStep → SeatState → ℕ → SeatState → Type 0
LookTells at old found new =
    let view = old.0 in let state = look (turn view.size view.state) found view.state in
    (new ≡ (moved_on view Look state new.0.last, old.1))
    × (found ≡ announced_by new.0.last (turn view.size view.state))
    × Happens view.size (looks view.worker) view state new.0.last

-- a proposal finds what stood at the next place; the proposal stands there now if that was nothing
abbrev pub ProposeTells : TableStep → SeatState → ℕ → SeatState → Type 0
ProposeTells at old found new =
    let view = old.0 in let state = propose view.worker (found_in found) view.state in
    (new ≡ (moved_on view Propose state new.0.last, old.1)) × IsTicketOf view.size found
    × (slice_get new.0.last.decided (length view.state.learned)
    ≡ Some (unwrap_or (found_in found) (proposal view.worker view.state)))
    × (state.proposals ≤ view.size.workers + 1)
    × Happens view.size (proposes view.worker) view state new.0.last

-- a load of word 0 changes nothing and shows that the calls of all workers whose seat it is are one
-- run
abbrev pub MeetTells : TableStep → SeatState → ℕ → SeatState → Type 0
MeetTells at old found new = (new ≡ old)
    × ((log : ShownState) × AreOneRun old.0.size (all_parts old.0) log)

-- a seat that keeps these events
abbrev pub keeping : View → List Witnessed → View
keeping view events = record view { witnessed = events }

-- A load of word 0 by which a seat witnesses the run of the log: it keeps all its events so far,
-- and nothing else of it changes. That run goes on from the one that the seat kept before, and has
-- all calls of the workers whose seat it is.
abbrev pub WitnessTells : TableStep → SeatState → ℕ → SeatState → Type 0
WitnessTells at old found new = (new ≡ (keeping old.0 new.0.witnessed, old.1))
    × BeginsWith (witnessed_by new.0) (witnessed_by old.0)
    × ((log : ShownState) × (one : AreOneRun old.0.size (all_parts old.0) log)
    × (one.run ≡ witnessed_by new.0))

-- a seat with which a list is shared, which keeps no run any more; and a seat that knows nothing
-- any more
abbrev pub told_list : View → List Ticket → View
told_list view list = record view { told = list; witnessed = [] }

abbrev pub spent : View
spent = blank_view (record { workers = 0; places = 0 }) Spent 0

-- a seat with another joined into it
abbrev pub joined_with : View → View → View
joined_with view other = record view { joined = part_of other ∷ view.joined }

-- the seat of a part, with which a list is shared
abbrev pub seat_again : List Ticket → Part → View
seat_again list part = record {
  size = part.size;
  kind = Seated;
  worker = part.worker;
  state = part.state;
  told = list;
  last = part.last;
  calls = part.calls;
  joined = [];
  witnessed = [];
}

-- what is left of a seat once the one joined into it last is split off, and that one, which
-- then knows what the seat's worker has learned
abbrev pub parted : View → View
parted view = record view { joined = drop 1 view.joined }

abbrev pub last_joined : View → View
last_joined view =
    option_map_or (seat_again view.state.learned) (slice_get view.joined 0) spent

-- what is left of the spare seat once it has given out its first worker's seat, and that seat
abbrev pub fewer : View → View
fewer view = spare_from view.size (view.worker + 1)

abbrev pub first_of : View → View
first_of view = new_seat view.size view.worker
