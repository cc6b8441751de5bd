-- What the calls of a seat do. The four events are those of Herlihy's universal construction
-- (Wait-Free Synchronization, TOPLAS 1991): a command is announced, a place of the list is read,
-- the worker to be helped is looked for, and a command is proposed.
use Rattle.std.specs.Prelude.{◌≡◌, ◌≢◌, ◌⊎◌, ℕ, ◌+◌, ◌<◌, ◌≤◌, Bool, true, false, List, [], ◌∷◌, length, Option, Some, None, slice_get}
use Rattle.mc_model.specs.declared.id.Ticket.{Ticket}
use Rattle.mc_model.specs.declared.shown.Phase.{Phase}
use Rattle.mc_model.specs.declared.shown.LogSize.{LogSize}
use Rattle.mc_model.specs.declared.shown.ShownState.{ShownState}
use Rattle.mc_model.specs.declared.shown.WorkerState.{WorkerState}
use Rattle.lists.specs.Lists.{BeginsWith}
use Rattle.mc_model.specs.Lawful.{HasRoom, announced_by, turn}
use Rattle.mc_model.specs.Shown.{announce, look, propose, read}
use Rattle.uc_places.specs.declared.desk.Desk.{Desk}
use Rattle.uc_places.specs.declared.desk.Places.{Places}
use Rattle.uc_places.specs.declared.view.Call.{Call}
use Rattle.uc_places.specs.declared.view.Call.TheVariants.{Announce, Look, Propose, Read}
use Rattle.uc_places.specs.declared.view.Part.{Part}
use Rattle.uc_places.specs.declared.view.View.{View}
use Rattle.uc_places.specs.Reached.{LastIsReached}
use Rattle.uc_places.specs.Run.{AreOneRun, event_of, part_of, witnessed_by}
use Rattle.uc_places.specs.SeatLaw.{SeatLaw}
use Rattle.uc_places.specs.Told.{Happens, keeping, moved_on, told_list}

-- what a seat knows: the size of its log, its worker's number and state, the list that was shared
-- with it, and the log's state after its last event
abbrev pub known : Desk → View
known desk = desk.seat.me.0

abbrev pub desk_size : Desk → LogSize
desk_size desk = (known desk).size

abbrev pub worker_of : Desk → ℕ
worker_of desk = (known desk).worker

abbrev pub state_of : Desk → WorkerState
state_of desk = (known desk).state

abbrev pub last_of : Desk → ShownState
last_of desk = (known desk).last

-- the seat was opened together with the words
abbrev pub IsSeatOf : Places → Desk → Type 0
IsSeatOf places desk = desk.seat.table_id ≡ places.table.shared.table_id

-- all calls of the seat since the opening, in order
abbrev pub calls_of : Desk → List Call
calls_of desk = (known desk).calls

-- The call is its worker's event of the log, and gives it this state: the event leads from a
-- reachable state, in which the worker is as the seat showed it, to the seat's new last state, in
-- which it is as the seat shows it now; only events of other workers lie between the seat's last
-- event and this one. The call is one more of the seat's, and nothing else of it changes.
abbrev pub Makes : Desk → Desk → Call → WorkerState → Type 0
Makes old new call state = (new.seat.table_id ≡ old.seat.table_id) × (new.seat.id ≡ old.seat.id)
    × (known new ≡ moved_on (known old) call state (last_of new))
    × Happens (desk_size old) (event_of (worker_of old) call) (known old) state (last_of new)

-- the worker announces its next command
abbrev pub Announces : Desk → Desk → Type 0
Announces old new = Makes old new Announce (announce (state_of old))

-- the worker reads its next place, and this is what stands there; it is the ticket that the list
-- shared with the seat has at that place, if the list is long enough
pub record ReadsPlace (old new : Desk) (found : Option Ticket) : Type 0 where
  pub made : Makes old new Read (read (worker_of old) found (state_of old))
  pub stands : slice_get (last_of new).decided (length (state_of old).learned) ≡ found
  pub told : (ticket : Ticket) →
      slice_get (known old).told (length (state_of old).learned) ≡ Some ticket → found ≡ Some ticket

-- the worker looks up how many commands were announced by the worker whose turn it is at its next
-- place
abbrev pub Looks : Desk → Desk → Type 0
Looks old new = let helped = turn (desk_size old) (state_of old) in
    Makes old new Look
    (look helped (announced_by (last_of new) helped) (state_of old))

-- the worker proposes at its next place, and this ticket stands there afterwards
pub record Proposes (old new : Desk) (ticket : Ticket) : Type 0 where
  pub made : Makes old new Propose
      (propose (worker_of old) (Some ticket) (state_of old))
  pub stands : slice_get (last_of new).decided (length (state_of old).learned) ≡ Some ticket

-- one seat shares what its worker has learned with another: the one knows what it knew, the other
-- knows what it knew and the one's list, and one of the two learned lists begins with the other
pub record Shares (one other new_one new_other : Desk) : Type 0 where
  pub first : (new_one.seat.table_id ≡ one.seat.table_id) × (known new_one ≡ known one)
  pub second : (new_other.seat.table_id ≡ other.seat.table_id)
      × (known new_other ≡ told_list (known other) (state_of one).learned)
  pub compared : BeginsWith (state_of one).learned (state_of other).learned
      ⊎ BeginsWith (state_of other).learned (state_of one).learned

-- one run has all calls of both seats, and no other events of their workers
abbrev pub ShareOneRun : Desk → Desk → Type 0
ShareOneRun one other = (log : ShownState)
    × AreOneRun (desk_size one) (part_of (known one) ∷ part_of (known other) ∷ []) log

-- The seat keeps the run of the log up to now, and nothing else of it changes. That run goes on
-- from the one that it kept before, and has all calls of these workers' seats and no other events
-- of theirs.
pub record Witnesses (old new : Desk) (parts : List Part) : Type 0 where
  pub seat : (new.seat.table_id ≡ old.seat.table_id)
      × (known new ≡ keeping (known old) (known new).witnessed)
  pub goes_on : BeginsWith (witnessed_by (known new)) (witnessed_by (known old))
  pub log : ShownState
  pub one : AreOneRun (desk_size old) parts log
  pub is : one.run ≡ witnessed_by (known new)

-- one seat keeps the run, which has the calls of both; with the other it shares what its worker has
-- learned
pub record WitnessWith (one other new_one new_other : Desk) : Type 0 where
  pub first : Witnesses one new_one (part_of (known one) ∷ part_of (known other) ∷ [])
  pub second : (new_other.seat.table_id ≡ other.seat.table_id)
      × (known new_other ≡ told_list (known other) (state_of one).learned)

-- of two seats, the one whose worker has learned more shares that with the other; if both have
-- learned as many places, the first shares
pub record Tells (one other new_one new_other : Desk) : Type 0 where
  pub fewer : length (state_of one).learned < length (state_of other).learned →
      Shares other one new_other new_one
  pub more : length (state_of other).learned ≤ length (state_of one).learned →
      Shares one other new_one new_other

-- this many places are learned, which are the first decided places of a reachable state
pub record HasLearned (view : View) (learned : ℕ) : Type 0 where
  pub value : learned ≡ length view.state.learned
  pub few : learned ≤ view.size.places
  pub law : SeatLaw view.size view.worker view.state
  pub reached : LastIsReached view

-- this many proposals were made for the command that was announced last: at most one more than
-- there are workers
pub record HasProposed (view : View) (proposals : ℕ) : Type 0 where
  pub value : proposals ≡ view.state.proposals
  pub few : proposals ≤ view.size.workers + 1

-- whether all places are learned
pub record TellsFull (view : View) (is_full : Bool) : Type 0 where
  pub full : is_full ≡ true → length view.state.learned ≡ view.size.places
  pub room : is_full ≡ false → HasRoom view.size view.state

-- whether the command that was announced last has its mark
pub record TellsMarked (view : View) (is_marked : Bool) : Type 0 where
  pub marked : is_marked ≡ true → view.state.mark ≢ None
  pub unmarked : is_marked ≡ false → view.state.mark ≡ None

-- whether the worker is in this phase
pub record TellsPhase (phase : Phase) (view : View) (is_there : Bool) : Type 0 where
  pub there : is_there ≡ true → view.state.phase ≡ phase
  pub other : is_there ≡ false → view.state.phase ≢ phase
