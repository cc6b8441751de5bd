-- What the words are when they are closed: the log that a run led to. Herlihy's universal
-- construction (Wait-Free Synchronization, TOPLAS 1991) has one log without an end; that a log
-- is closed is this project's profile.
use Rattle.std.specs.Prelude.{◌≡◌, ℕ, List, [], map, slice_get, Option, Some, None}
use Rattle.atomic_table.specs.declared.shared.Seat.{Seat as TableSeat}
use Rattle.mc_model.specs.declared.id.Ticket.{Ticket}
use Rattle.mc_model.specs.declared.shown.LogSize.{LogSize}
use Rattle.mc_model.specs.declared.shown.ShownState.{ShownState}
use Rattle.mc_model.specs.Lawful.{IsReached, IsWorker}
use Rattle.uc_places.specs.declared.desk.Places.{Places}
use Rattle.uc_places.specs.declared.seats.Seat.{Seat}
use Rattle.uc_places.specs.declared.view.Kind.TheVariants.{Seated}
use Rattle.uc_places.specs.declared.view.Part.{Part}
use Rattle.uc_places.specs.declared.view.View.{View}
use Rattle.uc_places.specs.Calls.{IsSeatOf, known}
use Rattle.uc_places.specs.Rule.{OthersLead}
use Rattle.uc_places.specs.Run.{AreOneRun, all_parts, part_of}
use Rattle.uc_places.specs.Seats.{desk_of}

-- the seat shows its worker as it is in this state, and only other workers have taken events since
-- the seat's last event
abbrev pub IsPartOf : LogSize → ShownState → View → Type 0
IsPartOf size log view =
    IsWorker log view.worker view.state × OthersLead size view.worker view.last log

abbrev pub IsShownBy : LogSize → ShownState → Option Seat → Type 0
IsShownBy size log None = Unit {0}
IsShownBy size log (Some seat) = IsPartOf size log (known (desk_of seat))

-- the tickets are the log of a reachable state, which the seat, if there is one, shows
abbrev pub IsEnd : LogSize → List Ticket → Option Seat → Type 0
IsEnd size tickets seat =
    (log : ShownState) × IsReached size log × (tickets ≡ log.decided) × IsShownBy size log seat

-- all these seats were opened together with the words
abbrev pub AreSeatsOf : Places → List Seat → Type 0
AreSeatsOf places seats =
    (number : ℕ) (seat : Seat) → slice_get seats number ≡ Some seat → IsSeatOf places (desk_of seat)

-- what each of the seats knows of its worker
abbrev pub parts_of : List Seat → List Part
parts_of seats = map (λ (seat : Seat). part_of (known (desk_of seat))) seats

-- the seat of one worker or several, at these words
abbrev pub IsHostOf : Places → TableSeat Unit View → Type 0
IsHostOf places seat =
    (seat.table_id ≡ places.table.shared.table_id) × (seat.me.0.kind ≡ Seated)

-- the workers whose seat it is, if there is one
abbrev pub parts_in : Option (TableSeat Unit View) → List Part
parts_in None = []
parts_in (Some seat) = all_parts seat.me.0

-- the tickets are the log that one run leads to, which has all calls of these seats and no other
-- events of their workers
abbrev pub IsEndOfAll : LogSize → List Ticket → List Seat → Type 0
IsEndOfAll size tickets seats =
    (log : ShownState) × (tickets ≡ log.decided) × AreOneRun size (parts_of seats) log
