-- A seat that is idle or pending; this project's profile.
use Rattle.std.specs.Prelude.{Bool, true, false}
use Rattle.uc_places.specs.declared.desk.Desk.{Desk}
use Rattle.uc_places.specs.declared.seats.Seat.{Seat}
use Rattle.uc_places.specs.declared.seats.Seat.TheVariants as seat

-- the desk of a seat, whether it is idle or pending
abbrev pub desk_of : Seat → Desk
desk_of (seat.Idle idle) = idle.desk
desk_of (seat.Pending pending) = pending.desk

-- its worker has no pending command
abbrev pub is_idle_seat : Seat → Bool
is_idle_seat (seat.Idle idle) = true
is_idle_seat (seat.Pending pending) = false
