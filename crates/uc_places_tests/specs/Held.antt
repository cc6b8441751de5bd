-- Seats in any phase.
use Rattle.uc_places.specs.declared.desk.Desk.{Desk}
use Rattle.uc_places.specs.declared.desk.Places.{Places}
use Rattle.uc_places.specs.Calls.{IsSeatOf}
use Rattle.uc_places_tests.specs.declared.places.moves.Held.{Held}
use Rattle.uc_places_tests.specs.declared.places.moves.Held.TheVariants as held

-- the desk of a seat in any phase
abbrev pub held_desk : Held → Desk
held_desk (held.Idle idle) = idle.desk
held_desk (held.Pending pending) = pending.desk
held_desk (held.Looked looked) = looked.desk

-- the seat was opened together with the words
abbrev pub IsHeldAt : Places → Held → Type 0
IsHeldAt places seat = IsSeatOf places (held_desk seat)
