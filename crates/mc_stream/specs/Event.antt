-- What one pull or push did, and what a list of such events adds up to; this project's profile. The
-- latest event comes first.
use Rattle.std.specs.Prelude.{ℕ, ◌+◌, Bool, true, false, List, [], ◌∷◌, ◌++◌}

-- bytes were moved, or none could be now, or the end was found, or it failed
pub data Event : Type 0 where
  Moves : List ℕ → Event
  Waits : Event
  Ends : Event
  Fails : Event

-- all bytes that were moved, in order
abbrev pub moved : List Event → List ℕ
moved [] = []
moved (Moves bytes ∷ earlier) = moved earlier ++ bytes
moved (Waits ∷ earlier) = moved earlier
moved (Ends ∷ earlier) = moved earlier
moved (Fails ∷ earlier) = moved earlier

-- the number of failures
abbrev pub failures : List Event → ℕ
failures [] = 0
failures (Moves bytes ∷ earlier) = failures earlier
failures (Waits ∷ earlier) = failures earlier
failures (Ends ∷ earlier) = failures earlier
failures (Fails ∷ earlier) = failures earlier + 1

-- the number of times that nothing could be moved
abbrev pub waits : List Event → ℕ
waits [] = 0
waits (Moves bytes ∷ earlier) = waits earlier
waits (Waits ∷ earlier) = waits earlier + 1
waits (Ends ∷ earlier) = waits earlier
waits (Fails ∷ earlier) = waits earlier

-- the number of times that the end was found
abbrev pub ends : List Event → ℕ
ends [] = 0
ends (Moves bytes ∷ earlier) = ends earlier
ends (Waits ∷ earlier) = ends earlier
ends (Ends ∷ earlier) = ends earlier + 1
ends (Fails ∷ earlier) = ends earlier

-- the bytes of the last event, or none if it moved none
abbrev pub last_moved : List Event → List ℕ
last_moved [] = []
last_moved (Moves bytes ∷ earlier) = bytes
last_moved (Waits ∷ earlier) = []
last_moved (Ends ∷ earlier) = []
last_moved (Fails ∷ earlier) = []

-- the last event found the end
abbrev pub has_ended : List Event → Bool
has_ended [] = false
has_ended (Moves bytes ∷ earlier) = false
has_ended (Waits ∷ earlier) = false
has_ended (Ends ∷ earlier) = true
has_ended (Fails ∷ earlier) = false

-- at the last event nothing could be moved
abbrev pub had_to_wait : List Event → Bool
had_to_wait [] = false
had_to_wait (Moves bytes ∷ earlier) = false
had_to_wait (Waits ∷ earlier) = true
had_to_wait (Ends ∷ earlier) = false
had_to_wait (Fails ∷ earlier) = false
