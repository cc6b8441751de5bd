-- Which stream goes where; this project's profile.
use Rattle.std.specs.Prelude.{◌≡◌, ℕ, ◌+◌, ◌%◌, ◌^◌, List, Some, slice_get, length}
use Rattle.mc_net.specs.declared.handing.Accepted.{Accepted}
use Rattle.mc_net.specs.declared.handing.Accepted.TheVariants.{One, None as NoneWaits, Failed}
use Rattle.mc_connections.specs.declared.arrival.Arrival.{Arrival}
use Rattle.mc_net.specs.declared.listener.RoleListener.{RoleListener}

-- the number of the place that receives the next stream after `done` streams, round-robin
abbrev pub turn_of : ℕ → ℕ → ℕ
turn_of done places = done % places

-- the arrival is a stream that the listener accepted, of the listener's role
pub record IsArrivalOf {L S : Type 0} (accepted_by : L → S → Type 0) (listener : RoleListener L)
    (arrival : Arrival S) : Type 0 where
  pub role : arrival.role ≡ listener.role
  pub accepted : accepted_by listener.socket arrival.stream

-- the place that is next after `done` streams has received the arrival
pub record IsHanded {P S : Type 0} (received : P → Arrival S → Type 0) (places : List P) (done : ℕ)
    (arrival : Arrival S) : Type 0 where
  pub place : P
  pub turn : slice_get places (turn_of done (length places)) ≡ Some place
  pub has : received place arrival

-- a stream that the listener accepted was handed, as one of the listener's role, to the place
-- that is next
pub record IsPassed {L P S : Type 0} (accepted_by : L → S → Type 0)
    (received : P → Arrival S → Type 0) (listener : RoleListener L) (places : List P)
    (done : ℕ) : Type 0 where
  pub arrival : Arrival S
  pub of : IsArrivalOf accepted_by listener arrival
  pub handed : IsHanded received places done arrival

-- how many streams were handed over after an attempt to accept one: one more if one was accepted,
-- as a number of 64 bits
abbrev pub count_after : Accepted → ℕ → ℕ
count_after One done = (done + 1) % 2 ^ 64
count_after NoneWaits done = done
count_after Failed done = done
