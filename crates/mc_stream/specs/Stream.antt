-- What a pull gives and a push takes, and what an input and an output report of themselves; this
-- project's profile.
use Rattle.std.specs.Io.KnownBytes.{Consumes, IsAtEnd}
use Rattle.std.specs.Prelude.{◌≡◌, ℕ, ◌≤◌, List, [], ◌∷◌, length, take, Option}
use Rattle.mc_stream.specs.Event.{Event, Moves, Waits, Ends, Fails}
use Rattle.mc_stream.specs.declared.stream.Pull.{Pull}
use Rattle.mc_stream.specs.declared.stream.Pull.TheVariants.{Bytes, Empty, Ended, Failed as InputFailed}
use Rattle.mc_stream.specs.declared.stream.Push.{Push}
use Rattle.mc_stream.specs.declared.stream.Push.TheVariants.{Taken, Full, Failed as OutputFailed}

-- the bytes that a pull gave, at the front of the buffer
abbrev pub pulled_by : Pull → List ℕ → List ℕ
pulled_by (Bytes count) buffer = take count buffer
pulled_by Empty buffer = []
pulled_by Ended buffer = []
pulled_by InputFailed buffer = []

-- what a pull did
abbrev pub pull_event : Pull → List ℕ → Event
pull_event (Bytes count) buffer = Moves (take count buffer)
pull_event Empty buffer = Waits
pull_event Ended buffer = Ends
pull_event InputFailed buffer = Fails

-- if bytes are given, there is at least one, and no more than there is room for
abbrev pub GivesAtMost : ℕ → Pull → Type 0
GivesAtMost room (Bytes count) = (1 ≤ count) × (count ≤ room)
GivesAtMost room Empty = Unit {0}
GivesAtMost room Ended = Unit {0}
GivesAtMost room InputFailed = Unit {0}

-- what a push did with the bytes, of which it takes a prefix
abbrev pub push_event : Push → List ℕ → Event
push_event (Taken count) bytes = Moves (take count bytes)
push_event Full bytes = Waits
push_event OutputFailed bytes = Fails

-- if bytes are taken, there is at least one, and no more than there are
abbrev pub TakesAtMost : ℕ → Push → Type 0
TakesAtMost there (Taken count) = (1 ≤ count) × (count ≤ there)
TakesAtMost there Full = Unit {0}
TakesAtMost there OutputFailed = Unit {0}

-- What an input reports: what each pull did, and the bytes that are still to come, if they are
-- known.
pub record Inflow : Type 0 where
  pub events : List Event
  pub left : Option (List ℕ)

-- a pull into memory that holds these bytes afterwards: those that it gave, and any behind them
pub record IsPull (before after : Inflow) (pull : Pull) (memory : List ℕ) : Type 0 where
  pub count : GivesAtMost (length memory) pull
  pub event : after.events ≡ pull_event pull memory ∷ before.events
  pub rest : Consumes before.left after.left (pulled_by pull memory)
  pub no_more : pull ≡ Ended → IsAtEnd after.left

-- what an output reports: what each push did
pub record Outflow : Type 0 where
  pub events : List Event

-- what an input and an output report, as one record
pub record Streams : Type 0 where
  pub input : Inflow
  pub output : Outflow

abbrev pub both : Inflow → Outflow → Streams
both input output = record { input = input; output = output }
