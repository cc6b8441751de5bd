-- An input and an output over memory as contracts see them, and what their steps do; this project's
-- profile.
use Rattle.std.specs.Prelude.{ℕ, zero, suc, min, max, Some, List, [], ◌∷◌}
use Rattle.mc_stream.specs.Event.{Event}
use Rattle.mc_stream.specs.declared.memory.InputStep.{InputStep}
use Rattle.mc_stream.specs.declared.memory.InputStep.TheVariants.{Give, Empty as GiveNothing, Fail as FailToGive}
use Rattle.mc_stream.specs.declared.memory.OutputStep.{OutputStep}
use Rattle.mc_stream.specs.declared.memory.OutputStep.TheVariants.{Take, Full as TakeNothing, Fail as FailToTake}
use Rattle.mc_stream.specs.declared.stream.Pull.{Pull}
use Rattle.mc_stream.specs.declared.stream.Pull.TheVariants.{Bytes, Empty, Ended, Failed as InputFailed}
use Rattle.mc_stream.specs.declared.stream.Push.{Push}
use Rattle.mc_stream.specs.declared.stream.Push.TheVariants.{Taken, Full, Failed as OutputFailed}
use Rattle.mc_stream.specs.Stream.{Inflow, Outflow}

-- the bytes and the steps that are left, and what each pull did
pub record Source : Type 0 where
  pub rest : List ℕ
  pub steps : List InputStep
  pub events : List Event

-- this many bytes, or the end if there are none
abbrev pub bytes_or_end : ℕ → Pull
bytes_or_end zero = Ended
bytes_or_end (suc count) = Bytes (suc count)

-- what a pull gives under the steps that are left, if there are `left` bytes and there is room for
-- `room`
abbrev pub pull_by : List InputStep → ℕ → ℕ → Pull
pull_by [] left room = bytes_or_end (min left room)
pull_by (Give most ∷ steps) left room = bytes_or_end (min (min left (max most 1)) room)
pull_by (GiveNothing ∷ steps) left room = Empty
pull_by (FailToGive ∷ steps) left room = InputFailed

-- the steps that are left, and what each push did
pub record Sink : Type 0 where
  pub steps : List OutputStep
  pub events : List Event

-- what a push of this many bytes takes under the steps that are left
abbrev pub push_by : List OutputStep → ℕ → Push
push_by [] there = Taken there
push_by (Take most ∷ steps) there = Taken (min there (max most 1))
push_by (TakeNothing ∷ steps) there = Full
push_by (FailToTake ∷ steps) there = OutputFailed

-- what an input over memory reports
abbrev pub given_of : Source → Inflow
given_of input = record { events = input.events; left = Some input.rest }

-- what an output over memory reports
abbrev pub kept_of : Sink → Outflow
kept_of output = record { events = output.events }
