-- The faults that end a connection, and what each shows; this project's profile.
use Rattle.std.specs.Prelude.{◌≡◌, ℕ, ◌+◌, ◌≤◌, List, ◌++◌}
use Rattle.mc_model.specs.declared.fault.Fault.{Fault}
use Rattle.mc_model.specs.declared.fault.Fault.TheVariants.{Memory, Taken, Input, Output}
use Rattle.mc_model.specs.declared.reply.Reply.TheVariants.{Refused}
use Rattle.mc_model.specs.declared.reply.TheConstants.WireNo.{OUT_OF_MEMORY}
use Rattle.mc_stream.specs.Event.{failures, waits}
use Rattle.mc_stream.specs.Pushing.{FailsOnce, IsUnfailed, PushesAtOnce}
use Rattle.mc_stream.specs.Stream.{Outflow, Streams}
use Rattle.mc_write.specs.Text.{text}
use Rattle.mc_conn.specs.Turn.{NeitherFails}

-- memory ran out, a command's cell holds another value, or the input or the output failed
pub data ConnFault : Type 0 where
  OutOfMemory : ConnFault
  CellTaken : ConnFault
  InputFailed : ConnFault
  OutputFailed : ConnFault

-- the fault that a call returns for it
abbrev pub fault_of : ConnFault → Fault
fault_of OutOfMemory = Memory
fault_of CellTaken = Taken
fault_of InputFailed = Input
fault_of OutputFailed = Output

-- the input or the output fails once if that is the fault, and otherwise neither does
abbrev pub CountsFailures : ConnFault → Streams → Streams → Type 0
CountsFailures OutOfMemory before after = NeitherFails before after
CountsFailures CellTaken before after = NeitherFails before after
CountsFailures InputFailed before after =
    (failures after.input.events ≡ failures before.input.events + 1)
    × IsUnfailed before.output after.output
CountsFailures OutputFailed before after =
    (failures after.input.events ≡ failures before.input.events)
    × FailsOnce before.output after.output

-- what is queued and then the refusal are pushed, as far as the output takes them at once
abbrev pub TellsStarved : List ℕ → Outflow → Outflow → Type 0
TellsStarved queue before after =
    PushesAtOnce (queue ++ text (Refused OUT_OF_MEMORY)) before after
    × (waits before.events ≤ waits after.events)

-- what the client gets at a fault: that memory ran out is reported, and nothing at any other
abbrev pub IsTold : ConnFault → List ℕ → Outflow → Outflow → Type 0
IsTold OutOfMemory queue before after = TellsStarved queue before after
IsTold CellTaken queue before after = after ≡ before
IsTold InputFailed queue before after = after ≡ before
IsTold OutputFailed queue before after = after ≡ before
