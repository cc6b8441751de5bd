-- How the early end of a loop is reported; this project's profile.
use Rattle.std.specs.Prelude.{◌≡◌, ◌⊎◌}
use Rattle.mc_model.specs.declared.fault.Fault.{Fault}
use Rattle.mc_model.specs.declared.fault.Fault.TheVariants.{Memory, Input}
use Rattle.mc_net.specs.declared.halt.Halt.{Halt}
use Rattle.mc_net.specs.declared.halt.Halt.TheVariants.{Memory as GrowthRefused, Poll, Elsewhere}

-- the fault as which a loop's early end is reported
abbrev pub fault_of_halt : Halt → Fault
fault_of_halt GrowthRefused = Memory
fault_of_halt Poll = Input
fault_of_halt Elsewhere = Input

-- the faults of the network
abbrev pub IsNetworkFault : Fault → Type 0
IsNetworkFault fault = (fault ≡ Memory) ⊎ (fault ≡ Input)
