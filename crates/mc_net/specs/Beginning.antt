-- What is left of the state with which serving begins; this project's profile.
use Rattle.std.specs.Prelude.{◌≡◌, ◌⊎◌}
use Rattle.mc_model.specs.declared.fault.Fault.{Fault}
use Rattle.mc_net.specs.Halting.{IsNetworkFault}

-- A fault ended what was to be served. The network failed, when nothing was done yet with the state
-- or when what is to be done at the beginning was done; or a fault stopped that.
abbrev pub HaltsServing : {O : Type 0} → (O → O → Type 0) → (O → O → Fault → Type 0) → O → O →
    Fault → Type 0
HaltsServing done stopped before after fault =
    IsNetworkFault fault × ((after ≡ before) ⊎ done before after) ⊎ stopped before after fault
