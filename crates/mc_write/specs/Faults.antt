-- The names of faults, by which programs report them; this project's profile.
use Rattle.std.specs.Prelude.{List, ℕ, codes}
use Rattle.mc_model.specs.declared.fault.Fault.{Fault}
use Rattle.mc_model.specs.declared.fault.Fault.TheVariants.{Memory, LogFull, Taken, Input, Output, BadEvent, BadSettings}

-- the name of a fault
abbrev pub fault_text : Fault → List ℕ
fault_text Memory = codes "out of memory"
fault_text LogFull = codes "log full"
fault_text Taken = codes "cell taken"
fault_text Input = codes "input failed"
fault_text Output = codes "output failed"
fault_text BadEvent = codes "event not enabled"
fault_text BadSettings = codes "bad settings"
