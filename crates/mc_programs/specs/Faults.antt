-- What a program prints on standard error about the fault that ended it; this project's profile.
use Rattle.std.specs.Prelude.{List, ℕ, ◌++◌, codes}
use Rattle.mc_model.specs.declared.fault.Fault.{Fault}
use Rattle.mc_write.specs.Faults.{fault_text}

-- a program's line with this text
abbrev pub program_line : List ℕ → List ℕ → List ℕ
program_line program text = program ++ (codes ": " ++ (text ++ codes "\n"))

-- the line that names the program and the fault
abbrev pub fault_line : List ℕ → Fault → List ℕ
fault_line program fault = program_line program (fault_text fault)
