-- What wfmc answers if it is asked only to check its words; this project's profile.
use Rattle.std.specs.Prelude.{◌≡◌, ◌⊎◌, ℕ, codes}
use Rattle.mc_model.specs.declared.fault.Fault.{Fault}
use Rattle.mc_model.specs.declared.fault.Fault.TheVariants.{Memory}
use Rattle.mc_programs.specs.Faults.{fault_line}
use Rattle.mc_programs.specs.Waiting.{FailsToPush, PushesAll}
use Rattle.mc_server.specs.Complaints.{CanBeServed, IsWrong, complaint_line, passed_line}
use Rattle.mc_server.specs.NetworkWords.{AsksInVain, NetworkGiven}
use Rattle.mc_server.specs.declared.complaint.Complaint.{Complaint}
use Rattle.mc_stream.specs.Pushing.{PushesOrFails}
use Rattle.mc_stream.specs.Stream.{Outflow}

-- A fault kept the check from being answered, and was reported: memory ran out, and nothing was
-- printed, or the output failed.
pub record FailsToCheck (given : NetworkGiven)
    (before after errors_before errors : Outflow) : Type 0 where
  pub fault : Fault
  pub stops : (fault ≡ Memory) × (after ≡ before)
      ⊎ CanBeServed given × FailsToPush passed_line before after fault
  pub told : PushesOrFails (fault_line (codes "wfmc") fault) errors_before errors

-- What is given can't be served, for which there is a right complaint, and that was reported.
pub record Complains (given : NetworkGiven) (errors_before errors : Outflow) : Type 0 where
  pub vain : AsksInVain given
  pub complaint : Complaint
  pub is_wrong : IsWrong given complaint
  pub told : PushesOrFails (complaint_line complaint) errors_before errors

-- how a check ends, by its status
abbrev pub ChecksWords : NetworkGiven → ℕ → Outflow → Outflow → Outflow → Outflow → Type 0
ChecksWords given status before after errors_before errors =
    (status ≡ 0) × CanBeServed given × PushesAll passed_line before after × (errors ≡ errors_before)
    ⊎ (status ≡ 1) × FailsToCheck given before after errors_before errors
    ⊎ (status ≡ 2) × Complains given errors_before errors × (after ≡ before)
