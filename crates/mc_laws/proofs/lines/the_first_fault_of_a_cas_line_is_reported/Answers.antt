use Rattle.mc_laws.proofs.Faults.{cas_expiry_told, cas_format_told, cas_last_told, cas_size_told}
use Rattle.mc_laws.proofs.lines.the_first_fault_of_a_cas_line_is_reported.Goals as goal

pub returns-clause-last : goal.returns-clause-last
returns-clause-last c = cas_last_told

pub returns-clause-format : goal.returns-clause-format
returns-clause-format c = cas_format_told

pub returns-clause-expiry : goal.returns-clause-expiry
returns-clause-expiry c = cas_expiry_told

pub returns-clause-size : goal.returns-clause-size
returns-clause-size c = cas_size_told
