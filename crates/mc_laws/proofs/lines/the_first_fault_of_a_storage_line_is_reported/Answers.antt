use Rattle.mc_laws.proofs.Faults.{expiry_told, format_told, last_told, size_told}
use Rattle.mc_laws.proofs.lines.the_first_fault_of_a_storage_line_is_reported.Goals as goal

pub returns-clause-last : goal.returns-clause-last
returns-clause-last c line key flags exptime size last verb = last_told line key flags exptime size verb last

pub returns-clause-format : goal.returns-clause-format
returns-clause-format c = format_told

pub returns-clause-expiry : goal.returns-clause-expiry
returns-clause-expiry c = expiry_told

pub returns-clause-size : goal.returns-clause-size
returns-clause-size c = size_told
