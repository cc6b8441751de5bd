use Rattle.mc_read.proofs.ExptimeNumbers.{exptime_is_spelled, zero_behind_minus, zero_without_minus}
use Rattle.mc_read.proofs.laws.exptimes_are_numbers_of_any_length.Goals as goal

pub returns-clause-spelled : goal.returns-clause-spelled
returns-clause-spelled c = exptime_is_spelled

pub returns-clause-zero : goal.returns-clause-zero
returns-clause-zero c = zero_without_minus

pub returns-clause-minus : goal.returns-clause-minus
returns-clause-minus c = zero_behind_minus
