use Rattle.std.proofs.Common.{length, refl, arith}
use Rattle.mc_read.proofs.Sending.{large_refused, long_line_refused, unreadable_refused}
use Rattle.mc_read.proofs.laws.too_long_is_refused.Goals as goal

pub returns-clause-line : goal.returns-clause-line
returns-clause-line c = long_line_refused

pub returns-clause-data : goal.returns-clause-data
returns-clause-data c = λ verb key flags block quiet lawful small large readable.
    large_refused verb key flags (length block) quiet lawful small (omega (arith, readable)) block refl large readable

pub returns-clause-length : goal.returns-clause-length
returns-clause-length c = λ verb key flags size quiet lawful small large spelled. unreadable_refused verb key flags size quiet lawful small spelled large
