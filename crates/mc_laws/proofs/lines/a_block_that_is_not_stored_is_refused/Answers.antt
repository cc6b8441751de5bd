use Rattle.mc_laws.proofs.Faults.{bad_block_read, refused_block_read}
use Rattle.mc_laws.proofs.lines.a_block_that_is_not_stored_is_refused.Goals as goal

pub returns-clause-refused : goal.returns-clause-refused
returns-clause-refused c = refused_block_read

pub returns-clause-chunk : goal.returns-clause-chunk
returns-clause-chunk c = bad_block_read
