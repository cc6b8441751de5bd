use Rattle.mc_laws.proofs.Ends.{ends_exactly}
use Rattle.mc_laws.proofs.lines.quit_and_a_long_line_end_a_stream.Goals as goal

pub returns : goal.returns
returns c = ends_exactly
