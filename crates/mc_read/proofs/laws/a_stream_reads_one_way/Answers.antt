use Rattle.mc_read.specs.Administering.{lines_spoken}
use Rattle.mc_read.proofs.Readings.{one_reading}
use Rattle.mc_read.proofs.laws.a_stream_reads_one_way.Goals as goal

pub returns : goal.returns
returns c speaker = one_reading (lines_spoken speaker)
