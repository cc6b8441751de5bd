use Rattle.mc_read.specs.Administering.{lines_spoken}
use Rattle.mc_read.proofs.Readings.{has_reading}
use Rattle.mc_read.proofs.laws.every_stream_reads.Goals as goal

pub returns : goal.returns
returns c speaker = has_reading (lines_spoken speaker)
