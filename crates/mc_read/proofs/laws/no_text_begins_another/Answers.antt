use Rattle.mc_read.specs.Administering.{lines_spoken}
use Rattle.mc_read.proofs.Readings.{text_is_whole}
use Rattle.mc_read.proofs.laws.no_text_begins_another.Goals as goal

pub returns : goal.returns
returns c speaker = text_is_whole (lines_spoken speaker)
