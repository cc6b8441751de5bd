use Rattle.std.proofs.Common.{◌∙◌}
use Rattle.mc_model.proofs.Places.{eight_spell}
use Rattle.mc_model.proofs.compare.read_eight.Goals as goal

pub returns : goal.returns
returns c = c.from_be_bytes.ensures ∙ eight_spell c.args.bytes.now c.args.at c.requires
