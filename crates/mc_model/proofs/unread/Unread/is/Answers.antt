use Rattle.mc_model.proofs.Pieces.{single_tells}
use Rattle.mc_model.proofs.unread.Unread.is.Goals as goal

pub returns : goal.returns
returns c = single_tells _ _ _ _ c.requires c.reads.ensures.read c.reads.ensures.others
