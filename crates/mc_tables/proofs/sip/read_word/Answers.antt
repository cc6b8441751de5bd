use Rattle.std.proofs.Common.{refl}
use Rattle.core.specs.Hash.DefaultHasher.{read_word}
use Rattle.mc_tables.proofs.sip.read_word.Goals as goal

pub returns : goal.returns
unfolding read_word
returns c = refl
