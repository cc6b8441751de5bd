use Rattle.std.proofs.Common.{rules}
use Rattle.std.specs.Hash.DefaultHasher.{write_word}
use Rattle.mc_tables.proofs.sip.SipHasher.compress.Goals as goal

pub returns : goal.returns
unfolding write_word
returns c = search rules
