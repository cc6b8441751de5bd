use Rattle.std.proofs.Common.{rules}
use Rattle.std.specs.Hash.DefaultHasher.{write}
use Rattle.mc_tables.proofs.sip.SipHasherHasher.write_u8.Goals as goal

pub returns : goal.returns
unfolding write
returns c = search rules
