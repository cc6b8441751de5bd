use Rattle.std.proofs.Common.{rules}
use Rattle.std.specs.Hash.DefaultHasher.{finish}
use Rattle.mc_tables.proofs.sip.SipHasherHasher.finish.Goals as goal

pub returns : goal.returns
unfolding finish
returns c = search rules
