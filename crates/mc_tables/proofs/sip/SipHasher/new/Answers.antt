use Rattle.std.proofs.Common.{refl}
use Rattle.std.specs.Hash.DefaultHasher.{with_keys}
use Rattle.mc_tables.proofs.sip.SipHasher.new.Goals as goal

pub returns : goal.returns
unfolding with_keys
returns c = refl
