use Rattle.std.proofs.Common.{rules}
use Rattle.std.specs.Hash.DefaultHasher.{round}
use Rattle.mc_tables.proofs.sip.SipHasher.round.Goals as goal

pub returns : goal.returns
unfolding round
returns c = search rules
