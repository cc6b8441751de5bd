use Rattle.std.proofs.Common.{refl}
use Rattle.mc_connections.proofs.Tallied.{same_tallies}
use Rattle.mc_connections.proofs.tallies.Tallies.take_new.Goals as goal

pub returns-clause-kept : goal.returns-clause-kept
returns-clause-kept c = same_tallies c.args.self.now.all.items c.args.tenant c.in_ok-one.one.now _ c.in_ok-one.ensures.item.1 refl
