use Rattle.std.specs.Cmp.Lexicographic.{bytes_decides, pointwise_decides}
use Rattle.mc_laws.proofs.values.key_lists_are_equal_by_their_keys.Goals as goal

pub returns : goal.returns
returns c = rw c.eq.ensures (pointwise_decides bytes_decides c.args.keys.now c.args.others.now)
