use Rattle.std.specs.Cmp.Lexicographic.{pointwise_decides}
use Rattle.mc_laws.proofs.Equalities.{value_decides}
use Rattle.mc_laws.proofs.values.value_lists_are_equal_by_their_values.Goals as goal

pub returns : goal.returns
returns c = rw c.eq.ensures (pointwise_decides value_decides c.args.values.now c.args.others.now)
