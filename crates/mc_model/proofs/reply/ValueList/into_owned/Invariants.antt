use Rattle.std.proofs.Common.{◌≡◌, ◌++◌}
use Rattle.mc_model.proofs.reply.ValueList.into_owned.Given as goal

-- the values that borrow nothing and those that are left are all values
abbrev pub invariant-loop-value : goal.invariant-loop-value
invariant-loop-value l = l.owned.items ++ l.value-iterator.rest.items ≡ l.fn.self
