use Rattle.std.proofs.Common.{◌≡◌, ◌≤◌, ◌++◌, take, vec_capacity}
use Rattle.std.specs.Prelude.{flat_map}
use Rattle.mc_write.specs.Text.{value_text}
use Rattle.mc_write.proofs.append_values.Given as goal

abbrev pub invariant-loop-value : goal.invariant-loop-value
invariant-loop-value l = record {
  text : l.out.items ≡ l.initial.out.items ++ flat_map value_text (take l.value-index l.values);
  capacity : vec_capacity l.initial.out ≤ vec_capacity l.out;
}
