use Rattle.std.proofs.Common.{◌≡◌, ◌++◌, take}
use Rattle.std.specs.Prelude.{flat_map}
use Rattle.mc_write.specs.Text.{value_text}
use Rattle.mc_conn.proofs.queue.Queue.append_values.Given as goal

abbrev pub invariant-loop-value : goal.invariant-loop-value
invariant-loop-value l = l.self ≡ l.fn.self ++ flat_map value_text (take l.value-index l.values)
