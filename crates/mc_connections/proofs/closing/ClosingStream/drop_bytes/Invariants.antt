-- No more may be dropped than before.
use Rattle.std.proofs.Common.{◌≤◌}
use Rattle.mc_connections.proofs.closing.ClosingStream.drop_bytes.Given as goal

abbrev pub invariant-loop : goal.invariant-loop
invariant-loop l = l.self.left ≤ l.fn.self.left
