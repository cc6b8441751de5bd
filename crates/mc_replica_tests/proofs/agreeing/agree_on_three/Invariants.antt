use Rattle.std.proofs.Common.{◌≡◌, length}
use Rattle.mc_replica.specs.Replica.{SameCells}
use Rattle.mc_replica_tests.proofs.agreeing.agree_on_three.Given as goal

abbrev pub invariant-loop-number : goal.invariant-loop-number
invariant-loop-number g l = (length l.one.history ≡ length l.other.history) × SameCells l.one.history l.other.history
