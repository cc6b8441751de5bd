-- The client works on the same log.
use Rattle.std.specs.Prelude.{◌≡◌}
use Rattle.uc_worker_tests.proofs.parts.catches_up.Given as goal

abbrev pub invariant-loop-most : goal.invariant-loop-most
invariant-loop-most l = l.client.log ≡ l.initial.client.log
