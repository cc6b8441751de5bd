-- The client works on the same log.
use Rattle.std.specs.Prelude.{◌≡◌}
use Rattle.uc_worker_tests.proofs.asking.ask_all.Given as goal

abbrev pub invariant-loop-number : goal.invariant-loop-number
invariant-loop-number g l = l.client.log ≡ l.initial.client.log
