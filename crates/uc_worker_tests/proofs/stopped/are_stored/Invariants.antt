-- The client works on the same log.
use Rattle.std.specs.Prelude.{◌≡◌}
use Rattle.uc_worker_tests.proofs.stopped.are_stored.Given as goal

abbrev pub invariant-loop : goal.invariant-loop
invariant-loop l = l.client.log ≡ l.initial.client.log
