-- Both clients work on the same log.
use Rattle.std.specs.Prelude.{◌≡◌}
use Rattle.uc_worker_tests.proofs.full.are_answered.Given as goal

abbrev pub invariant-loop-round : goal.invariant-loop-round
invariant-loop-round l = (l.first.log ≡ l.initial.first.log) × (l.second.log ≡ l.initial.second.log)
