-- Both clients work on the same log.
use Rattle.std.specs.Prelude.{◌≡◌}
use Rattle.uc_worker_tests.proofs.generations.ask_rows.Given as goal

abbrev pub invariant-loop-row : goal.invariant-loop-row
invariant-loop-row l = (l.first.log ≡ l.initial.first.log) × (l.second.log ≡ l.initial.second.log)
