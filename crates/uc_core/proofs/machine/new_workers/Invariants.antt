use Rattle.std.proofs.Common.{◌≡◌, length}
use Rattle.uc_core.specs.Kept.{AreFresh}
use Rattle.uc_core.proofs.machine.new_workers.Given as goal

abbrev pub invariant-loop : goal.invariant-loop
invariant-loop l = record { count : length l.workers.items ≡ l.counter; fresh : AreFresh l.count l.openings l.workers.items }
