use Rattle.std.proofs.Common.{◌≡◌, length}
use Rattle.uc_core.specs.Kept.{AreEmpty}
use Rattle.uc_core.proofs.machine.no_entries.Given as goal

abbrev pub invariant-loop : goal.invariant-loop
invariant-loop l = record { count : length l.entries.items ≡ l.counter; none : AreEmpty l.entries.items }
