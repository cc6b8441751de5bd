-- Each seat so far has its pass; the others are still to come.
use Rattle.std.proofs.Common.{◌≡◌, ◌++◌, length}
use Rattle.uc_log.specs.Passes.{AreMadeOf}
use Rattle.uc_log.proofs.opening.passes_of.Given as goal

abbrev pub invariant-loop-seat : goal.invariant-loop-seat
invariant-loop-seat l = record {
  count : length l.passes.items ≡ length l.yielded;
  made : AreMadeOf l.passes.items l.yielded;
  all : l.yielded ++ l.seat-iterator.rest.items ≡ l.fn.seats.items;
}
