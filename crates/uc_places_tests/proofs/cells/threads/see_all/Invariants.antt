use Rattle.std.proofs.Common.{All}
use Rattle.uc_places_tests.specs.Places.{IsSeenIn}
use Rattle.uc_places_tests.proofs.cells.threads.see_all.Given as goal

abbrev pub invariant-loop-number : goal.invariant-loop-number
invariant-loop-number l = All (IsSeenIn l.cells) l.all.items
