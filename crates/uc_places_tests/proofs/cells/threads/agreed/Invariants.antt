use Rattle.std.proofs.Common.{All}
use Rattle.uc_places_tests.specs.Places.{IsSeenIn}
use Rattle.uc_places_tests.proofs.cells.threads.agreed.Given as goal

abbrev pub invariant-loop-one : goal.invariant-loop-one
invariant-loop-one g l =
    All (IsSeenIn l.cells) l.all.items × All (IsSeenIn l.cells) l.one-iterator.a.rest.items × All (IsSeenIn l.cells) l.one-iterator.b.rest.items
