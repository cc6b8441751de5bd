-- Both seats are of this opening.
use Rattle.uc_places_tests.specs.Held.{IsHeldAt}
use Rattle.uc_places_tests.proofs.places.rows.run.Given as goal

abbrev pub invariant-loop-worker : goal.invariant-loop-worker
invariant-loop-worker l = IsHeldAt l.places l.seats.0 × IsHeldAt l.places l.seats.1
