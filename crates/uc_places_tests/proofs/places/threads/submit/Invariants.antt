-- The seat is of this opening.
use Rattle.uc_places.specs.Calls.{IsSeatOf}
use Rattle.uc_places_tests.proofs.places.threads.submit.Given as goal

abbrev pub invariant-loop : goal.invariant-loop
invariant-loop l = IsSeatOf l.places l.pending.desk
