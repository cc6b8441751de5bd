-- The seat is of this opening.
use Rattle.benches.proofs.places.read_idle.Given as goal
use Rattle.uc_places.specs.Calls.{IsSeatOf}

abbrev pub invariant-loop : goal.invariant-loop
invariant-loop l = IsSeatOf l.places l.idle.desk
