-- None of the places looked at so far has a ticket of the worker's own.
use Rattle.std.proofs.Common.{◌≡◌, take}
use Rattle.mc_model.specs.Legal.{count}
use Rattle.uc_worker.specs.Worker.{seat_of}
use Rattle.uc_worker.proofs.Unsettled.{replayed}
use Rattle.uc_worker.proofs.worker.Worker.unsettled.Given as goal

abbrev pub invariant-loop-place : goal.invariant-loop-place
invariant-loop-place l = count (seat_of l.self).worker (take l.place (seat_of l.self).state.learned) ≡ replayed l.self
