-- Those before this one have caught up.
use Rattle.std.proofs.Common.{◌<◌, ℕ, get_or}
use Rattle.std.specs.List.{AllZip}
use Rattle.uc_worker.specs.declared.worker.Worker.{Worker}
use Rattle.uc_worker.specs.Going.{CatchesUp}
use Rattle.uc_worker.specs.Steps.{HasReadOn}
use Rattle.uc_worker.specs.Worker.{IsUpToDate, seat_of}
use Rattle.uc_worker.proofs.turning_over.catch_up_all.Given as goal

abbrev pub invariant-loop-number : goal.invariant-loop-number
invariant-loop-number l = record {
  catches : AllZip CatchesUp l.fn.workers l.workers;
  read : (k : ℕ) (d : Worker) → k < l.number → HasReadOn (seat_of (get_or l.workers k d));
  all : (k : ℕ) (d : Worker) → k < l.number → IsUpToDate (get_or l.workers k d);
}
