-- All are what they were, and those before this one have met it.
use Rattle.std.proofs.Common.{◌≡◌, ◌<◌, ℕ, get_or}
use Rattle.std.specs.List.{AllZip}
use Rattle.uc_worker.specs.declared.worker.Worker.{Worker}
use Rattle.uc_worker.specs.TurningOver.{IsAsBefore}
use Rattle.uc_worker.specs.Worker.{history_of}
use Rattle.uc_worker.proofs.turning_over.meet_all.Given as goal

abbrev pub invariant-loop-number : goal.invariant-loop-number
invariant-loop-number l = record {
  worker : IsAsBefore l.fn.worker l.worker;
  others : AllZip IsAsBefore l.fn.others l.others;
  same : (k : ℕ) (d : Worker) → k < l.number → history_of (get_or l.fn.others k d) ≡ history_of l.fn.worker;
}
