-- None has taken a step, and those before this one were so at some moment of the run.
use Rattle.std.proofs.Common.{◌<◌, ℕ, get_or}
use Rattle.std.specs.List.{AllZip}
use Rattle.lists.specs.Lists.{BeginsWith}
use Rattle.uc_worker.specs.declared.worker.Worker.{Worker}
use Rattle.uc_worker.specs.AllWorkers.{TakesNoStep, WasSo, own_part}
use Rattle.uc_worker.proofs.AllWorkers.{kept_by}
use Rattle.uc_worker.proofs.all_workers.witness_each.Given as goal

abbrev pub invariant-loop-number : goal.invariant-loop-number
invariant-loop-number l = record {
  worker : TakesNoStep l.fn.worker l.worker;
  others : AllZip TakesNoStep l.fn.others l.others;
  goes_on : BeginsWith (kept_by l.worker) (kept_by l.fn.worker);
  each : (k : ℕ) (d : Worker) → k < l.number → WasSo (own_part l.fn.worker).size (kept_by l.fn.worker) (kept_by l.worker) (own_part (get_or l.fn.others k d));
}
