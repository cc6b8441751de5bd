-- The command is still pending, and each event has taught a place.
use Rattle.uc_log.specs.Passes.{desk}
use Rattle.uc_worker.specs.Counting.{TakesFew}
use Rattle.uc_worker.proofs.Steps.{IsWaiting}
use Rattle.uc_worker.proofs.deciding.read_on.Given as goal

abbrev pub invariant-loop-place : goal.invariant-loop-place
invariant-loop-place g l = record {
  waiting : IsWaiting l.log l.fn.pass l.pass l._place l._place-end;
  takes : TakesFew 0 (desk l.fn.pass) (desk l.pass);
}
