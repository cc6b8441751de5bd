-- The workers so far were opened first, in order, and each of the others was opened or lacked memory.
use Rattle.std.proofs.Common.{◌≡◌, ◌++◌, All, IsOkUnless, Ok, map}
use Rattle.mc_model.specs.declared.fault.Fault.TheVariants as faults
use Rattle.uc_worker.specs.declared.worker.Worker.{Worker}
use Rattle.mc_server.proofs.crew.all_opened.Given as goal

abbrev pub invariant-loop-one : goal.invariant-loop-one
invariant-loop-one l = record {
  faults : All (λ one. IsOkUnless one faults.Memory) l.one-iterator.rest.items;
  opened : l.fn.opened.items ≡ map (λ (worker : Worker). Ok worker) l.workers.items ++ l.one-iterator.rest.items;
}
