-- The workers so far are of the log, and the passes that are left are unused.
use Rattle.std.proofs.Common.{◌≡◌, All}
use Rattle.uc_log.specs.Passes.{IsUnusedPass}
use Rattle.uc_worker.specs.declared.worker.Worker.{Worker}
use Rattle.mc_net_tests.proofs.logs.open_workers_over.Given as goal

abbrev pub invariant-loop-pass : goal.invariant-loop-pass
invariant-loop-pass l = All (λ (worker : Worker). worker.log.now ≡ l.log) l.workers.items × All (IsUnusedPass l.log) l.pass-iterator.rest.items
