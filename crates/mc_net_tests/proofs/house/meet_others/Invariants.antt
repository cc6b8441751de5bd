-- The others that are left are of the one's log.
use Rattle.std.proofs.Common.{◌≡◌, All}
use Rattle.uc_worker.specs.declared.worker.Worker.{Worker}
use Rattle.mc_net_tests.proofs.house.meet_others.Given as goal

abbrev pub invariant-loop-other : goal.invariant-loop-other
invariant-loop-other l = All (λ (worker : Worker). worker.log.now ≡ l.one.log.now) l.other-iterator.rest.items
