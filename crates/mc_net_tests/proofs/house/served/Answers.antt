-- The workers that come back are of the log, and are those that meet.
use Rattle.std.proofs.Common.{◌≡◌, All, sym, subst}
use Rattle.uc_worker.specs.declared.worker.Worker.{Worker}
use Rattle.mc_net_tests.proofs.house.served.Goals as goal

pub tenants_of_all-requires : goal.tenants_of_all-requires
tenants_of_all-requires g c =
    subst (All (λ (worker : Worker). worker.log.now ≡ c.in_ok-log.log)) (sym c.in_ok-into_workers.ensures) c.in_ok-back.ensures.logs
