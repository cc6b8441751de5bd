-- Both workers are of the log.
use Rattle.std.proofs.Common.{All, subst, sym, ◌≡◌, ◌∙◌}
use Rattle.uc_worker.specs.declared.worker.Worker.{Worker}
use Rattle.uc_worker_tests.proofs.BothWorkers.{both_of}
use Rattle.uc_worker_tests.proofs.generations.turned_over.Goals as goal

pub next_log-requires : goal.next_log-requires
next_log-requires c =
    subst (All (λ (worker : Worker). worker.log.now ≡ c.args.log.now)) (sym (c.deref_mut.ensures.value ∙ c.in_ok-workers.ensures))
    (both_of c.args.log.now c.args.first.worker c.args.second.worker (c.args.first.same ∙ c.requires.one) (c.args.second.same ∙ c.requires.two))
