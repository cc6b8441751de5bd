use Rattle.std.specs.List.{AllZip}
use Rattle.uc_worker.specs.Going.{Continues}
use Rattle.mc_server.proofs.LogRuns.{if_ok}
use Rattle.mc_server.proofs.NetworkRuns.{are_workers}
use Rattle.mc_server.specs.Crew.{AreWorkersOf}
use Rattle.mc_server.proofs.generations.serve_part.Goals as goal

pub returns-clause-workers : goal.returns-clause-workers
returns-clause-workers g c =
    if_ok c.serve_generation.result (λ pair. AllZip Continues c.args.workers.items pair.0.items) (λ pair. AreWorkersOf c.args.log.now.settings c.args.log.now pair.0.items)
    (λ pair on. are_workers c.args.log.now.settings c.args.log.now c.args.workers.items pair.0.items on c.requires.workers) c.serve_generation.ensures.back
