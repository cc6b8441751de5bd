-- Two rounds, and the run between them (`AllWorkers`).
use Rattle.uc_worker.proofs.AllWorkers.{each_through, logs_stay, none_through, one_run_of_all}
use Rattle.std.proofs.Common.{◌∙◌}
use Rattle.uc_worker.proofs.all_workers.find_one_run.Goals as goal

pub witness_each-requires-2 : goal.witness_each-requires-2
witness_each-requires-2 c = logs_stay c.args.worker.now c.witness.new.self c.args.others.now c.witness_each.new.others
    (c.witness.ensures.still.log ∙ c.witness_each.ensures.worker.log) c.witness_each.ensures.others c.requires

pub returns-clause-worker : goal.returns-clause-worker
returns-clause-worker c = none_through _ _ _ (none_through _ _ _ c.witness_each.ensures.worker c.witness.ensures.still) c.witness_each-2.ensures.worker

pub returns-clause-others : goal.returns-clause-others
returns-clause-others c = each_through _ _ _ c.witness_each.ensures.others c.witness_each-2.ensures.others

pub returns-clause-run : goal.returns-clause-run
returns-clause-run c = one_run_of_all c.a_worker_stays_between_two_moments.ensures c.args.worker.now c.witness_each.new.worker c.witness.new.self
    c.witness_each-2.new.worker c.args.others.now c.witness_each.new.others c.witness_each-2.new.others c.witness.ensures.still
    c.witness_each-2.ensures.worker c.witness_each.ensures.others c.witness_each-2.ensures.others c.witness_each.ensures.each c.witness.ensures.run
    c.witness_each-2.ensures.each
