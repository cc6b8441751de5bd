-- Once they have met, they find the run that has all that they have done (`AllWorkers`).
use Rattle.uc_worker.proofs.AllWorkers.{all_through, as_before, logs_stay_before}
use Rattle.uc_worker.proofs.TurningOver.{still_on}
use Rattle.uc_worker.proofs.turning_over.WorkerMeets.meet_others.Goals as goal

pub find_one_run-requires : goal.find_one_run-requires
find_one_run-requires c = logs_stay_before c.args.self.now c.meet_all.new.worker c.args.others.now c.meet_all.new.others c.meet_all.ensures.before.0.log
    c.meet_all.ensures.before.1 c.requires.log

pub returns-clause-before : goal.returns-clause-before
returns-clause-before c = (
  still_on c.args.self.now c.meet_all.new.worker c.find_one_run.new.worker c.meet_all.ensures.before.0
      (as_before c.meet_all.new.worker c.find_one_run.new.worker c.find_one_run.ensures.worker),
  all_through c.args.others.now c.meet_all.new.others c.find_one_run.new.others c.meet_all.ensures.before.1 c.find_one_run.ensures.others,
)
