-- They are of one log; and nobody is on a run of nothing.
use Rattle.std.proofs.Common.{◌∙◌, length, sym}
use Rattle.std.proofs.lemmas.Bool.{eqb-true}
use Rattle.uc_worker.proofs.AllWorkers.{all_as_before, all_quiet, are_of_first, nobody_on_one_run}
use Rattle.uc_worker.proofs.all_workers.find_run_of_all.Goals as goal

pub returns-then-is_empty-clause-run : goal.returns-then-is_empty-clause-run
returns-then-is_empty-clause-run c =
    nobody_on_one_run c.args.workers.now (eqb-true (length c.args.workers.now) 0 (sym c.is_empty.ensures ∙ c.if-is_empty.true))

pub find_run_of_first-requires-clause-of : goal.find_run_of_first-requires-clause-of
find_run_of_first-requires-clause-of c = are_of_first c.args.log.now c.args.workers.now c.requires

pub returns-clause-before : goal.returns-clause-before
returns-clause-before c = all_as_before _ _ c.find_run_of_first.ensures.still

pub returns-clause-later : goal.returns-clause-later
returns-clause-later c = all_quiet _ _ c.find_run_of_first.ensures.still
