-- `RunsOfTheCore`, `OneCoreRun`, `OwnReplies` and `ClosedRuns` show it.
use Rattle.std.proofs.Common.{refl}
use Rattle.uc_refinement.proofs.ClosedRuns.{closed_logs_run_the_core}
use Rattle.uc_refinement.proofs.OneCoreRun.{all_do_one_core_run}
use Rattle.uc_refinement.proofs.OwnReplies.{own_have_their_replies}
use Rattle.uc_refinement.proofs.RunsOfTheCore.{they_run_the_core}
use Rattle.uc_refinement.proofs.laws.all_workers_run_the_core.Goals as goal

pub returns-clause-given : goal.returns-clause-given
returns-clause-given c = they_run_the_core c.a_run_of_the_log_is_one_of_the_core.ensures

pub returns-clause-put : goal.returns-clause-put
returns-clause-put c = all_do_one_core_run c.a_run_of_the_log_is_one_of_the_core.ensures

pub returns-clause-opening : goal.returns-clause-opening
returns-clause-opening c = λ settings. refl

pub returns-clause-replies : goal.returns-clause-replies
returns-clause-replies c = own_have_their_replies (record {
  answered = c.laws_over_tables.ensures.answered;
  replies = c.laws_over_tables.ensures.replies;
  shown = c.laws_over_tables.ensures.shown;
  settings = c.runs_over_tables_do_what_is_asked.ensures.settings;
})

pub returns-clause-closed : goal.returns-clause-closed
returns-clause-closed c = closed_logs_run_the_core c.a_run_of_the_log_is_one_of_the_core.ensures (returns-clause-replies c)
