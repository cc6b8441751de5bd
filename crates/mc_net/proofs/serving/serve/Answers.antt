use Rattle.std.proofs.Common.{◌∙◌, List, ap, map, subst, sym}
use Rattle.std.specs.List.{AllZip}
use Rattle.mc_net.specs.Returning.{HasServed, returned_worker}
use Rattle.mc_net.specs.declared.worker_thread.Returned.{Returned}
use Rattle.mc_net.proofs.Runnings.{all_have_answered, all_have_been_asked, all_of, all_onward, returned_are, served_anew}
use Rattle.uc_worker.specs.AllWorkers.{AreOnOneRun}
use Rattle.mc_net.proofs.serving.serve.Goals as goal

pub returns-clause-served : goal.returns-clause-served
returns-clause-served g c =
    subst (λ (back : List Returned). AllZip HasServed c.args.workers.items back) (sym c.in_ok-into_returned.ensures)
    (served_anew c.work_adds_up.ensures.goes_on _ _ _ _ _ _ c.in_ok-workers.ensures.served c.in_ok-front.ensures.new)

pub returns-clause-back : goal.returns-clause-back
returns-clause-back g c = all_onward _ _ (returns-clause-served g c)

pub returns-clause-answered : goal.returns-clause-answered
returns-clause-answered g c = all_have_answered c.commands_answer_who_asked.ensures _ _ (returns-clause-served g c)

pub returns-clause-asked : goal.returns-clause-asked
returns-clause-asked g c = all_have_been_asked c.commands_are_asked_for_over_logs.ensures _ _ (returns-clause-served g c)

pub returns-clause-logs : goal.returns-clause-logs
returns-clause-logs g c = all_of _ _ _ (returns-clause-back g c) c.requires.logs

pub returns-clause-run : goal.returns-clause-run
returns-clause-run g c =
    subst AreOnOneRun (sym (ap (map returned_worker) c.in_ok-into_returned.ensures ∙ returned_are _ _ _ _ _ _ c.in_ok-workers.ensures.served)) c.in_ok-workers.ensures.run
