use Rattle.mc_connections.specs.Working.{standing}
use Rattle.mc_net.proofs.event_loop.EventLoop.admit.Goals as goal

pub returns-in-Admitted-clause-works : goal.returns-in-Admitted-clause-works
returns-in-Admitted-clause-works g c = λ until worker. c.work_adds_up.ensures.admits until (standing worker _) worker _ _ _ c.admit.result (c.work_adds_up.ensures.none until _) c.admit.ensures

pub returns-in-Admitted-clause-came : goal.returns-in-Admitted-clause-came
returns-in-Admitted-clause-came g c = (c.admit.result, c.admit.ensures)
