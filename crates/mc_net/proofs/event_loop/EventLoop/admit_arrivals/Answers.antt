use Rattle.mc_net.proofs.event_loop.EventLoop.admit_arrivals.Goals as goal

pub loop-init : goal.loop-init
loop-init g c = λ until worker. c.work_adds_up.ensures.none until _

pub returns-in_err-admit : goal.returns-in_err-admit
returns-in_err-admit g c = λ until worker. c.work_adds_up.ensures.through until _ _ _ (c.loop.invariant until worker) (c.admit.ensures.works until worker)

pub loop-preserved : goal.loop-preserved
loop-preserved g c = λ until worker. c.work_adds_up.ensures.through until _ _ _ (c.loop.invariant until worker) (c.admit.ensures.works until worker)
