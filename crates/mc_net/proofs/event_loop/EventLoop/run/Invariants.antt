-- The worker has worked.
use Rattle.mc_connections.specs.Working.{Works, standing}
use Rattle.mc_net.proofs.event_loop.EventLoop.run.Given as goal

abbrev pub invariant-loop : goal.invariant-loop
invariant-loop g l = Works l.fn.until_done (standing l.fn.worker l.fn.self.ready.connections) (standing l.worker l.self.ready.connections)
