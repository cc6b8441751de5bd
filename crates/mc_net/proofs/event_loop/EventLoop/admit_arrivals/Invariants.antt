-- Arrivals were admitted, whoever the worker is.
use Rattle.std.proofs.Common.{Bool}
use Rattle.mc_connections.specs.Working.{Works, standing}
use Rattle.uc_worker.specs.declared.worker.Worker.{Worker}
use Rattle.mc_net.proofs.event_loop.EventLoop.admit_arrivals.Given as goal

abbrev pub invariant-loop : goal.invariant-loop
invariant-loop g l = (until : Bool) (worker : Worker) → Works until (standing worker l.fn.self.ready.connections) (standing worker l.self.ready.connections)
