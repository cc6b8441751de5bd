-- The connections stay.
use Rattle.std.proofs.Common.{◌≡◌}
use Rattle.mc_net.proofs.event_loop.EventLoop.linger.Given as goal

abbrev pub invariant-loop : goal.invariant-loop
invariant-loop l = l.self.ready.connections ≡ l.fn.self.ready.connections
