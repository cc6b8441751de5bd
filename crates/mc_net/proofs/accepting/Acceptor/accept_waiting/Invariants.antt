-- The listeners stay.
use Rattle.std.proofs.Common.{◌≡◌}
use Rattle.mc_net.proofs.accepting.Acceptor.accept_waiting.Given as goal

abbrev pub invariant-loop : goal.invariant-loop
invariant-loop g l = l.self.listeners ≡ l.fn.self.listeners
