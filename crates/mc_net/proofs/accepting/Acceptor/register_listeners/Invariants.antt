-- The listeners stay.
use Rattle.std.proofs.Common.{◌≡◌}
use Rattle.mc_net.proofs.accepting.Acceptor.register_listeners.Given as goal

abbrev pub invariant-loop-number : goal.invariant-loop-number
invariant-loop-number l = l.self.listeners ≡ l.fn.self.listeners
