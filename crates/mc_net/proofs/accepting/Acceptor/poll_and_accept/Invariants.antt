-- The listeners stay.
use Rattle.std.proofs.Common.{◌≡◌}
use Rattle.mc_net.proofs.accepting.Acceptor.poll_and_accept.Given as goal

abbrev pub invariant-loop-turn : goal.invariant-loop-turn
invariant-loop-turn g l = l.self.listeners ≡ l.fn.self.listeners
