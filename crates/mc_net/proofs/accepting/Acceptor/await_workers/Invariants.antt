-- The listeners stay, and so does whether they are registered.
use Rattle.std.proofs.Common.{◌≡◌}
use Rattle.mc_net.proofs.accepting.Acceptor.await_workers.Given as goal

abbrev pub invariant-loop : goal.invariant-loop
invariant-loop g l = (l.self.listeners ≡ l.fn.self.listeners) × (l.self.is_registered ≡ l.fn.self.is_registered)
