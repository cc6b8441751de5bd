-- The worker has worked, and the round goes on.
use Rattle.mio.specs.Events.{items}
use Rattle.mc_connections.specs.Round.{queued_at}
use Rattle.mc_connections.specs.Working.{Works, standing}
use Rattle.mc_connections.proofs.Rounds.{GoesOn}
use Rattle.mc_connections.proofs.ready_queue.ReadyQueue.serve_round.Given as goal

abbrev pub invariant-loop : goal.invariant-loop
invariant-loop g l = record {
  works : Works l.fn.until_done (standing l.fn.worker l.fn.self.connections) (standing l.worker l.self.connections);
  round : GoesOn l.fn.until_done (items l.fn.events) (queued_at l.fn.worker l.fn.self) l.counter (queued_at l.worker l.self);
}
