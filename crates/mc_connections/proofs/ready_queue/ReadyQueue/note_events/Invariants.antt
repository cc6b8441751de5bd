-- The events so far were noted, with whether the worker was woken by one, and the connections and the tallies are as they were.
use Rattle.std.proofs.Common.{◌≡◌}
use Rattle.std.specs.Slice.Iter.{iter_rest}
use Rattle.mio.specs.Events.{items}
use Rattle.mc_connections.proofs.Rounds.{Notes}
use Rattle.mc_connections.proofs.ready_queue.ReadyQueue.note_events.Given as goal

abbrev pub invariant-loop-event : goal.invariant-loop-event
invariant-loop-event l = record {
  next : goal.iterator-loop-event.can_next l.event-iterator;
  finite : goal.iterator-loop-event.is_finite l.event-iterator;
  same : l.self.connections ≡ l.fn.self.connections;
  tallies : l.self.tallies ≡ l.fn.self.tallies;
  notes : Notes l.fn.self.connections (items l.fn.events) (iter_rest l.event-iterator) l.fn.self.waiting l.self.waiting l.is_woken;
}
