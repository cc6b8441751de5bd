use Rattle.std.proofs.Common.{◌≡◌, ◌≤◌, ◌-◌, length, take, drop}
use Rattle.mc_stream.specs.Event.{waits}
use Rattle.mc_stream.specs.Pushing.{IsUnfailed, Pushes}
use Rattle.mc_conn.proofs.sending.push_queue.Given as goal

-- the bytes sent so far are a front of those that were queued, and the others are queued still
abbrev pub invariant-loop-sent : goal.invariant-loop-sent
invariant-loop-sent g l = record {
  within : l.sent ≤ length l.fn.queue;
  left : l.queue ≡ drop l.sent l.fn.queue;
  pushed : Pushes (g.O.Output.tells l.fn.output) (g.O.Output.tells l.output) (take l.sent l.fn.queue);
  unfailed : IsUnfailed (g.O.Output.tells l.fn.output) (g.O.Output.tells l.output);
  waits : waits (g.O.Output.tells l.output).events ≡ waits (g.O.Output.tells l.fn.output).events;
}

abbrev pub decreases-loop-sent : goal.decreases-loop-sent
decreases-loop-sent g l = length l.fn.queue - l.sent
