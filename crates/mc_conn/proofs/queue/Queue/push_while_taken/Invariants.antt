use Rattle.std.proofs.Common.{◌≤◌, drop, length}
use Rattle.mc_stream.specs.Event.{waits}
use Rattle.mc_stream.specs.Pushing.{IsUnfailed, Unqueues}
use Rattle.mc_conn.specs.Queued.{own_before, put_together}
use Rattle.mc_conn.proofs.queue.Queue.push_while_taken.Given as goal

-- the parts so far were pushed, and the others are left
abbrev pub invariant-loop-index : goal.invariant-loop-index
invariant-loop-index g l = record {
  own : own_before (drop l.index l.self-inside.parts.items) ≤ length l.own;
  pushed : Unqueues l.self (put_together (drop l.index l.self-inside.parts.items) l.own) (g.O.Output.tells l.fn.output) (g.O.Output.tells l.output);
  unfailed : IsUnfailed (g.O.Output.tells l.fn.output) (g.O.Output.tells l.output);
  waited : waits (g.O.Output.tells l.fn.output).events ≤ waits (g.O.Output.tells l.output).events;
}
