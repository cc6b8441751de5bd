use Rattle.std.proofs.Common.{◌≤◌, length, take}
use Rattle.mc_stream.specs.Pushing.{IsUnfailed, Pushes}
use Rattle.mc_programs.proofs.waiting.push_all.Given as goal

-- the bytes sent so far are a prefix of those to be pushed
abbrev pub invariant-loop : goal.invariant-loop
invariant-loop g l = record {
  within : l.sent ≤ length l.bytes;
  pushed : Pushes (g.O.Output.tells l.fn.output) (g.O.Output.tells l.output) (take l.sent l.bytes);
  unfailed : IsUnfailed (g.O.Output.tells l.fn.output) (g.O.Output.tells l.output);
}
