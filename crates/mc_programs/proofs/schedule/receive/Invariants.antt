use Rattle.std.proofs.Common.{◌≡◌, ◌++◌, length}
use Rattle.std.specs.Io.KnownBytes.{Consumes}
use Rattle.mc_conn.specs.declared.conn.TheConstants.{PULL_BYTES}
use Rattle.mc_programs.specs.Serving.{IsUnfailedInput}
use Rattle.mc_stream.specs.Event.{moved}
use Rattle.mc_programs.proofs.schedule.receive.Given as goal

-- the bytes so far are those that came
abbrev pub invariant-loop : goal.invariant-loop
invariant-loop g l = record {
  came : moved (g.I.Input.tells l.input).events ≡ moved (g.I.Input.tells l.fn.input).events ++ l.bytes.items;
  consumed : Consumes (g.I.Input.tells l.fn.input).left (g.I.Input.tells l.input).left l.bytes.items;
  unfailed : IsUnfailedInput (g.I.Input.tells l.fn.input) (g.I.Input.tells l.input);
  whole_buffer : length l.buffer ≡ PULL_BYTES;
}
