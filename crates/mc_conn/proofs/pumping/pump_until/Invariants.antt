use Rattle.std.proofs.Common.{◌≡◌, false}
use Rattle.mc_stream.specs.Stream.{both}
use Rattle.mc_conn.specs.Ending.{LogsInTime, PullsLate}
use Rattle.mc_conn.specs.Turn.{Takes, scene}
use Rattle.mc_conn.proofs.pumping.pump_until.Given as goal

-- the turns so far went well
abbrev pub invariant-loop : goal.invariant-loop
invariant-loop g l = record {
  begun : l.fn.conn.is_closed ≡ false;
  going : l.conn.is_closed ≡ false;
  takes : Takes (scene l.fn.conn l.fn.worker (both (g.I.Input.tells l.fn.input) (g.O.Output.tells l.fn.output)))
      (scene l.conn l.worker (both (g.I.Input.tells l.input) (g.O.Output.tells l.output)));
  in_time : LogsInTime takes;
  late : PullsLate (scene l.fn.conn l.fn.worker (both (g.I.Input.tells l.fn.input) (g.O.Output.tells l.fn.output)))
      (scene l.conn l.worker (both (g.I.Input.tells l.input) (g.O.Output.tells l.output)));
}
