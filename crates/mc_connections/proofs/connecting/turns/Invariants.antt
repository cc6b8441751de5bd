-- The turns so far went well, the last of them may be followed by more, each took no more than a turn
-- may, and they kept the connection's role.
use Rattle.std.proofs.Common.{◌≡◌, ◌⊎◌, ◌*◌}
use Rattle.mc_conn.specs.Ending.{AnswersAtMost}
use Rattle.mc_conn.specs.Tallying.{HasCounted}
use Rattle.mc_conn.specs.Turn.{scene}
use Rattle.mc_conn.specs.declared.conn.State.TheVariants.{Busy}
use Rattle.mc_conn.specs.declared.conn.TheConstants.{PULL_BYTES, TURN_REQUESTS}
use Rattle.mc_stream.specs.Stream.{both}
use Rattle.mc_connections.specs.Serving.{HasAtMost, MovesAtMost, Stands}
use Rattle.mc_connections.proofs.Servings.{TakesFor}
use Rattle.mc_connections.proofs.connecting.turns.Given as goal

abbrev pub invariant-loop : goal.invariant-loop
invariant-loop g l = record {
  going : TakesFor l.fn.terms.until_done (scene l.fn.conn l.fn.worker (both (g.I.Input.tells l.fn.input) (g.O.Output.tells l.fn.output)))
      (scene l.conn l.worker (both (g.I.Input.tells l.input) (g.O.Output.tells l.output)));
  stands : (l.counter ≡ 0)
      ⊎ Stands l.fn.terms.until_done (scene l.fn.conn l.fn.worker (both (g.I.Input.tells l.fn.input) (g.O.Output.tells l.fn.output)))
      (scene l.conn l.worker (both (g.I.Input.tells l.input) (g.O.Output.tells l.output))) Busy;
  answers : AnswersAtMost (l.counter * TURN_REQUESTS) l.fn.conn l.conn;
  few : HasAtMost l.counter (g.I.Input.tells l.fn.input).events (g.I.Input.tells l.input).events;
  reads : MovesAtMost (l.counter * PULL_BYTES) (g.I.Input.tells l.fn.input).events (g.I.Input.tells l.input).events;
  role : l.conn.role ≡ l.fn.conn.role;
  tally : HasCounted l.fn.conn.past l.conn.past l.fn.tally l.tally;
}
