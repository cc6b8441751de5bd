use Rattle.std.proofs.Common.{Bool, subst, sym, ◌≡◌, false, MatchResult}
use Rattle.mc_conn.specs.Turn.{scene}
use Rattle.mc_connections.specs.Serving.{StopsOnce, TurnsOnce}
use Rattle.mc_stream.specs.Stream.{both}
use Rattle.mc_connections.proofs.connecting.turn_once.Goals as goal

pub returns-then-terms-clause-outcome : goal.returns-then-terms-clause-outcome
returns-then-terms-clause-outcome g c =
    let before = scene c.args.conn.now c.args.worker.now (both (g.I.Input.tells c.args.input.now) (g.O.Output.tells c.args.output.now)) in
    let after = scene c.turn_until.new.self c.turn_until.new.worker (both (g.I.Input.tells c.turn_until.new.input) (g.O.Output.tells c.turn_until.new.output)) in
    subst (λ (until : Bool). c.args.conn.now.is_closed ≡ false → MatchResult c.turn_until.result (TurnsOnce until before after) (StopsOnce until before after)) (sym c.if-terms.true)
    c.turn_until.ensures.outcome

pub returns-else-terms-clause-outcome : goal.returns-else-terms-clause-outcome
returns-else-terms-clause-outcome g c =
    let before = scene c.args.conn.now c.args.worker.now (both (g.I.Input.tells c.args.input.now) (g.O.Output.tells c.args.output.now)) in
    let after = scene c.turn.new.self c.turn.new.worker (both (g.I.Input.tells c.turn.new.input) (g.O.Output.tells c.turn.new.output)) in
    subst (λ (until : Bool). c.args.conn.now.is_closed ≡ false → MatchResult c.turn.result (TurnsOnce until before after) (StopsOnce until before after)) (sym c.if-terms.false)
    c.turn.ensures.outcome
