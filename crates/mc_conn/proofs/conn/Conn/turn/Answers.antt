use Rattle.mc_conn.proofs.Endings.{never_full, turns}
use Rattle.mc_conn.proofs.Outcomes.{match_map}
use Rattle.mc_conn.proofs.conn.Conn.turn.Goals as goal

pub returns-clause-outcome : goal.returns-clause-outcome
returns-clause-outcome g c going =
    match_map c.turn_or_close.result _ _ _ _ (λ state round. (turns _ _ state round).0) (λ fault round. round.stops) (c.turn_or_close.ensures.outcome going)

pub returns-clause-takes_all : goal.returns-clause-takes_all
returns-clause-takes_all g c =
    never_full c.args.self.now.is_closed c.turn_or_close.result _ _ c.turn_or_close.ensures.outcome (λ closed. (c.turn_or_close.ensures.closed closed).0)
