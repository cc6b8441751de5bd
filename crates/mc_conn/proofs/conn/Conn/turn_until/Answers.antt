use Rattle.std.proofs.Common.{refl}
use Rattle.mc_conn.proofs.Endings.{turns_until}
use Rattle.mc_conn.proofs.Outcomes.{match_map}
use Rattle.mc_conn.proofs.conn.Conn.turn_until.Goals as goal

pub returns-clause-outcome : goal.returns-clause-outcome
returns-clause-outcome g c going = match_map c.turn_or_close.result _ _ _ _ (λ state round. turns_until _ _ state round) (λ fault round. record { stops = round.stops; in_time = round.in_time refl }) (c.turn_or_close.ensures.outcome going)
