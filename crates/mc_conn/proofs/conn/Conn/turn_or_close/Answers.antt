use Rattle.mc_conn.proofs.Endings.{pulls_told, stops, stops_in_time}
use Rattle.mc_conn.proofs.Countings.{tallies_self, tallies_to, tallies_within}
use Rattle.std.proofs.Common.{refl}
use Rattle.mc_conn.proofs.conn.Conn.turn_or_close.Goals as goal

pub returns-in-Err-clause-outcome : goal.returns-in-Err-clause-outcome
returns-in-Err-clause-outcome g c =
    λ going. record {
      stops = stops _ _ _ _ _ _ _ c.in-Err.fault c.close.ensures.same c.close.ensures.past c.in-Err.ensures.outcome.breaks c.close.ensures.told c.close.ensures.closed;
      in_time = λ is.
          stops_in_time _ _ _ _ _ _ _ c.in-Err.fault c.close.ensures.same c.close.ensures.past c.in-Err.ensures.outcome.breaks c.close.ensures.told c.close.ensures.closed
          (c.in-Err.ensures.outcome.in_time is);
    }

pub returns-in-Err-clause-pulls : goal.returns-in-Err-clause-pulls
returns-in-Err-clause-pulls g c =
    pulls_told _ _ _ _ _ _ _ c.in-Err.fault c.close.ensures.same c.close.ensures.past c.in-Err.ensures.outcome.breaks c.close.ensures.told c.go_round.ensures.pulls

pub returns-then-self-clause-tally : goal.returns-then-self-clause-tally
returns-then-self-clause-tally g c = tallies_self _ _

pub returns-in-Err-clause-tally : goal.returns-in-Err-clause-tally
returns-in-Err-clause-tally g c = tallies_to _ _ _ _ _ c.in-Err.fault (tallies_within _ _ _ _ _ _ refl c.go_round.ensures.tally c.close.ensures.past) c.count_fault.ensures
