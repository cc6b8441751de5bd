use Rattle.mc_connections.proofs.StaysFair.{after_round, after_serve}
use Rattle.mc_connections.proofs.laws.rounds_stay_fair.Goals as goal

pub returns-clause-round : goal.returns-clause-round
returns-clause-round c = after_round (record { comes = c.a_fair_queue_stays_fair.ensures.comes; charged = c.a_fair_queue_stays_fair.ensures.charged; given = c.a_fair_queue_stays_fair.ensures.given })

pub returns-clause-serve : goal.returns-clause-serve
returns-clause-serve c = after_serve (record { comes = c.a_fair_queue_stays_fair.ensures.comes; charged = c.a_fair_queue_stays_fair.ensures.charged; given = c.a_fair_queue_stays_fair.ensures.given })
