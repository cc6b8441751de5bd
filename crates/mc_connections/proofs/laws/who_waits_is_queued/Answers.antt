use Rattle.mc_connections.proofs.StaysQueued.{after_round, after_serve, when_new}
use Rattle.mc_connections.proofs.laws.who_waits_is_queued.Goals as goal

pub returns-clause-new : goal.returns-clause-new
returns-clause-new c = when_new

pub returns-clause-round : goal.returns-clause-round
returns-clause-round c = after_round (record { comes = c.a_fair_queue_stays_fair.ensures.comes; charged = c.a_fair_queue_stays_fair.ensures.charged; given = c.a_fair_queue_stays_fair.ensures.given })

pub returns-clause-serve : goal.returns-clause-serve
returns-clause-serve c = after_serve (record { comes = c.a_fair_queue_stays_fair.ensures.comes; charged = c.a_fair_queue_stays_fair.ensures.charged; given = c.a_fair_queue_stays_fair.ensures.given })
