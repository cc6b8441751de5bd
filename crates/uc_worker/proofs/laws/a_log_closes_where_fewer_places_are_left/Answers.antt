use Rattle.uc_worker.proofs.Closing.{closes_below, leaves_each}
use Rattle.uc_worker.proofs.laws.a_log_closes_where_fewer_places_are_left.Goals as goal

pub returns-clause-leaves : goal.returns-clause-leaves
returns-clause-leaves c = leaves_each

pub returns-clause-closes : goal.returns-clause-closes
returns-clause-closes c = closes_below
