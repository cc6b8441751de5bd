use Rattle.fair_queue.proofs.Charging.{taken_off, turned_over}
use Rattle.fair_queue.proofs.laws.what_is_spent_is_charged.Goals as goal

pub returns : goal.returns
returns c = record { goes_on = taken_off; ends = turned_over }
