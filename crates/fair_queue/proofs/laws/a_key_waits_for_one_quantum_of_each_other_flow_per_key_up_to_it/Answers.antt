use Rattle.fair_queue.proofs.Behind.{waits_for_one_quantum_per_key}
use Rattle.fair_queue.proofs.laws.a_key_waits_for_one_quantum_of_each_other_flow_per_key_up_to_it.Goals as goal

pub returns : goal.returns
returns c = waits_for_one_quantum_per_key
