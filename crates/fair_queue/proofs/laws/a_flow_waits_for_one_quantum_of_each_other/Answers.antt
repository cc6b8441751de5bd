use Rattle.fair_queue.proofs.Waiting.{waits_for_one_quantum_each}
use Rattle.fair_queue.proofs.laws.a_flow_waits_for_one_quantum_of_each_other.Goals as goal

pub returns : goal.returns
returns c = waits_for_one_quantum_each
