use Rattle.uc_worker.proofs.FewCalls.{few_calls}
use Rattle.uc_worker.proofs.laws.few_events_are_few_calls.Goals as goal

pub returns : goal.returns
returns c = few_calls
