use Rattle.mc_conn.proofs.Queues.{begins-shorter}
use Rattle.mc_conn.proofs.queue.Queue.append_values.Goals as goal

pub returns-in_err-append_value-clause-begun : goal.returns-in_err-append_value-clause-begun
returns-in_err-append_value-clause-begun c = begins-shorter _ _ _ _ c.append_value.ensures.begun c.loop-value.invariant
