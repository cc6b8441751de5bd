use Rattle.std.proofs.Common.{subst, slice_index_or, rules}
use Rattle.mc_net.specs.Running.{HasRun}
use Rattle.mc_net.specs.declared.worker_thread.WorkerThread.{WorkerThread}
use Rattle.mc_net.proofs.running.run_workers.Goals as goal

pub returns : goal.returns
returns g c = record {
  long = search rules;
  each = λ i d inside.
      let at = (c.for_each_mut.ensures i d inside).1 in
      let began = subst (λ (worker_thread : WorkerThread _). HasRun c.args.until_done worker_thread at.after_call.now) at.argument_is at.call in
      subst (HasRun c.args.until_done (slice_index_or c.args.worker_threads.now i d)) at.left began;
}
