use Rattle.std.proofs.Common.{arith}
use Rattle.std.proofs.lemmas.List.{length_push}
use Rattle.uc_core.proofs.Opened.{AreFresh-push}
use Rattle.uc_core.proofs.machine.new_workers.Goals as goal

pub loop-preserved : goal.loop-preserved
loop-preserved c = rw c.in_ok-push.ensures.items (record {
  count = omega (arith, length_push c.loop.workers.items c.in_ok-new.field-0);
  fresh = AreFresh-push c.args.count c.args.openings.now c.loop.workers.items c.in_ok-new.field-0 c.loop.invariant.fresh c.in_ok-new.ensures.fresh;
})
