-- More is learned, and nothing is announced.
use Rattle.std.proofs.Common.{length}
use Rattle.uc_worker.proofs.Lacking.{lacks_on}
use Rattle.uc_worker.proofs.Owning.{owns_still}
use Rattle.uc_worker.proofs.worker.Worker.catch_up_some.Goals as goal

pub invariant_of-self-clause-lacks : goal.invariant_of-self-clause-lacks
invariant_of-self-clause-lacks g c = let self = c.args.self.now in
    lacks_on self.log.now self.pass c.read_up-is_bound.new.pass self.replica.history self.lacks self.short c.read_up-is_bound.ensures.on

pub invariant_of-self-clause-own : goal.invariant_of-self-clause-own
invariant_of-self-clause-own g c = let self = c.args.self.now in let on = c.read_up-is_bound.ensures.on in
    owns_still (length self.log.now.settings.tenants) self.pass c.read_up-is_bound.new.pass self.replica.history on.later.same.1 on.own self.own
