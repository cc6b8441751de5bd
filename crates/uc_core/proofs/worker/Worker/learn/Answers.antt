use Rattle.std.proofs.Common.{◌≡◌, Some, None, slice_get, rules, arith}
use Rattle.std.proofs.lemmas.Grind.{common_steps}
use Rattle.std.proofs.lemmas.Option.{gets}
use Rattle.uc_core.proofs.Workers.{AreCounts-raised, AreCounts-unkept}
use Rattle.uc_core.proofs.worker.Worker.learn.Goals as goal

pub returns-in-Some-clause-counts : goal.returns-in-Some-clause-counts
returns-in-Some-clause-counts c = λ tickets are.
    let here : c.from.result ≡ c.args.ticket.worker = search rules in
    let at : slice_get c.args.self.now.counts.items c.args.ticket.worker ≡ Some c.in-Some.count.now = grind (arith, common_steps, gets) in
    rw here (AreCounts-raised tickets c.args.self.now.counts.items c.args.ticket c.in-Some.count.now are at)

pub returns-in_default-clause-counts : goal.returns-in_default-clause-counts
returns-in_default-clause-counts c = λ tickets are.
    let none : slice_get c.args.self.now.counts.items c.args.ticket.worker ≡ None = grind (arith, common_steps, gets) in
    AreCounts-unkept tickets c.args.self.now.counts.items c.args.ticket are none
