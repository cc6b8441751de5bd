use Rattle.std.proofs.Common.{◌≡◌, Some, length-take-le, slice_get, rules, arith, take}
use Rattle.std.proofs.lemmas.Grind.{common_steps}
use Rattle.std.proofs.lemmas.Option.{gets}
use Rattle.uc_core.proofs.Workers.{AreCounts-few, take-next}
use Rattle.uc_core.proofs.worker.Worker.read.Goals as goal

pub learn-requires-clause-counts : goal.learn-requires-clause-counts
learn-requires-clause-counts c = λ many at.
    let learned = take c.args.self.now.learned c.args.decided.now in
    let few = AreCounts-few learned c.args.self.now.counts.items c.in-Some.ticket.now.worker many c.requires.counts at in
    omega (arith, few, length-take-le c.args.self.now.learned c.args.decided.now c.requires.learned)

pub returns-clause-shown : goal.returns-clause-shown
returns-clause-shown c =
    let at : slice_get c.args.decided.now c.args.self.now.learned ≡ Some c.in-Some.ticket.now = grind (arith, common_steps, gets) in
    let next = take-next c.args.decided.now c.args.self.now.learned c.in-Some.ticket.now at in
    rw (c.learn.ensures.others, c.learn.ensures.phase, next, at) (search rules)

pub returns-clause-order : goal.returns-clause-order
returns-clause-order c = λ workers places old awake.
    let at : slice_get c.args.decided.now c.args.self.now.learned ≡ Some c.in-Some.ticket.now = grind (arith, common_steps, gets) in
    let next = take-next c.args.decided.now c.args.self.now.learned c.in-Some.ticket.now at in
    let counts = c.learn.ensures.counts (take c.args.self.now.learned c.args.decided.now) old.counts in
    record {
      learned = search rules;
      announced = search rules;
      idle = search rules;
      looked = search rules;
      proposals = search rules;
      counted = search rules;
      counts = rw (c.learn.ensures.others, next) counts;
      uniques = search rules;
    }
