use Rattle.std.proofs.Common.{sym, subst}
use Rattle.fair_queue.specs.Turns.{GivesFirst}
use Rattle.fair_queue.proofs.fair_queue.FairQueue.next.Goals as goal

pub returns-in-Some-clause-given : goal.returns-in-Some-clause-given
returns-in-Some-clause-given c = (
  c.charge.new.self,
  c.charge.ensures.charges,
  subst (λ flow. GivesFirst flow c.give.result.key c.charge.new.self c.give.new.self) (sym c.give.ensures.given.0) c.give.ensures.given.1,
)
