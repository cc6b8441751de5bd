use Rattle.std.proofs.Common.{rules}
use Rattle.mc_connections.proofs.Turning.{gave, idled}
use Rattle.mc_connections.proofs.waiting.Waiting.pop.Goals as goal

pub returns-in-Some-clause-takes : goal.returns-in-Some-clause-takes
returns-in-Some-clause-takes c = (
  search (rules, c.is_round_over.ensures, c.if-is_round_over.false),
  gave c.replace-spent.result c.in-Some.ready.key c.in-Some.ready.flow _ _ c.replace-spent.ensures.value c.take_out.ensures.queue c.in-Some.ensures.given c.take_out.ensures.waits,
)

pub returns-in-None-clause-takes : goal.returns-in-None-clause-takes
returns-in-None-clause-takes c = idled c.replace-spent.result _ _ c.replace-spent.ensures.value c.replace-spent.ensures.after (search rules) c.in-None.ensures.given
