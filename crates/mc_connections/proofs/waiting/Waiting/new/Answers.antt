use Rattle.std.proofs.Common.{rules}
use Rattle.mc_connections.proofs.waiting.Waiting.new.Goals as goal

pub returns-clause-none : goal.returns-clause-none
returns-clause-none c = c.in_ok-vec.ensures.items_if_clones_equal (λ y h. search (rules, h))
