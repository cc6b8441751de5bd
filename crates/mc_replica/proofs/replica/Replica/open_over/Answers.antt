use Rattle.std.proofs.Common.{rules}
use Rattle.model_lemmas.proofs.Replays.{EachStands-none}
use Rattle.mc_replica.proofs.replica.Replica.open_over.Goals as goal

pub invariant_of-result : goal.invariant_of-result
invariant_of-result c = record {
  few = search rules;
  reserved = search rules;
  uniques = c.requires;
  stands = rw (c.in_ok-with_capacity.ensures.items, c.in_ok-tables.ensures.same) (EachStands-none c.args.base.now);
}

pub returns-clause-stands : goal.returns-clause-stands
returns-clause-stands c = rw (c.in_ok-with_capacity.ensures.items, c.in_ok-tables.ensures.same) (EachStands-none c.args.base.now)
