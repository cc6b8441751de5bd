use Rattle.std.proofs.Common.{rules}
use Rattle.model_lemmas.proofs.Replays.{EachStands-none, HaveRoom-empty}
use Rattle.mc_model.specs.Replay.{empty_tables}
use Rattle.mc_replica.proofs.replica.Replica.open.Goals as goal

pub invariant_of-result : goal.invariant_of-result
invariant_of-result c = record {
  few = search rules;
  reserved = search rules;
  uniques = rw c.in_ok-limits_kept.ensures.items (HaveRoom-empty c.args.limits.now c.args.places (search rules));
  stands = rw (c.in_ok-history.ensures.items, c.in_ok-limits_kept.ensures.items, c.in_ok-tables.ensures.tables) (EachStands-none (empty_tables c.args.limits.now));
}

pub returns-clause-stands : goal.returns-clause-stands
returns-clause-stands c = rw (c.in_ok-history.ensures.items, c.in_ok-limits_kept.ensures.items, c.in_ok-tables.ensures.tables) (EachStands-none (empty_tables c.args.limits.now))
