use Rattle.std.proofs.Common.{◌≡◌, ◌≤◌, rules, vec_capacity}
use Rattle.uc_core.specs.declared.machine.Core.TheInside.{Inside}
use Rattle.uc_core.proofs.Opened.{IsCore-new, IsNew, new_core-is}
use Rattle.uc_core.proofs.machine.Core.new.Goals as goal

fields : goal.After-places-2 → Inside
fields c = record {
  places = c.places-2.result;
  openings = c.in_ok-openings.openings;
  decided = c.in_ok-decided.decided;
  entries = c.in_ok-entries.entries;
  workers = c.in_ok-workers.workers;
}

are_new : (c : goal.After-places-2) → IsNew c.args.settings.now (fields c)
unfolding fields
are_new c = let many : c.workers-count.result ≡ c.args.settings.now.workers = search rules in record {
  places = c.places-2.ensures.value;
  openings = search rules;
  decided = c.in_ok-decided.ensures.items;
  empty = c.in_ok-entries.ensures.none;
  lists = search rules;
  fresh = rw (c.tenants-2.ensures.value, many) at c.in_ok-workers.ensures.fresh;
  count = search rules;
}

pub invariant_of-result : goal.invariant_of-result
unfolding fields
invariant_of-result c =
    let room : c.args.settings.now.places ≤ vec_capacity c.in_ok-decided.decided = search rules in
    IsCore-new c.args.settings.now (fields c) (are_new c) c.places.ensures.lawful room

pub returns-clause-state : goal.returns-clause-state
unfolding fields
returns-clause-state c = new_core-is c.args.settings.now (fields c) (are_new c)
