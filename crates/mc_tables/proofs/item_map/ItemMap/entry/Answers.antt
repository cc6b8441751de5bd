use Rattle.std.proofs.Common.{sym}
use Rattle.mc_tables.specs.Entries.{same_key}
use Rattle.mc_tables.proofs.Copying.{entry_at-from, own_place}
use Rattle.mc_tables.proofs.item_map.ItemMap.entry.Goals as goal

pub returns-clause-first : goal.returns-clause-first
returns-clause-first c = λ key.
    let entry = c.in-Some.entry in
    entry_at-from same_key c.args.self.now.held.entries c.args.place (entry.0.now, entry.1.now) (sym c.in-Some.ensures.entry) key

pub returns-clause-place : goal.returns-clause-place
returns-clause-place c =
    let entry = c.in-Some.entry in
    own_place c.args.self.now.held.entries c.args.place (entry.0.now, entry.1.now) c.len.ensures.unique (sym c.in-Some.ensures.entry)
