use Rattle.std.proofs.Common.{◌≡◌, length, ap, rules}
use Rattle.mc_tables.specs.Entries.{lent_key}
use Rattle.mc_tables.proofs.Indexing.{empty, none_at}
use Rattle.mc_tables.proofs.Layering.{entry_at}
use Rattle.mc_tables.proofs.layered.Layered.over_place.Goals as goal

pub returns-then-len-eq0-clause-none : goal.returns-then-len-eq0-clause-none
returns-then-len-eq0-clause-none c =
    let over = c.args.self.now.over.entries in
    let no : length over ≡ 0 = search rules in
    ap (λ es. entry_at lent_key es c.args.key.now) (empty over no)

pub returns-clause-none : goal.returns-clause-none
returns-clause-none c =
    let over = c.args.self.now.over.entries in
    none_at lent_key over c.args.key.now c.get_index_of.result c.get_index_of.ensures.index
