use Rattle.std.proofs.Common.{◌≡◌, length, sym, ap, ◌∙◌, rules}
use Rattle.std.specs.FinMap as map
use Rattle.std.specs.FinMap.{get-empty}
use Rattle.mc_model.specs.Table.{key_cmp}
use Rattle.mc_tables.specs.Entries.{owned_entries, same_key}
use Rattle.mc_tables.proofs.Indexing.{empty, if_none, if_some, none_at}
use Rattle.mc_tables.proofs.Layering.{get-owned}
use Rattle.mc_tables.proofs.item_map.ItemMap.place_of.Goals as goal

pub returns-then-len-eq0-clause-none : goal.returns-then-len-eq0-clause-none
returns-then-len-eq0-clause-none c =
    let held = c.args.self.now.held.entries in
    let no : length held ≡ 0 = search rules in
    ap (λ es. map.get (owned_entries es) c.args.key.now) (empty held no) ∙ get-empty key_cmp c.args.key.now

pub returns-clause-place : goal.returns-clause-place
returns-clause-place c = c.get_index_of.ensures.index

pub returns-clause-item : goal.returns-clause-item
returns-clause-item c =
    let held = c.args.self.now.held.entries in
    if_some c.get_index_of.result (λ i at. at ∙ sym (get-owned held c.args.key.now)) c.get_index_of.ensures.value

pub returns-clause-none : goal.returns-clause-none
returns-clause-none c =
    let held = c.args.self.now.held.entries in
    let key = c.args.key.now in
    if_none c.get_index_of.result (λ absent. get-owned held key ∙ absent) (none_at same_key held key c.get_index_of.result c.get_index_of.ensures.index)
