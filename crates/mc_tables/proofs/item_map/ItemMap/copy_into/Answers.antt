use Rattle.std.proofs.Common.{◌+◌, ◌≤◌, drop, length, arith}
use Rattle.std.proofs.lemmas.List.{drop_all}
use Rattle.mc_tables.specs.Entries.{laid_over, same_item, same_key}
use Rattle.mc_tables.specs.Maps.{map_table}
use Rattle.mc_tables.proofs.Copying.{all_laid, none_laid, one_laid}
use Rattle.mc_tables.proofs.Layering.{held_over}
use Rattle.mc_tables.proofs.item_map.ItemMap.copy_into.Goals as goal

pub loop-place-init : goal.loop-place-init
loop-place-init c = none_laid same_key same_item (map_table c.args.copy.now) c.args.self.now.held.entries

pub loop-place-preserved : goal.loop-place-preserved
loop-place-preserved c =
    let table = map_table c.args.copy.now in
    let held = c.args.self.now.held.entries in
    let place = c.loop-place.place in
    let text = c.entry.result.0.now in
    let item = c.entry.result.1.now in
    one_laid same_key (laid_over same_key same_item table held) (map_table c.loop-place.copy) (map_table c.put_copy.new.self) (drop place held) (drop (place + 1) held)
    text item item c.loop-place.invariant c.entry.ensures.first (held_over same_key same_item table held text item c.entry.ensures.item) c.in_ok-put_copy.ensures.table

pub returns-clause-over : goal.returns-clause-over
returns-clause-over c =
    let table = map_table c.args.copy.now in
    let held = c.args.self.now.held.entries in
    let place = c.loop-place.place in
    let past : length held ≤ place = omega (arith, c.loop-place-test.false, c.len-place-end.ensures.len) in
    all_laid same_key (laid_over same_key same_item table held) (map_table c.loop-place.copy) (drop place held) (drop_all place held past) c.loop-place.invariant
