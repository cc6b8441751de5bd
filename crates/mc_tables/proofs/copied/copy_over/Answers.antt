use Rattle.std.proofs.Common.{◌≡◌, ◌+◌, ◌≤◌, drop, length, Some, ap, ◌∙◌, arith}
use Rattle.std.proofs.lemmas.List.{drop_all}
use Rattle.std.specs.FinMap as map
use Rattle.mc_model.specs.declared.item.Item.{Item}
use Rattle.mc_tables.specs.Entries.{item_of_cell, laid_over, lent_key}
use Rattle.mc_tables.specs.Layers.{owned_table}
use Rattle.mc_tables.proofs.Copying.{all_laid, none_laid, one_laid}
use Rattle.mc_tables.proofs.Layering.{held_over}
use Rattle.mc_tables.proofs.copied.copy_over.Goals as goal

pub loop-place-init : goal.loop-place-init
loop-place-init c = none_laid lent_key item_of_cell (owned_table c.args.copy.now) c.args.over.now.entries

pub loop-place-preserved : goal.loop-place-preserved
loop-place-preserved c =
    let table = owned_table c.args.copy.now in
    let over = c.args.over.now.entries in
    let whole = laid_over lent_key item_of_cell table over in
    let place = c.loop-place.place in
    let text = c.entry_over.result.0.now in
    let kept = c.entry_over.result.1.now in
    let there : map.get whole text ≡ Some (item_of_cell kept) = held_over lent_key item_of_cell table over text kept c.entry_over.ensures.kept in
    one_laid lent_key whole (owned_table c.loop-place.copy) (owned_table c.put_new.new.self) (drop place over) (drop (place + 1) over)
    text kept (item_of_cell kept) c.loop-place.invariant c.entry_over.ensures.first there
    (c.in_ok-put_new.ensures.table ∙ ap (λ (item : Item). map.insert (owned_table c.loop-place.copy) text item) c.in_ok-item_of.ensures.same)

pub returns-clause-over : goal.returns-clause-over
returns-clause-over c =
    let table = owned_table c.args.copy.now in
    let over = c.args.over.now.entries in
    let place = c.loop-place.place in
    let past : length over ≤ place = omega (arith, c.loop-place-test.false, c.len-place-end.ensures.len) in
    all_laid lent_key (laid_over lent_key item_of_cell table over) (owned_table c.loop-place.copy) (drop place over) (drop_all place over past) c.loop-place.invariant
