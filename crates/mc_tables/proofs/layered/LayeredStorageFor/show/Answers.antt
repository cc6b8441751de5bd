use Rattle.std.proofs.Common.{◌≡◌, Option, Some, None, sym, ap, ◌∙◌}
use Rattle.std.specs.FinMap as map
use Rattle.std.specs.Option.{option_copied, option_copied_mut, option_map}
use Rattle.mc_model.specs.Effect.{shown_item}
use Rattle.mc_model.specs.declared.item.Item.{Item}
use Rattle.mc_tables.specs.declared.cell_item.CellItem.{CellItem}
use Rattle.mc_tables.specs.Entries.{item_of_cell, laid_over, lent_key}
use Rattle.mc_tables.specs.Layers.{below}
use Rattle.mc_tables.proofs.Indexing.{index_at, laid-put_at}
use Rattle.mc_tables.proofs.Layering.{held_over, held_under, insert_same, entry_at}
use Rattle.mc_tables.proofs.layered.LayeredStorageFor.show.Goals as goal

pub returns-in_err-show_kept-clause-unchanged : goal.returns-in_err-show_kept-clause-unchanged
returns-in_err-show_kept-clause-unchanged c =
    let table = below c.args.self.now.base c.args.self.now.marks.items in
    let over = c.args.self.now.over.entries in
    let key = c.args.key.now in
    let here : entry_at lent_key over key ≡ Some c.in-Some-get_index_mut.kept.now = sym c.in-Some.ensures.kept ∙ sym c.get_index_mut.ensures.value ∙ ap option_copied_mut c.in-Some-get_index_mut.is in
    let there = held_over lent_key item_of_cell table over key c.in-Some-get_index_mut.kept.now here in
    let at : index_at lent_key over key ≡ Some c.in-Some.place = sym c.over_place.ensures.place ∙ c.in-Some.is in
    laid-put_at lent_key item_of_cell table c.args.self.now.over key c.in-Some.place c.show_kept.new.kept c.get_index_mut.ensures.unique at
    ∙ ap (λ (kept : CellItem). map.insert (laid_over lent_key item_of_cell table over) key (item_of_cell kept)) c.show_kept.ensures.unchanged
    ∙ insert_same (laid_over lent_key item_of_cell table over) key (item_of_cell c.in-Some-get_index_mut.kept.now) there

pub returns-in-Some-clause-unchanged : goal.returns-in-Some-clause-unchanged
returns-in-Some-clause-unchanged c =
    let table = below c.args.self.now.base c.args.self.now.marks.items in
    let over = c.args.self.now.over.entries in
    let key = c.args.key.now in
    let here : entry_at lent_key over key ≡ Some c.in-Some-get_index_mut.kept.now = sym c.in-Some.ensures.kept ∙ sym c.get_index_mut.ensures.value ∙ ap option_copied_mut c.in-Some-get_index_mut.is in
    let there = held_over lent_key item_of_cell table over key c.in-Some-get_index_mut.kept.now here in
    let at : index_at lent_key over key ≡ Some c.in-Some.place = sym c.over_place.ensures.place ∙ c.in-Some.is in
    laid-put_at lent_key item_of_cell table c.args.self.now.over key c.in-Some.place c.show_kept.new.kept c.get_index_mut.ensures.unique at
    ∙ ap (λ (kept : CellItem). map.insert (laid_over lent_key item_of_cell table over) key (item_of_cell kept)) c.show_kept.ensures.unchanged
    ∙ insert_same (laid_over lent_key item_of_cell table over) key (item_of_cell c.in-Some-get_index_mut.kept.now) there

pub returns-in-Some-clause-shown : goal.returns-in-Some-clause-shown
returns-in-Some-clause-shown c =
    let table = below c.args.self.now.base c.args.self.now.marks.items in
    let over = c.args.self.now.over.entries in
    let key = c.args.key.now in
    let here : entry_at lent_key over key ≡ Some c.in-Some-get_index_mut.kept.now = sym c.in-Some.ensures.kept ∙ sym c.get_index_mut.ensures.value ∙ ap option_copied_mut c.in-Some-get_index_mut.is in
    let there = held_over lent_key item_of_cell table over key c.in-Some-get_index_mut.kept.now here in
    ap Some c.in_ok-show_kept.ensures.shown ∙ sym (ap (λ (o : Option Item). option_map (shown_item c.args.uniques key) o) there)

pub returns-in-None-clause-shown : goal.returns-in-None-clause-shown
returns-in-None-clause-shown c =
    let table = below c.args.self.now.base c.args.self.now.marks.items in
    let over = c.args.self.now.over.entries in
    let key = c.args.key.now in
    let absent : entry_at lent_key over key ≡ None = c.in_default.ensures.none in
    let there : map.get (laid_over lent_key item_of_cell table over) key ≡ None = held_under lent_key item_of_cell table over key absent ∙ sym c.under.ensures ∙ ap option_copied c.in-None.is in
    sym (ap (λ (o : Option Item). option_map (shown_item c.args.uniques key) o) there)

pub returns-in_ok-show_item-in-Some-under-clause-shown : goal.returns-in_ok-show_item-in-Some-under-clause-shown
returns-in_ok-show_item-in-Some-under-clause-shown c =
    let table = below c.args.self.now.base c.args.self.now.marks.items in
    let over = c.args.self.now.over.entries in
    let key = c.args.key.now in
    let absent : entry_at lent_key over key ≡ None = c.in_default.ensures.none in
    let there : map.get (laid_over lent_key item_of_cell table over) key ≡ Some c.in-Some-under.item.now = held_under lent_key item_of_cell table over key absent ∙ sym c.under.ensures ∙ ap option_copied c.in-Some-under.is in
    ap Some c.in_ok-show_item-in-Some-under.ensures.shown ∙ sym (ap (λ (o : Option Item). option_map (shown_item c.args.uniques key) o) there)
