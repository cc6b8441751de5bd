use Rattle.std.proofs.Common.{◌≡◌, Some, sym, ap, ◌∙◌}
use Rattle.std.specs.FinMap as map
use Rattle.mc_tables.specs.Entries.{item_of_cell, laid_over, lent_key}
use Rattle.mc_tables.specs.Layers.{below}
use Rattle.mc_tables.proofs.Indexing.{index_at, laid-absent, laid-removed_at}
use Rattle.mc_tables.proofs.layered.LayeredStorage.remove.Goals as goal

pub returns-in-Some : goal.returns-in-Some
returns-in-Some c =
    let table = below c.args.self.now.base c.args.self.now.marks.items in
    let less = below c.mark.new.self.base c.mark.new.self.marks.items in
    let over = c.mark.new.self.over in
    let key = c.args.key.now in
    let at : index_at lent_key over.entries key ≡ Some c.in-Some.place = sym c.over_place.ensures.place ∙ c.in-Some.is in
    laid-removed_at lent_key item_of_cell table less over c.swap_remove_index.new.self key c.in-Some.place c.swap_remove_index.result at
    c.swap_remove_index.ensures.entry c.swap_remove_index.ensures.updates c.mark.ensures.marked
    ∙ ap (λ (over : _). map.remove (laid_over lent_key item_of_cell table over.entries) key) c.mark.ensures.over

pub returns-in_default : goal.returns-in_default
returns-in_default c =
    let table = below c.args.self.now.base c.args.self.now.marks.items in
    let less = below c.mark.new.self.base c.mark.new.self.marks.items in
    let over = c.mark.new.self.over in
    let key = c.args.key.now in
    laid-absent lent_key item_of_cell table less over.entries key c.in_default.ensures.none c.mark.ensures.marked
    ∙ ap (λ (over : _). map.remove (laid_over lent_key item_of_cell table over.entries) key) c.mark.ensures.over
