use Rattle.std.proofs.Common.{◌≡◌, ℕ, ◌≤◌, List, ◌++◌, length, Option, Some, None, refl, sym, ap, subst, ◌∙◌, arith, length-append}
use Rattle.std.specs.FinMap as map
use Rattle.mc_model.specs.declared.item.TheConstants.{DATA_BYTES}
use Rattle.std.specs.Option.{IsSome, option_copied_mut}
use Rattle.mc_model.specs.declared.item.Item.{Item}
use Rattle.mc_tables.specs.declared.cell_item.CellItem.{CellItem}
use Rattle.mc_tables.specs.declared.storage.Change.TheVariants.{Prepend}
use Rattle.mc_tables.specs.Changes.{block_under, changed_item, flags_under}
use Rattle.mc_tables.specs.Entries.{item_of_cell, laid_over, lent_key}
use Rattle.mc_tables.specs.Layers.{below, layers}
use Rattle.mc_tables.proofs.Layering.{held_over, held_under, insert_same, laid-put, on_err, on_ok, entry_at}
use Rattle.mc_tables.proofs.layered.Layered.prepend.Goals as goal

pub push_front-requires : goal.push_front-requires
push_front-requires c =
    let table = below c.args.self.now.base c.args.self.now.marks.items in
    let over = c.args.self.now.over.entries in
    let key = c.args.key.now in
    let here : entry_at lent_key over key ≡ Some c.in-Some.kept.now = sym c.get_mut.ensures.value ∙ ap option_copied_mut c.in-Some.is in
    let there = held_over lent_key item_of_cell table over key c.in-Some.kept.now here in
    let long : length (c.args.block.now ++ c.in-Some.kept.now.block) ≤ DATA_BYTES = subst (λ (o : Option Item). length (c.args.block.now ++ block_under o) ≤ DATA_BYTES) there c.requires in
    omega (arith, long, length-append c.args.block.now c.in-Some.kept.now.block)

pub returns-in-Some-clause-joined : goal.returns-in-Some-clause-joined
returns-in-Some-clause-joined c =
    let table = below c.args.self.now.base c.args.self.now.marks.items in
    let over = c.args.self.now.over.entries in
    let key = c.args.key.now in
    let here : entry_at lent_key over key ≡ Some c.in-Some.kept.now = sym c.get_mut.ensures.value ∙ ap option_copied_mut c.in-Some.is in
    let there = held_over lent_key item_of_cell table over key c.in-Some.kept.now here in
    let new = c.get_mut.follows.lender c.push_front.new.kept in
    let writes = c.get_mut.follows.holds c.push_front.new.kept in
    let updates = writes.3 (subst IsSome c.in-Some.ensures.value refl) in
    let put = laid-put lent_key item_of_cell table c.args.self.now.over new key c.push_front.new.kept updates in
    on_ok c.push_front.result (λ is. put ∙ ap (λ (kept : CellItem). map.insert (laid_over lent_key item_of_cell table over) key (item_of_cell kept)) is
    ∙ sym (ap (λ (o : Option Item). map.insert (laid_over lent_key item_of_cell table over) key (changed_item o (Prepend c.args.block) c.args.unique)) there)) c.push_front.ensures.joined

pub returns-in-Some-clause-unchanged : goal.returns-in-Some-clause-unchanged
returns-in-Some-clause-unchanged c =
    let table = below c.args.self.now.base c.args.self.now.marks.items in
    let over = c.args.self.now.over.entries in
    let key = c.args.key.now in
    let here : entry_at lent_key over key ≡ Some c.in-Some.kept.now = sym c.get_mut.ensures.value ∙ ap option_copied_mut c.in-Some.is in
    let there = held_over lent_key item_of_cell table over key c.in-Some.kept.now here in
    let new = c.get_mut.follows.lender c.push_front.new.kept in
    let writes = c.get_mut.follows.holds c.push_front.new.kept in
    let updates = writes.3 (subst IsSome c.in-Some.ensures.value refl) in
    let put = laid-put lent_key item_of_cell table c.args.self.now.over new key c.push_front.new.kept updates in
    on_err c.push_front.result (λ is. put ∙ ap (λ (kept : CellItem). map.insert (laid_over lent_key item_of_cell table over) key (item_of_cell kept)) is
    ∙ insert_same (laid_over lent_key item_of_cell table over) key (item_of_cell c.in-Some.kept.now) there) c.push_front.ensures.unchanged

pub prepend-requires : goal.prepend-requires
prepend-requires c =
    let table = below c.args.self.now.base c.args.self.now.marks.items in
    let over = c.args.self.now.over.entries in
    let key = c.args.key.now in
    let absent : entry_at lent_key over key ≡ None = sym c.get_mut.ensures.value ∙ ap option_copied_mut c.in_default.is in
    let there : map.get (laid_over lent_key item_of_cell table over) key ≡ map.get table key = held_under lent_key item_of_cell table over key absent in
    let long : length (c.args.block.now ++ block_under (map.get table key)) ≤ DATA_BYTES = subst (λ (o : Option Item). length (c.args.block.now ++ block_under o) ≤ DATA_BYTES) there c.requires in
    omega (arith, long, ap (λ (b : List ℕ). length b) c.borrowed-kept.ensures.block, length-append c.args.block.now (block_under (map.get table key)))

pub returns-clause-joined : goal.returns-clause-joined
returns-clause-joined c =
    let table = below c.args.self.now.base c.args.self.now.marks.items in
    let over = c.args.self.now.over.entries in
    let key = c.args.key.now in
    let absent : entry_at lent_key over key ≡ None = sym c.get_mut.ensures.value ∙ ap option_copied_mut c.in_default.is in
    let there : map.get (laid_over lent_key item_of_cell table over) key ≡ map.get table key = held_under lent_key item_of_cell table over key absent in
    let flags_is = c.borrowed-kept.ensures.flags ∙ ap flags_under (sym there) in
    let block_is = c.in_ok-prepend.ensures.joined ∙ ap (λ (b : List ℕ). c.args.block.now ++ b) (c.borrowed-kept.ensures.block ∙ ap block_under (sym there)) in
    let unique_is = c.borrowed-kept.ensures.unique in
    on_ok c.put.result (λ is. is
    ∙ ap (λ (m : _). map.insert (layers c.args.self.now.base c.args.self.now.marks.items m) key (item_of_cell (record { flags = c.borrowed-kept.result.flags; unique = c.borrowed-kept.result.unique; block = c.prepend.new.self }))) c.get_mut.follows.holds-at-none
    ∙ (λ i. map.insert (laid_over lent_key item_of_cell table over) key (record { flags = flags_is i; block = block_is i; unique = unique_is i }))) c.put.ensures.put
