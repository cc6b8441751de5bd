use Rattle.std.proofs.Common.{◌≡◌, ℕ, List, length, Option, Some, None, is_some, refl, sym, ap, subst, ◌∙◌}
use Rattle.std.specs.FinMap as map
use Rattle.std.specs.Option.{IsSome, option_copied_mut, option_map}
use Rattle.mc_tables.specs.declared.cell_item.CellItem.{CellItem}
use Rattle.mc_tables.specs.declared.meter.Meter.{Meter}
use Rattle.mc_tables.specs.declared.storage.Change.TheVariants.{Put}
use Rattle.mc_tables.specs.Changes.{changed_item}
use Rattle.mc_tables.specs.Entries.{item_of_cell, laid_over, lent_key}
use Rattle.mc_tables.specs.Found.{found_of}
use Rattle.mc_tables.specs.Layers.{below}
use Rattle.mc_tables.specs.Meters.{IsMeterIf}
use Rattle.mc_tables.proofs.Layering.{entry_at, held_over, held_under, if_err, laid-put, overwritten}
use Rattle.mc_tables.proofs.layered.LayeredStorageFor.put_within.Goals as goal

pub returns-in-Some-clause-meter : goal.returns-in-Some-clause-meter
returns-in-Some-clause-meter c =
    let below_it = below c.args.self.now.base c.args.self.now.marks.items in
    let over = c.args.self.now.over.entries in
    let table = laid_over lent_key item_of_cell below_it over in
    let key = c.args.key.now in
    let here : entry_at lent_key over key ≡ Some c.in-Some.kept.now = sym c.get_mut.ensures.value ∙ ap option_copied_mut c.in-Some.is in
    let there = held_over lent_key item_of_cell below_it over key c.in-Some.kept.now here in
    subst (λ (block : List ℕ). IsMeterIf c.overwrite.result c.args.meter.now.limits (map.insert table key (record { flags = c.args.flags; block = block; unique = c.args.unique })))
    c.new.ensures (c.overwrite.ensures.meter table c.requires there)

pub returns-in-Some-clause-put : goal.returns-in-Some-clause-put
returns-in-Some-clause-put c =
    let below_it = below c.args.self.now.base c.args.self.now.marks.items in
    let over = c.args.self.now.over.entries in
    let table = laid_over lent_key item_of_cell below_it over in
    let key = c.args.key.now in
    let here : entry_at lent_key over key ≡ Some c.in-Some.kept.now = sym c.get_mut.ensures.value ∙ ap option_copied_mut c.in-Some.is in
    let there = held_over lent_key item_of_cell below_it over key c.in-Some.kept.now here in
    let new = c.get_mut.follows.lender c.overwrite.new.kept in
    let writes = c.get_mut.follows.holds c.overwrite.new.kept in
    let updates = writes.3 (subst IsSome c.in-Some.ensures.value refl) in
    let put = laid-put lent_key item_of_cell below_it c.args.self.now.over new key c.overwrite.new.kept updates in
    let item : CellItem = record { flags = c.args.flags; unique = c.args.unique; block = c.new.result } in
    let same = ap (λ (block : List ℕ). item_of_cell (record { flags = c.args.flags; unique = c.args.unique; block = block })) c.new.ensures in
    overwritten (is_some c.overwrite.result) table (laid_over lent_key item_of_cell below_it new.entries) key _ c.overwrite.new.kept item c.in-Some.kept.now put c.overwrite.ensures.put same there

pub returns-in_default-with-clause-meter : goal.returns-in_default-with-clause-meter
returns-in_default-with-clause-meter c =
    let below_it = below c.args.self.now.base c.args.self.now.marks.items in
    let over = c.args.self.now.over.entries in
    let table = laid_over lent_key item_of_cell below_it over in
    let key = c.args.key.now in
    let absent : entry_at lent_key over key ≡ None = sym c.get_mut.ensures.value ∙ ap option_copied_mut c.in_default.is in
    let there = held_under lent_key item_of_cell below_it over key absent in
    let found = c.find_under-old.ensures ∙ ap (option_map found_of) (sym there) in
    let item = changed_item (map.get table key) (Put c.args.flags c.args.block) c.args.unique in
    let long = ap (λ (bytes : List ℕ). length bytes) (sym c.new.ensures) ∙ sym c.len.ensures.len in
    let after = c.with.ensures table item c.requires found long in
    subst (λ (meter : Option Meter). IsMeterIf meter c.args.meter.now.limits (map.insert table key item)) c.in_default-with.is after

pub returns-in_err-put-clause-granted : goal.returns-in_err-put-clause-granted
returns-in_err-put-clause-granted c =
    let below_it = below c.args.self.now.base c.args.self.now.marks.items in
    let over = c.args.self.now.over.entries in
    let table = laid_over lent_key item_of_cell below_it over in
    let key = c.args.key.now in
    let absent : entry_at lent_key over key ≡ None = sym c.get_mut.ensures.value ∙ ap option_copied_mut c.in_default.is in
    let there = held_under lent_key item_of_cell below_it over key absent in
    let found = c.find_under-old.ensures ∙ ap (option_map found_of) (sym there) in
    let item = changed_item (map.get table key) (Put c.args.flags c.args.block) c.args.unique in
    let long = ap (λ (bytes : List ℕ). length bytes) (sym c.new.ensures) ∙ sym c.len.ensures.len in
    let after = c.with.ensures table item c.requires found long in
    let fits = subst (λ (meter : Option Meter). IsMeterIf meter c.args.meter.now.limits (map.insert table key item)) c.in-Some-with.is after in
    if_err c.from_residual.result (sym fits.0)

pub returns-clause-meter : goal.returns-clause-meter
returns-clause-meter c =
    let below_it = below c.args.self.now.base c.args.self.now.marks.items in
    let over = c.args.self.now.over.entries in
    let table = laid_over lent_key item_of_cell below_it over in
    let key = c.args.key.now in
    let absent : entry_at lent_key over key ≡ None = sym c.get_mut.ensures.value ∙ ap option_copied_mut c.in_default.is in
    let there = held_under lent_key item_of_cell below_it over key absent in
    let found = c.find_under-old.ensures ∙ ap (option_map found_of) (sym there) in
    let item = changed_item (map.get table key) (Put c.args.flags c.args.block) c.args.unique in
    let long = ap (λ (bytes : List ℕ). length bytes) (sym c.new.ensures) ∙ sym c.len.ensures.len in
    let after = c.with.ensures table item c.requires found long in
    subst (λ (meter : Option Meter). IsMeterIf meter c.args.meter.now.limits (map.insert table key item)) c.in-Some-with.is after
