use Rattle.std.proofs.Common.{◌≡◌, not, Some, None, refl, sym, ap, subst, ◌∙◌}
use Rattle.std.specs.FinMap as map
use Rattle.std.specs.Option.{IsSome, option_copied, option_copied_mut}
use Rattle.mc_model.specs.Effect.{Effect}
use Rattle.mc_model.specs.Table.{Table}
use Rattle.mc_tables.specs.Deltas.{renumbered_at}
use Rattle.mc_tables.specs.Entries.{item_of_cell, laid_over, lent_key}
use Rattle.mc_tables.specs.Layers.{below, layers}
use Rattle.mc_tables.specs.Meters.{IsMeterBy}
use Rattle.mc_tables.proofs.Layering.{entry_at, held_over, held_under, if_err, laid-put}
use Rattle.mc_tables.proofs.Renumbering.{accepts, leaves, not_held}
use Rattle.mc_tables.proofs.layered.LayeredStorageFor.renumber.Goals as goal

-- NUMBERS OVER THE BASE
pub returns-in-Some-clause-reply : goal.returns-in-Some-clause-reply
returns-in-Some-clause-reply c =
    let below_it = below c.args.self.now.base c.args.self.now.marks.items in
    let over = c.args.self.now.over.entries in
    let key = c.args.key.now in
    let here : entry_at lent_key over key ≡ Some c.in-Some.kept.now = sym c.get_mut.ensures.value ∙ ap option_copied_mut c.in-Some.is in
    let there = held_over lent_key item_of_cell below_it over key c.in-Some.kept.now here in
    c.renumber_kept.ensures.reply (laid_over lent_key item_of_cell below_it over) c.requires there

pub returns-in-Some-clause-table : goal.returns-in-Some-clause-table
returns-in-Some-clause-table c =
    let below_it = below c.args.self.now.base c.args.self.now.marks.items in
    let over = c.args.self.now.over.entries in
    let key = c.args.key.now in
    let here : entry_at lent_key over key ≡ Some c.in-Some.kept.now = sym c.get_mut.ensures.value ∙ ap option_copied_mut c.in-Some.is in
    let there = held_over lent_key item_of_cell below_it over key c.in-Some.kept.now here in
    let new = c.get_mut.follows.lender c.renumber_kept.new.kept in
    let writes = c.get_mut.follows.holds c.renumber_kept.new.kept in
    let updates = writes.3 (subst IsSome c.in-Some.ensures.value refl) in
    laid-put lent_key item_of_cell below_it c.args.self.now.over new key c.renumber_kept.new.kept updates
    ∙ c.renumber_kept.ensures.kept (laid_over lent_key item_of_cell below_it over) c.requires there

pub returns-in-Some-clause-meter : goal.returns-in-Some-clause-meter
returns-in-Some-clause-meter c =
    let below_it = below c.args.self.now.base c.args.self.now.marks.items in
    let over = c.args.self.now.over.entries in
    let key = c.args.key.now in
    let here : entry_at lent_key over key ≡ Some c.in-Some.kept.now = sym c.get_mut.ensures.value ∙ ap option_copied_mut c.in-Some.is in
    let there = held_over lent_key item_of_cell below_it over key c.in-Some.kept.now here in
    c.renumber_kept.ensures.meter (laid_over lent_key item_of_cell below_it over) c.requires there

-- A KEY THAT ISN'T HELD
pub returns-in_default-under-clause-reply : goal.returns-in_default-under-clause-reply
returns-in_default-under-clause-reply c =
    let below_it = below c.args.self.now.base c.args.self.now.marks.items in
    let over = c.args.self.now.over.entries in
    let key = c.args.key.now in
    let absent : entry_at lent_key over key ≡ None = sym c.get_mut.ensures.value ∙ ap option_copied_mut c.in_default.is in
    let none = held_under lent_key item_of_cell below_it over key absent ∙ sym c.under.ensures ∙ ap option_copied c.in_default-under.is in
    sym (ap (λ (e : Effect). e.reply) (not_held c.args.meter.now.limits (laid_over lent_key item_of_cell below_it over) c.args.unique key c.args.delta none))

pub returns-in_default-under-clause-table : goal.returns-in_default-under-clause-table
returns-in_default-under-clause-table c =
    let below_it = below c.args.self.now.base c.args.self.now.marks.items in
    let over = c.args.self.now.over.entries in
    let key = c.args.key.now in
    let absent : entry_at lent_key over key ≡ None = sym c.get_mut.ensures.value ∙ ap option_copied_mut c.in_default.is in
    let none = held_under lent_key item_of_cell below_it over key absent ∙ sym c.under.ensures ∙ ap option_copied c.in_default-under.is in
    ap (layers c.args.self.now.base c.args.self.now.marks.items) c.get_mut.follows.holds-at-none
    ∙ sym (ap (λ (e : Effect). e.table) (not_held c.args.meter.now.limits (laid_over lent_key item_of_cell below_it over) c.args.unique key c.args.delta none))

pub returns-in_default-under-clause-meter : goal.returns-in_default-under-clause-meter
returns-in_default-under-clause-meter c =
    let below_it = below c.args.self.now.base c.args.self.now.marks.items in
    let over = c.args.self.now.over.entries in
    let key = c.args.key.now in
    let table = laid_over lent_key item_of_cell below_it over in
    let absent : entry_at lent_key over key ≡ None = sym c.get_mut.ensures.value ∙ ap option_copied_mut c.in_default.is in
    let none = held_under lent_key item_of_cell below_it over key absent ∙ sym c.under.ensures ∙ ap option_copied c.in_default-under.is in
    subst (λ (e : Effect). IsMeterBy None c.args.meter.now.limits table e) (sym (not_held c.args.meter.now.limits table c.args.unique key c.args.delta none)) (refl, tt, refl)

-- NUMBERS OF THE BASE
pub returns-then-is_none-clause-reply : goal.returns-then-is_none-clause-reply
returns-then-is_none-clause-reply c =
    let below_it = below c.args.self.now.base c.args.self.now.marks.items in
    let over = c.args.self.now.over.entries in
    let key = c.args.key.now in
    let table = laid_over lent_key item_of_cell below_it over in
    let absent : entry_at lent_key over key ≡ None = sym c.get_mut.ensures.value ∙ ap option_copied_mut c.in_default.is in
    let there = held_under lent_key item_of_cell below_it over key absent ∙ sym c.under.ensures ∙ ap option_copied c.in-Some-under.is ∙ ap Some (sym c.lent-kept.ensures) in
    c.renumber_kept-reply.ensures.reply table c.requires there

pub returns-then-is_none-clause-table : goal.returns-then-is_none-clause-table
returns-then-is_none-clause-table c =
    let below_it = below c.args.self.now.base c.args.self.now.marks.items in
    let over = c.args.self.now.over.entries in
    let key = c.args.key.now in
    let table = laid_over lent_key item_of_cell below_it over in
    let absent : entry_at lent_key over key ≡ None = sym c.get_mut.ensures.value ∙ ap option_copied_mut c.in_default.is in
    let there = held_under lent_key item_of_cell below_it over key absent ∙ sym c.under.ensures ∙ ap option_copied c.in-Some-under.is ∙ ap Some (sym c.lent-kept.ensures) in
    let effect = renumbered_at c.args.meter.now.limits table c.args.unique key c.args.delta in
    let none = leaves c.renumber_kept-reply.result.1 c.args.meter.now.limits table effect (c.renumber_kept-reply.ensures.meter table c.requires there) (c.is_none.ensures ∙ ap not c.if-is_none.true) in
    ap (layers c.args.self.now.base c.args.self.now.marks.items) c.get_mut.follows.holds-at-none ∙ sym none.2

pub returns-then-is_none-clause-meter : goal.returns-then-is_none-clause-meter
returns-then-is_none-clause-meter c =
    let below_it = below c.args.self.now.base c.args.self.now.marks.items in
    let over = c.args.self.now.over.entries in
    let key = c.args.key.now in
    let table = laid_over lent_key item_of_cell below_it over in
    let absent : entry_at lent_key over key ≡ None = sym c.get_mut.ensures.value ∙ ap option_copied_mut c.in_default.is in
    let there = held_under lent_key item_of_cell below_it over key absent ∙ sym c.under.ensures ∙ ap option_copied c.in-Some-under.is ∙ ap Some (sym c.lent-kept.ensures) in
    let effect = renumbered_at c.args.meter.now.limits table c.args.unique key c.args.delta in
    leaves c.renumber_kept-reply.result.1 c.args.meter.now.limits table effect (c.renumber_kept-reply.ensures.meter table c.requires there) (c.is_none.ensures ∙ ap not c.if-is_none.true)

pub returns-in_err-put-clause-granted : goal.returns-in_err-put-clause-granted
returns-in_err-put-clause-granted c =
    let below_it = below c.args.self.now.base c.args.self.now.marks.items in
    let over = c.args.self.now.over.entries in
    let key = c.args.key.now in
    let table = laid_over lent_key item_of_cell below_it over in
    let absent : entry_at lent_key over key ≡ None = sym c.get_mut.ensures.value ∙ ap option_copied_mut c.in_default.is in
    let there = held_under lent_key item_of_cell below_it over key absent ∙ sym c.under.ensures ∙ ap option_copied c.in-Some-under.is ∙ ap Some (sym c.lent-kept.ensures) in
    let meter = c.renumber_kept-reply.ensures.meter table c.requires there in
    if_err c.from_residual.result (accepts _ (sym meter.0 ∙ c.is_none.ensures ∙ ap not c.if-is_none.false))

pub returns-clause-reply : goal.returns-clause-reply
returns-clause-reply c =
    let below_it = below c.args.self.now.base c.args.self.now.marks.items in
    let over = c.args.self.now.over.entries in
    let key = c.args.key.now in
    let table = laid_over lent_key item_of_cell below_it over in
    let absent : entry_at lent_key over key ≡ None = sym c.get_mut.ensures.value ∙ ap option_copied_mut c.in_default.is in
    let there = held_under lent_key item_of_cell below_it over key absent ∙ sym c.under.ensures ∙ ap option_copied c.in-Some-under.is ∙ ap Some (sym c.lent-kept.ensures) in
    c.renumber_kept-reply.ensures.reply table c.requires there

pub returns-clause-table : goal.returns-clause-table
returns-clause-table c =
    let below_it = below c.args.self.now.base c.args.self.now.marks.items in
    let over = c.args.self.now.over.entries in
    let key = c.args.key.now in
    let table = laid_over lent_key item_of_cell below_it over in
    let absent : entry_at lent_key over key ≡ None = sym c.get_mut.ensures.value ∙ ap option_copied_mut c.in_default.is in
    let there = held_under lent_key item_of_cell below_it over key absent ∙ sym c.under.ensures ∙ ap option_copied c.in-Some-under.is ∙ ap Some (sym c.lent-kept.ensures) in
    let kept = item_of_cell c.renumber_kept-reply.new.kept in
    let same = ap (layers c.args.self.now.base c.args.self.now.marks.items) c.get_mut.follows.holds-at-none in
    c.in_ok-put.ensures.put ∙ ap (λ (t : Table). map.insert t key kept) same ∙ c.renumber_kept-reply.ensures.kept table c.requires there

pub returns-clause-meter : goal.returns-clause-meter
returns-clause-meter c =
    let below_it = below c.args.self.now.base c.args.self.now.marks.items in
    let over = c.args.self.now.over.entries in
    let key = c.args.key.now in
    let table = laid_over lent_key item_of_cell below_it over in
    let absent : entry_at lent_key over key ≡ None = sym c.get_mut.ensures.value ∙ ap option_copied_mut c.in_default.is in
    let there = held_under lent_key item_of_cell below_it over key absent ∙ sym c.under.ensures ∙ ap option_copied c.in-Some-under.is ∙ ap Some (sym c.lent-kept.ensures) in
    c.renumber_kept-reply.ensures.meter table c.requires there
