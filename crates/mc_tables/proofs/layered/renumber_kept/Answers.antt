use Rattle.std.proofs.Common.{ℕ, List, decimal, Option, None, Some, refl, sym, ap, subst, ◌∙◌}
use Rattle.std.specs.FinMap as map
use Rattle.std.specs.Option.{option_map}
use Rattle.mc_model.specs.declared.item.Item.{Item}
use Rattle.mc_model.specs.Effect.{Effect}
use Rattle.mc_tables.specs.declared.meter.Meter.{Meter}
use Rattle.mc_tables.specs.Entries.{item_of_cell}
use Rattle.mc_tables.specs.Found.{found_of}
use Rattle.mc_tables.specs.Meters.{IsMeterBy, IsMeterIf}
use Rattle.mc_tables.proofs.Layering.{insert_same}
use Rattle.mc_tables.proofs.Renumbering.{fits, full, not_numeric}
use Rattle.mc_tables.proofs.layered.renumber_kept.Goals as goal

pub returns-in_default-clause-kept : goal.returns-in_default-clause-kept
returns-in_default-clause-kept c table totals there =
    let old = item_of_cell c.args.kept.now in
    insert_same table c.args.key.now old there
    ∙ sym (ap (λ (e : Effect). e.table) (not_numeric c.args.meter.now.limits table c.args.unique c.args.key.now c.args.delta old there (sym c.number.ensures ∙ c.in_default.is)))

pub returns-in_default-with-clause-kept : goal.returns-in_default-with-clause-kept
returns-in_default-with-clause-kept c table totals there =
    let old = item_of_cell c.args.kept.now in
    let new : List ℕ → Item = λ block. record { flags = old.flags; block = block; unique = c.args.unique } in
    let spelled = c.from_number-block.ensures ∙ ap decimal c.after-next.ensures in
    let found = ap Some c.found_in.ensures ∙ sym (ap (option_map found_of) there) in
    let after = c.with.ensures table (new c.from_number-block.result) totals found (sym c.len.ensures.len) in
    let none = subst (λ (meter : Option Meter). IsMeterIf meter c.args.meter.now.limits (map.insert table c.args.key.now (new c.from_number-block.result))) c.in_default-with.is after in
    let above = subst (λ (block : List ℕ). IsMeterIf None c.args.meter.now.limits (map.insert table c.args.key.now (new block))) spelled none in
    insert_same table c.args.key.now old there
    ∙ sym (ap (λ (e : Effect). e.table) (full c.args.meter.now.limits table c.args.unique c.args.key.now c.args.delta old there c.in-Some.number (sym c.number.ensures ∙ c.in-Some.is) above))

pub returns-clause-meter : goal.returns-clause-meter
returns-clause-meter c table totals there =
    let old = item_of_cell c.args.kept.now in
    let new : List ℕ → Item = λ block. record { flags = old.flags; block = block; unique = c.args.unique } in
    let meter = Some c.in-Some-with.after in
    let spelled = c.from_number-block.ensures ∙ ap decimal c.after-next.ensures in
    let found = ap Some c.found_in.ensures ∙ sym (ap (option_map found_of) there) in
    let after = c.with.ensures table (new c.from_number-block.result) totals found (sym c.len.ensures.len) in
    let some = subst (λ (meter : Option Meter). IsMeterIf meter c.args.meter.now.limits (map.insert table c.args.key.now (new c.from_number-block.result))) c.in-Some-with.is after in
    let within = subst (λ (block : List ℕ). IsMeterIf meter c.args.meter.now.limits (map.insert table c.args.key.now (new block))) spelled some in
    let is = fits c.args.meter.now.limits table c.args.unique c.args.key.now c.args.delta old there c.in-Some.number c.in-Some-with.after (sym c.number.ensures ∙ c.in-Some.is) within in
    subst (λ (e : Effect). IsMeterBy meter c.args.meter.now.limits table e) (sym is) (refl, within.1, tt)
