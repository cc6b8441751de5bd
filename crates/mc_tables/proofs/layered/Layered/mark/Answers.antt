use Rattle.std.proofs.Common.{◌≡◌, ℕ, Option, Some, None, Bor, sym, ap, subst, ◌∙◌}
use Rattle.std.specs.FinMap as map
use Rattle.std.specs.FinMap.{get-empty}
use Rattle.mc_model.specs.Table.{key_cmp}
use Rattle.std.specs.Option.{option_map}
use Rattle.mc_model.specs.declared.item.Item.{Item}
use Rattle.mc_tables.specs.declared.owned.Owned.{Owned}
use Rattle.mc_tables.specs.Layers.{below, owned_table, placed}
use Rattle.mc_tables.proofs.Layering.{marked, needs_no_mark, nothing_there, place_of}
use Rattle.mc_tables.proofs.layered.Layered.mark.Goals as goal

pub returns-in-Some-place-clause-marked : goal.returns-in-Some-place-clause-marked
returns-in-Some-place-clause-marked c =
    let marks = c.args.self.now.marks.items in
    let key = c.args.key.now in
    let base = c.in-Some.base.now in
    let at : place_of (placed base) key ≡ Some c.in-Some-place.place = c.in-Some-place.ensures.place in
    subst (λ (b : Option (Bor Owned)). below b c.set.new.marks.items ≡ map.remove (below b marks) key) (sym c.in-Some.is)
    (marked (owned_table base) (placed base) marks c.set.new.marks.items key c.in-Some-place.place at c.set.ensures.set)

pub returns-in_default-place-clause-marked : goal.returns-in_default-place-clause-marked
returns-in_default-place-clause-marked c =
    let marks = c.args.self.now.marks.items in
    let key = c.args.key.now in
    let base = c.in-Some.base.now in
    let none : map.get (owned_table base) key ≡ None =
    sym c.place.ensures.item ∙ ap (option_map (λ (p : ℕ × Bor Item). p.1.now)) c.in_default-place.is in
    subst (λ (b : Option (Bor Owned)). below b marks ≡ map.remove (below b marks) key) (sym c.in-Some.is) (needs_no_mark (owned_table base) (placed base) marks key none)

pub returns-in_default-clause-marked : goal.returns-in_default-clause-marked
returns-in_default-clause-marked c =
    let marks = c.args.self.now.marks.items in
    let key = c.args.key.now in
    subst (λ (b : Option (Bor Owned)). below b marks ≡ map.remove (below b marks) key) (sym c.in_default.is) (nothing_there map.empty key (get-empty key_cmp key))
