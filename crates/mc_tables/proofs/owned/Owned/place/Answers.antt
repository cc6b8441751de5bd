use Rattle.std.proofs.Common.{◌≡◌, ℕ, ◌+◌, Option, Some, None, Bor, ap, sym, subst, ◌∙◌}
use Rattle.std.specs.FinMap as map
use Rattle.std.specs.Option.{option_map}
use Rattle.mc_model.specs.declared.item.Item.{Item}
use Rattle.mc_tables.specs.declared.base.Base.{Base}
use Rattle.mc_tables.specs.Layers.{base_entries, left}
use Rattle.mc_tables.specs.Maps.{map_table}
use Rattle.mc_tables.proofs.Layering.{item_over, item_under, place_of}
use Rattle.mc_tables.proofs.Places.{place_first, place_later}
use Rattle.mc_tables.proofs.owned.Owned.place.Goals as goal

pub returns-in-Some-clause-item : goal.returns-in-Some-clause-item
returns-in-Some-clause-item c =
    let self = c.args.self.now in
    let there = sym c.place.ensures.item ∙ ap (option_map (λ (p : ℕ × Bor Item). p.1.now)) c.in-Some.is in
    sym (item_over (left self.base) self.changes.held.entries c.args.key.now c.in-Some.item.now there)

pub returns-in-Some-clause-place : goal.returns-in-Some-clause-place
returns-in-Some-clause-place c =
    let self = c.args.self.now in
    let at = sym c.place.ensures.place ∙ ap (option_map (λ (p : ℕ × Bor Item). p.0)) c.in-Some.is in
    place_first self.changes.held.entries (base_entries self.base) c.args.key.now c.in-Some.place at

pub returns-in-Some-place-clause-item : goal.returns-in-Some-place-clause-item
returns-in-Some-place-clause-item c =
    let self = c.args.self.now in
    let text = c.args.key.now in
    let absent : map.get (map_table self.changes) text ≡ None = sym c.place.ensures.item ∙ ap (option_map (λ (p : ℕ × Bor Item). p.1.now)) c.in_default.is in
    sym (item_under (left self.base) self.changes.held.entries text absent ∙ ap (λ (b : Option Base). map.get (left b) text) c.in-Some-base.is
    ∙ sym c.place-2.ensures.item ∙ ap (option_map (λ (p : ℕ × Bor Item). p.1.now)) c.in-Some-place.is)

pub returns-in-Some-place-clause-place : goal.returns-in-Some-place-clause-place
returns-in-Some-place-clause-place c =
    let self = c.args.self.now in
    let text = c.args.key.now in
    let place = c.in-Some-place.place in
    let none : place_of self.changes.held.entries text ≡ None = sym c.place.ensures.place ∙ ap (option_map (λ (p : ℕ × Bor Item). p.0)) c.in_default.is in
    let last : place_of (base_entries self.base) text ≡ Some place = subst (λ (b : Option Base). place_of (base_entries b) text ≡ Some place) (sym c.in-Some-base.is) c.in-Some-place.ensures.place in
    place_later self.changes.held.entries (base_entries self.base) text place none last ∙ ap (λ n. Some (n + place)) (sym c.len.ensures.len)

pub returns-in-None-clause-item : goal.returns-in-None-clause-item
returns-in-None-clause-item c =
    let self = c.args.self.now in
    let text = c.args.key.now in
    let absent : map.get (map_table self.changes) text ≡ None = sym c.place.ensures.item ∙ ap (option_map (λ (p : ℕ × Bor Item). p.1.now)) c.in_default.is in
    sym (item_under (left self.base) self.changes.held.entries text absent ∙ ap (λ (b : Option Base). map.get (left b) text) c.in-Some-base.is
    ∙ sym c.place-2.ensures.item ∙ ap (option_map (λ (p : ℕ × Bor Item). p.1.now)) c.in-None.is)
