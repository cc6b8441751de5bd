use Rattle.std.proofs.Common.{◌≡◌, ℕ, ◌+◌, ◌-◌, length, Option, Some, None, Bor, ap, sym, subst, ◌∙◌, arith}
use Rattle.std.specs.Option.{option_map}
use Rattle.mc_model.specs.declared.item.Item.{Item}
use Rattle.mc_tables.specs.declared.base.Base.{Base}
use Rattle.mc_tables.specs.Layers.{base_entries}
use Rattle.mc_tables.proofs.Layering.{place_of}
use Rattle.mc_tables.proofs.Places.{no_place, place_first, place_later}
use Rattle.mc_tables.proofs.owned.Owned.key_at.Goals as goal

pub returns-then-place-changed-clause-own : goal.returns-then-place-changed-clause-own
returns-then-place-changed-clause-own c =
    let self = c.args.self.now in
    place_first self.changes.held.entries (base_entries self.base) c.entry.result.0.now c.args.place c.entry.ensures.place

pub returns-in-None-clause-own : goal.returns-in-None-clause-own
returns-in-None-clause-own c =
    let self = c.args.self.now in
    let front = self.changes.held.entries in
    let text = c.key-key.result.now in
    let below = c.args.place - c.len-changed.result in
    let none : place_of front text ≡ None = sym c.place.ensures.place ∙ ap (option_map (λ (p : ℕ × Bor Item). p.0)) c.in-None.is in
    let last : place_of (base_entries self.base) text ≡ Some below = subst (λ (b : Option Base). place_of (base_entries b) text ≡ Some below) (sym c.in-Some.is) c.key-key.ensures in
    let total : length front + below ≡ c.args.place = omega (arith, c.if-place-changed.false, c.len-changed.ensures.len) in
    place_later front (base_entries self.base) text below none last ∙ ap Some total

pub returns-in-Some-place-clause-none : goal.returns-in-Some-place-clause-none
returns-in-Some-place-clause-none c = λ key at.
    let self = c.args.self.now in
    let front = self.changes.held.entries in
    let text = c.key-key.result.now in
    let below = c.args.place - c.len-changed.result in
    let first : place_of front text ≡ Some c.in-Some-place.field-0.0 = sym c.place.ensures.place ∙ ap (option_map (λ (p : ℕ × Bor Item). p.0)) c.in-Some-place.is in
    let last : place_of (base_entries self.base) text ≡ Some below = subst (λ (b : Option Base). place_of (base_entries b) text ≡ Some below) (sym c.in-Some.is) c.key-key.ensures in
    let total : length front + below ≡ c.args.place = omega (arith, c.if-place-changed.false, c.len-changed.ensures.len) in
    no_place front (base_entries self.base) text key c.in-Some-place.field-0.0 below first last (at ∙ ap Some (sym total))
