use Rattle.std.proofs.Common.{◌≡◌, ℕ, true, false, Option, Some, None, Bor, sym, ap, ◌∙◌, rules}
use Rattle.std.specs.FinMap as map
use Rattle.std.specs.FinMap.{get-empty}
use Rattle.mc_model.specs.Table.{key_cmp}
use Rattle.std.specs.Option.{option_map}
use Rattle.mc_model.specs.declared.item.Item.{Item}
use Rattle.mc_tables.specs.declared.owned.Owned.{Owned}
use Rattle.mc_tables.specs.Layers.{below, owned_table, placed}
use Rattle.mc_tables.specs.Marks.{is_set}
use Rattle.mc_tables.proofs.Layering.{place_of, under_none, under_some}
use Rattle.mc_tables.proofs.layered.Layered.under.Goals as goal

pub returns-in-None : goal.returns-in-None
returns-in-None c =
    let marks = c.args.self.now.marks.items in
    let key = c.args.key.now in
    sym (ap (λ (b : Option (Bor Owned)). map.get (below b marks) key) c.in-None.is ∙ get-empty key_cmp key)

pub returns-in-None-place : goal.returns-in-None-place
returns-in-None-place c =
    let marks = c.args.self.now.marks.items in
    let key = c.args.key.now in
    let base = c.in-Some.base.now in
    let none : map.get (owned_table base) key ≡ None =
    sym c.place.ensures.item ∙ ap (option_map (λ (p : ℕ × Bor Item). p.1.now)) c.in-None-place.is in
    sym (ap (λ (b : Option (Bor Owned)). map.get (below b marks) key) c.in-Some.is ∙ under_none (owned_table base) (placed base) marks key none)

pub returns-then-is_set : goal.returns-then-is_set
returns-then-is_set c =
    let marks = c.args.self.now.marks.items in
    let key = c.args.key.now in
    let base = c.in-Some.base.now in
    let place = c.in-Some-place.place in
    let item = c.in-Some-place.item.now in
    let there : map.get (owned_table base) key ≡ Some item =
    sym c.place.ensures.item ∙ ap (option_map (λ (p : ℕ × Bor Item). p.1.now)) c.in-Some-place.is in
    let at : place_of (placed base) key ≡ Some place = c.in-Some-place.ensures.place in
    let yes : is_set marks place ≡ true = search rules in
    sym (ap (λ (b : Option (Bor Owned)). map.get (below b marks) key) c.in-Some.is ∙ under_some (owned_table base) (placed base) marks key place item true there at yes)

pub returns-else-is_set : goal.returns-else-is_set
returns-else-is_set c =
    let marks = c.args.self.now.marks.items in
    let key = c.args.key.now in
    let base = c.in-Some.base.now in
    let place = c.in-Some-place.place in
    let item = c.in-Some-place.item.now in
    let there : map.get (owned_table base) key ≡ Some item =
    sym c.place.ensures.item ∙ ap (option_map (λ (p : ℕ × Bor Item). p.1.now)) c.in-Some-place.is in
    let at : place_of (placed base) key ≡ Some place = c.in-Some-place.ensures.place in
    let no : is_set marks place ≡ false = search rules in
    sym (ap (λ (b : Option (Bor Owned)). map.get (below b marks) key) c.in-Some.is ∙ under_some (owned_table base) (placed base) marks key place item false there at no)
