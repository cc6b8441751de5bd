use Rattle.std.proofs.Common.{◌≡◌, ◌+◌, ◌≤◌, true, false, cond, drop, length, Some, ap, ◌∙◌, rules}
use Rattle.std.proofs.lemmas.List.{drop_all}
use Rattle.std.specs.Arc.{arc_value}
use Rattle.mc_model.specs.declared.key.Key.{Key}
use Rattle.mc_tables.specs.Entries.{is_marked, same_key}
use Rattle.mc_tables.specs.Maps.{map_table}
use Rattle.mc_tables.specs.Marks.{is_set}
use Rattle.mc_tables.proofs.Layering.{entry_at, place_of, same}
use Rattle.mc_tables.proofs.Copying.{all_copied_left, is_gone_from, none_copied_left, one_copied_left, one_gone}
use Rattle.mc_tables.proofs.base.Base.copy_into.Goals as goal
use Rattle.mc_tables.proofs.base.Base.copy_into.Goals.{then-not-is_set+in_ok-put_copy, else-not-is_set}

pub loop-place-init : goal.loop-place-init
loop-place-init c =
    none_copied_left (is_gone_from (arc_value c.args.self.now.items).held.entries c.args.self.now.marks.items) (map_table c.args.copy.now) (arc_value c.args.self.now.items).held.entries c.requires

pub returns-clause-left : goal.returns-clause-left
returns-clause-left c =
    let held = (arc_value c.args.self.now.items).held.entries in
    let place = c.loop-place.place in
    let past : length held ≤ place = search rules in
    all_copied_left c.args.self.now.marks.items (map_table c.loop-place.copy) (drop place held) held (drop_all place held past) c.loop-place.invariant

pub loop-place-preserved : goal.loop-place-preserved
loop-place-preserved c =
    let held = (arc_value c.args.self.now.items).held.entries in
    let marks = c.args.self.now.marks.items in
    let place = c.loop-place.place in
    let text = c.entry.result.0.now in
    let item = c.entry.result.1.now in
    let gone = is_gone_from held marks in
    let first : (q : Key) → entry_at same_key (drop place held) q ≡ cond (same q text) (Some item) (entry_at same_key (drop (place + 1) held) q) = rw c.deref-in-loop-place.ensures at c.entry.ensures.first in
    let at : place_of held text ≡ Some place = rw c.deref-in-loop-place.ensures at c.entry.ensures.place in
    let there : entry_at same_key held text ≡ Some item = rw c.deref-in-loop-place.ensures at c.entry.ensures.item in
    let read : is_set marks place ≡ c.is_set.result = search rules in
    let is : gone text ≡ c.is_set.result = ap (is_marked marks) at ∙ read in
    elim c.if-not-is_set.branch [
      | then-not-is_set+in_ok-put_copy w ↦
          let no : c.is_set.result ≡ false = search rules in
          let copied = one_copied_left gone (map_table c.loop-place.copy) (drop place held) (drop (place + 1) held) held text item c.loop-place.invariant first
          (map_table w.put_copy.new.self) (is ∙ no) there w.in_ok-put_copy.ensures.table in
          rw w.copy-is copied
      | else-not-is_set w ↦
          let yes : c.is_set.result ≡ true = search rules in
          let left = one_gone gone (map_table c.loop-place.copy) (drop place held) (drop (place + 1) held) held text item c.loop-place.invariant first (is ∙ yes) in
          rw w.copy-is left
    ]
