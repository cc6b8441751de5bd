use Rattle.std.proofs.Common.{◌≡◌, ◌≤◌, true, false, length, Some, rules}
use Rattle.mc_model.specs.declared.key.Key.{Key}
use Rattle.mc_tables.specs.Layers.{owned_table, placed}
use Rattle.mc_tables.proofs.Copying.{all_removed, none_removed, one_removed, one_stays}
use Rattle.mc_tables.specs.Marks.{is_set}
use Rattle.mc_tables.proofs.Layering.{place_of}
use Rattle.mc_tables.proofs.copied.copy_unmarked.Goals as goal
use Rattle.mc_tables.proofs.copied.copy_unmarked.Goals.{then-is_set+in-Some, then-is_set+in_default, else-is_set}

pub loop-place-init : goal.loop-place-init
loop-place-init c = none_removed (owned_table c.args.base.now) (owned_table c.in_ok-copy.copy) (placed c.args.base.now) c.args.marks.now c.in_ok-copy.ensures.same

pub returns-clause-left : goal.returns-clause-left
returns-clause-left c =
    let base = c.args.base.now in
    let past : length (placed base) ≤ c.loop-place.place = search rules in
    all_removed (owned_table base) (owned_table c.loop-place.copy) (placed base) c.args.marks.now c.loop-place.place past c.loop-place.invariant

pub loop-place-preserved : goal.loop-place-preserved
loop-place-preserved c =
    let table = owned_table c.args.base.now in
    let held = placed c.args.base.now in
    let marks = c.args.marks.now in
    let place = c.loop-place.place in
    let copy = owned_table c.loop-place.copy in
    elim c.if-is_set.branch [
      | then-is_set+in-Some w ↦
          let yes : is_set marks place ≡ true = search rules in
          let removed = one_removed table copy (owned_table w.take_out.new.self) held marks place w.in-Some.key.now c.loop-place.invariant w.in-Some.ensures.own yes w.take_out.ensures in
          rw w.copy-is removed
      | then-is_set+in_default w ↦
          let nowhere : (key : Key) → place_of held key ≡ Some place → ⊥ = search rules in
          let stays = one_stays table copy held marks place c.loop-place.invariant (λ q at. absurd (nowhere q at)) in
          rw w.copy-is stays
      | else-is_set w ↦
          let no : is_set marks place ≡ false = search rules in
          let stays = one_stays table copy held marks place c.loop-place.invariant (λ q at. no) in
          rw w.copy-is stays
    ]
