use Rattle.std.proofs.Common.{◌≡◌, ◌+◌, true, false, ◌∷◌, [], ◌++◌, take, Some, sym, ◌∙◌, ap, subst, arith}
use Rattle.mc_schedules.specs.Draft.{IsDraftOf}
use Rattle.mc_schedules.specs.Place.{Statement, is_in_place}
use Rattle.mc_schedules.specs.Schedule.{BadLine}
use Rattle.mc_schedules.proofs.Lines.{all_of, ends, goes_on, next_taken, one_of, stops}
use Rattle.mc_schedules.proofs.schedule.read_lines.Goals as goal
use Rattle.mc_schedules.proofs.schedule.read_lines.Goals.{in_default-via-in-Some+else-has_place_for, in_default-via-in_default}

pub returns-in_default-clause-reading : goal.returns-in_default-clause-reading
returns-in_default-clause-reading c =
    let lines = c.args.lines.now in
    let i = c.loop-line.line-index in
    let before = take i (all_of lines) in
    let misplaced : is_in_place before (one_of lines i).1 ≡ false =
    elim c.in_default.branch [
      | in_default-via-in-Some+else-has_place_for w ↦
          ap (is_in_place before) (sym c.in_ok-said.ensures.said ∙ w.in-Some.is)
          ∙ (sym (w.has_place_for.ensures before c.loop-line.invariant.draft) ∙ w.if-has_place_for.false)
      | in_default-via-in_default w ↦ ap (is_in_place before) (sym c.in_ok-said.ensures.said ∙ w.in_default.is)
    ] in
    ap BadLine (omega (arith, c.loop-line.invariant.number)) ∙ stops lines i c.loop-line-test.true c.loop-line.invariant.in_place misplaced

pub loop-line-preserved : goal.loop-line-preserved
loop-line-preserved c =
    let lines = c.args.lines.now in
    let i = c.loop-line.line-index in
    let before = take i (all_of lines) in
    let fits : is_in_place before (Some c.in-Some.said) ≡ true = sym (c.has_place_for.ensures before c.loop-line.invariant.draft) ∙ c.if-has_place_for.true in
    let says : (one_of lines i).1 ≡ Some c.in-Some.said = sym c.in_ok-said.ensures.said ∙ c.in-Some.is in
    let number : c.loop-line.number + 1 ≡ 1 + i = omega (arith, c.loop-line.invariant.number) in
    let one : Statement = (c.loop-line.number + 1, Some c.in-Some.said) in
    let one_is : one ≡ one_of lines i = λ j. (number j, sym says j) in
    record {
      number = omega (arith, c.loop-line.invariant.number);
      draft =
          subst (IsDraftOf c.add.new.self) (ap (λ (other : Statement). before ++ other ∷ []) one_is ∙ sym (next_taken lines i c.loop-line-test.true))
          (c.in_ok-add-in-Some.ensures.draft before c.loop-line.invariant.draft fits);
      in_place = c.loop-line.invariant.in_place ∙ goes_on lines i c.loop-line-test.true (ap (is_in_place before) says ∙ fits);
    }

pub returns-clause-reading : goal.returns-clause-reading
returns-clause-reading c =
    let lines = c.args.lines.now in
    let i = c.loop-line.line-index in
    c.finish.ensures (take i (all_of lines)) c.loop-line.invariant.draft ∙ ends lines i (omega (arith, c.loop-line-test.false)) c.loop-line.invariant.in_place
