use Rattle.std.proofs.Common.{All, subst}
use Rattle.std.proofs.lemmas.List.Elements.{All-head, All-push, All-rest}
use Rattle.uc_places_tests.specs.Places.{IsSeenIn}
use Rattle.uc_places_tests.proofs.cells.threads.agreed.Goals as goal

pub loop-one-preserved : goal.loop-one-preserved
loop-one-preserved g c =
    let steps = c.in-Some.ensures.steps in
    let before = c.loop-one.invariant in
    let ones = All-rest (IsSeenIn c.args.cells.now) c.in-Some.one _ _ steps.0.0 before.1 in
    let others = All-rest (IsSeenIn c.args.cells.now) c.in-Some.other _ _ steps.1.0 before.2 in
    let one = All-head (IsSeenIn c.args.cells.now) c.in-Some.one _ (subst (All (IsSeenIn c.args.cells.now)) steps.0.0 before.1) in
    (rw (c.in_ok-push.ensures.items, c.assert_agreed.ensures) (All-push (IsSeenIn c.args.cells.now) _ _ before.0 one), ones, others)
