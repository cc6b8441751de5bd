use Rattle.std.proofs.Common.{◌≡◌, ◌<◌, List, length, Some, slice_get, slice_set, sym, refl, ap, ◌∙◌, arith}
use Rattle.std.proofs.lemmas.Option.{slice_get_read}
use Rattle.uc_cells.specs.Sighting.{Sighting}
use Rattle.mc_replica.proofs.Places.{one_more_place, same_where_long, set_same}
use Rattle.mc_replica.proofs.replica.agree_all.Goals as goal

pub loop-place-preserved : goal.loop-place-preserved
loop-place-preserved c =
    let before = c.loop-place.invariant in
    let ones = c.loop-place.ones in
    let others = c.loop-place.others in
    let here = c.loop-place.place in
    let one = c.index-ones-place.result in
    let other = c.index-others-place.result in
    let long = ap (λ (all : List Sighting). length all) before.one in
    let long_others = ap (λ (all : List Sighting). length all) before.two in
    let inside : here < length ones = omega (arith, long, c.loop-place-test.true) in
    let inside_others : here < length others = omega (arith, long_others, c.requires.long, c.loop-place-test.true) in
    let at : slice_get ones here ≡ Some one = slice_get_read ones (length ones) here one refl inside c.index-ones-place.is in
    let at_others : slice_get others here ≡ Some other = slice_get_read others (length others) here other refl inside_others c.index-others-place.is in
    let agreed : one ≡ other = c.index-ones-place.is ∙ (c.agree.ensures.equal ∙ sym c.index-others-place.is) in
    let same = ap (λ (all : List Sighting). slice_get all here) (sym before.one) ∙ (at ∙ (ap Some agreed ∙ (sym at_others ∙ ap (λ (all : List Sighting). slice_get all here) before.two))) in
    record {
      one = ap (slice_set ones here) (c.agree.ensures.one ∙ sym c.index-ones-place.is) ∙ (set_same ones here one at ∙ before.one);
      two = ap (slice_set others here) (c.agree.ensures.two ∙ sym c.index-others-place.is) ∙ (set_same others here other at_others ∙ before.two);
      same = one_more_place _ _ here before.same same;
    }

pub returns-clause-equal : goal.returns-clause-equal
returns-clause-equal c =
    let test = c.loop-place-test.false in
    same_where_long c.args.ones.now c.args.others.now c.requires.long (λ place below. c.loop-place.invariant.same place (omega arith))
