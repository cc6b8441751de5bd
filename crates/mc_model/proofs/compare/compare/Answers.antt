use Rattle.std.proofs.Common.{◌≡◌, ◌+◌, ◌*◌, drop, sym, ap, ◌∙◌, arith}
use Rattle.std.specs.Cmp.Lexicographic.{slice_cmp}
use Rattle.std.specs.Ordering.{nat_cmp}
use Rattle.mc_model.proofs.Places.{slice_cmp-onward, differing-decide, equal-leave}
use Rattle.mc_model.proofs.compare.compare.Goals as goal

pub returns-then-left-right : goal.returns-then-left-right
returns-then-left-right c =
    let next = slice_cmp-onward 8 (8 * c.loop-word.word) _ _ c.args.one.now c.args.other.now (omega arith) (omega arith) (λ k. (c.type_inv.one k).fits) (λ k. (c.type_inv.other k).fits)
    c.loop-word.invariant c.read_eight-left.ensures c.read_eight-right.ensures in
    c.cmp.ensures ∙ sym (next ∙ differing-decide _ _ _ c.if-left-right.true)

pub loop-word-preserved : goal.loop-word-preserved
loop-word-preserved c =
    let at : 8 * c.loop-word.word + 8 ≡ 8 * (c.loop-word.word + 1) = omega arith in
    let next = slice_cmp-onward 8 (8 * c.loop-word.word) _ _ c.args.one.now c.args.other.now (omega arith) (omega arith) (λ k. (c.type_inv.one k).fits) (λ k. (c.type_inv.other k).fits)
    c.loop-word.invariant c.read_eight-left.ensures c.read_eight-right.ensures in
    next ∙ equal-leave _ _ _ c.if-left-right.false ∙ ap (λ k. slice_cmp nat_cmp (drop k c.args.one.now) (drop k c.args.other.now)) at
