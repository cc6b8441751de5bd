use Rattle.std.proofs.Common.{◌≡◌, nat_eq, subst, sym, ◌∙◌}
use Rattle.std.specs.Cmp.Lexicographic.{pointwise}
use Rattle.mc_model.specs.KeyBlocks.{IsKeyBlock, keys_in}
use Rattle.mc_model.proofs.Blocks.{same_blocks}
use Rattle.mc_model.proofs.key_block.KeyBlockPartialEq.eq.Goals as goal

pub returns-then-self-other : goal.returns-then-self-other
returns-then-self-other c =
    let mine = c.self.inside in
    let its = c.other.inside in
    let many : its.count ≡ mine.count = sym c.if-self-other.true in
    c.eq.ensures ∙ same_blocks mine.count mine.bytes.items its.bytes.items c.self.invariant (subst (λ n. IsKeyBlock n its.bytes.items) many c.other.invariant)
    ∙ (λ i. pointwise (pointwise nat_eq) (c.self.view_is i) (keys_in (sym many i) its.bytes.items))
    ∙ (λ i. pointwise (pointwise nat_eq) c.args.self.now (c.other.view_is i))
