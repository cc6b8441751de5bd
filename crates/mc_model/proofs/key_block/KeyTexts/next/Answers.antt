use Rattle.std.proofs.Common.{◌≡◌, ◌∷◌, ◌++◌, drop, take, None, ap, subst, sym, ◌∙◌}
use Rattle.mc_model.specs.Key.{is_lawful_key}
use Rattle.mc_model.specs.KeyBlocks.{IsKeyBlock, lone_key, keys_in}
use Rattle.mc_model.proofs.Blocks.{begins}
use Rattle.mc_model.proofs.key_block.KeyTexts.next.Goals as goal

pub invariant_of-self-2 : goal.invariant_of-self-2
invariant_of-self-2 c =
    let count = c.self.inside.count in
    let len = c.in_ok-len.len.now in
    let bytes = c.in_ok-len.bytes.now in
    let first = begins count len bytes (subst (IsKeyBlock count) c.in_ok-len.ensures.cases.0 c.self.invariant) in
    let rest : c.split_at.result.1.now ≡ drop len bytes = c.split_at.ensures.back ∙ ap (λ n. drop n bytes) c.from.ensures in
    subst (λ n. IsKeyBlock n c.split_at.result.1.now) (sym first.one_less) (subst (IsKeyBlock first.less) (sym rest) first.rest)

pub returns : goal.returns
returns c =
    let count = c.self.inside.count in
    let len = c.in_ok-len.len.now in
    let bytes = c.in_ok-len.bytes.now in
    let first = begins count len bytes (subst (IsKeyBlock count) c.in_ok-len.ensures.cases.0 c.self.invariant) in
    let text : c.split_at.result.0.now ≡ take len bytes = c.split_at.ensures.front ∙ ap (λ n. take n bytes) c.from.ensures in
    let rest : c.split_at.result.1.now ≡ drop len bytes = c.split_at.ensures.back ∙ ap (λ n. drop n bytes) c.from.ensures in
    let none : c.self.inside.single ≡ None = c.in_default.is in
    let held = sym c.self.view_is ∙ (λ i. lone_key (none i) ++ keys_in count (c.in_ok-len.ensures.cases.0 i)) ∙ first.keys in
    (held ∙ (λ i. sym text i ∷ (lone_key (sym none i) ++ keys_in (sym first.one_less i) (sym rest i))), ap is_lawful_key text ∙ first.lawful)
