use Rattle.std.proofs.Common.{◌≡◌, ℕ, true, List, [], ◌∷◌, ◌++◌, if◌then◌else◌, length, append_assoc, ap, sym, ◌∙◌, arith, rules}
use Rattle.mc_model.specs.declared.key.Key.{Key}
use Rattle.mc_model.specs.Key.{is_lawful_key}
use Rattle.mc_model.specs.KeyBlocks.{keys_in}
use Rattle.mc_model.proofs.Blocks.{few, keys_pushed, pushed}
use Rattle.mc_model.proofs.key_block.KeyBlock.push.Goals as goal

pub overflow_add-self : goal.overflow_add-self
overflow_add-self c =
    let kept = few (keys_in c.self.inside.count c.self.inside.bytes.items) in
    let many = c.self.invariant.many in
    let whole = ap (λ (bytes : List ℕ). length bytes) c.self.invariant.whole in
    omega (arith, kept, many, whole, c.self.ranges)

pub invariant_of-self-2 : goal.invariant_of-self-2
invariant_of-self-2 c =
    let bytes = c.self.inside.bytes.items in
    let key = c.args.key.now in
    let lawful : is_lawful_key key ≡ true = search rules in
    let one : c.push.new.self.items ≡ bytes ++ length key ∷ [] = search rules in
    let two : c.extend_from_slice.new.self.items ≡ c.push.new.self.items ++ key = search rules in
    pushed c.self.inside.count bytes c.extend_from_slice.new.self.items key c.self.invariant
    (two ∙ ap (λ (list : List ℕ). list ++ key) one ∙ append_assoc bytes (length key ∷ []) key) lawful

pub returns-clause-keys : goal.returns-clause-keys
returns-clause-keys c =
    let bytes = c.self.inside.bytes.items in
    let key = c.args.key.now in
    let lawful : is_lawful_key key ≡ true = search rules in
    let one : c.push.new.self.items ≡ bytes ++ length key ∷ [] = search rules in
    let two : c.extend_from_slice.new.self.items ≡ c.push.new.self.items ++ key = search rules in
    keys_pushed c.self.inside.count bytes c.extend_from_slice.new.self.items key c.self.invariant
    (two ∙ ap (λ (list : List ℕ). list ++ key) one ∙ append_assoc bytes (length key ∷ []) key)
    ∙ ap (λ (keys : List Key). keys ++ key ∷ []) c.self.view_is
    ∙ sym (ap (λ b. if b then c.args.self.now ++ key ∷ [] else c.args.self.now) lawful)
