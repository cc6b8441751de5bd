use Rattle.std.proofs.Common.{◌≡◌, ◌*◌, ◌/◌, ◌%◌, ◌^◌, ◌<◌, length, get_or, set, ap, ◌∙◌, arith}
use Rattle.std.proofs.lemmas.Nat.{one_shl}
use Rattle.std.specs.Int.Bits.{bit_or}
use Rattle.mc_tables.specs.Marks.{is_set}
use Rattle.mc_tables.proofs.Bits.{any_default, one_set}
use Rattle.mc_tables.proofs.marks.set.Goals as goal

pub returns-clause-set : goal.returns-clause-set
returns-clause-set c = λ other.
    let marks = c.args.marks.now.items in
    let place = c.args.place in
    let word = c.index-word.result.now in
    let inside : place / 64 < length marks = omega (arith, c.requires) in
    let bit : (1 * 2 ^ (place % 64)) % 2 ^ 64 ≡ 2 ^ (place % 64) = one_shl (place % 64) 64 (omega arith) in
    let is : word ≡ get_or marks (place / 64) 0 = c.index-word.ensures ∙ any_default marks (place / 64) word 0 inside in
    ap (λ b. is_set (set marks (place / 64) (bit_or word b)) other) bit ∙ one_set marks place word other inside is
