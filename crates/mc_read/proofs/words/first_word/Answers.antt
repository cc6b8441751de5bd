use Rattle.std.proofs.Common.{◌<◌, [], length, sym, ◌∙◌, rules}
use Rattle.mc_read.proofs.Splits.{word_joins}
use Rattle.mc_read.proofs.words.first_word.Goals as goal

pub returns-then-not-is_empty : goal.returns-then-not-is_empty
returns-then-not-is_empty c =
    let some : 0 < length c.split_at_space.result.0.now = search rules in
    sym c.loop-rest.invariant ∙ sym (word_joins [] c.loop-rest.rest.now c.split_at_space.result.0.now c.split_at_space.result.1.now c.split_at_space.ensures.front c.split_at_space.ensures.back some)
