use Rattle.std.proofs.Common.{◌≡◌, length}
use Rattle.std.specs.List.{list_all}
use Rattle.mc_model.specs.Key.{is_lawful_key}
use Rattle.mc_read.proofs.without_block.size_of_keys.Given as goal

-- the words so far are valid, so all are if those are that are left
abbrev pub invariant-loop-word : goal.invariant-loop-word
invariant-loop-word l = list_all is_lawful_key l.words ≡ list_all is_lawful_key l.fn.words

abbrev pub decreases-loop-word : goal.decreases-loop-word
decreases-loop-word l = length l.words
