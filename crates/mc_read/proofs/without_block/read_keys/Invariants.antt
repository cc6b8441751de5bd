use Rattle.std.proofs.Common.{◌≡◌, ◌++◌, true, length}
use Rattle.std.specs.List.{list_all}
use Rattle.mc_model.specs.Key.{is_lawful_key}
use Rattle.mc_read.proofs.without_block.read_keys.Given as goal

-- the keys so far and the words that are left, which are valid, are all words
abbrev pub invariant-loop-word : goal.invariant-loop-word
invariant-loop-word l = record {
  keys : l.keys ++ l.words ≡ l.fn.words;
  lawful : list_all is_lawful_key l.words ≡ true;
}

abbrev pub decreases-loop-word : goal.decreases-loop-word
decreases-loop-word l = length l.words
