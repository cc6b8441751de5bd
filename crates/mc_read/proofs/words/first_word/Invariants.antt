use Rattle.std.proofs.Common.{◌≡◌, length}
use Rattle.mc_read.specs.Word.{spaced_words}
use Rattle.mc_read.proofs.words.first_word.Given as goal

-- no word was passed over
abbrev pub invariant-loop-rest : goal.invariant-loop-rest
invariant-loop-rest l = spaced_words l.rest ≡ spaced_words l.fn.text

abbrev pub decreases-loop-rest : goal.decreases-loop-rest
decreases-loop-rest l = length l.rest
