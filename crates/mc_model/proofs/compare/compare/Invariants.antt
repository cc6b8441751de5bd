use Rattle.std.proofs.Common.{◌≡◌, ◌*◌, drop}
use Rattle.std.specs.Cmp.Lexicographic.{slice_cmp}
use Rattle.std.specs.Ordering.{nat_cmp}
use Rattle.mc_model.proofs.compare.compare.Given as goal

abbrev pub invariant-loop-word : goal.invariant-loop-word
invariant-loop-word l = slice_cmp nat_cmp l.one l.other ≡ slice_cmp nat_cmp (drop (8 * l.word) l.one) (drop (8 * l.word) l.other)
