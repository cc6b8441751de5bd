use Rattle.std.proofs.Common.{◌≡◌, ℕ, ◌<◌, slice_get}
use Rattle.mc_replica.proofs.replica.agree_all.Given as goal

abbrev pub invariant-loop-place : goal.invariant-loop-place
invariant-loop-place l = record {
  one : l.ones ≡ l.fn.ones;
  two : l.others ≡ l.fn.others;
  same : (place : ℕ) → place < l.place → slice_get l.fn.ones place ≡ slice_get l.fn.others place;
}
