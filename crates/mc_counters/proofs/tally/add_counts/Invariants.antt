use Rattle.std.proofs.Common.{◌≡◌, ◌++◌, drop, take}
use Rattle.mc_counters.specs.Tallied.{counts_of_both}
use Rattle.mc_counters.proofs.tally.add_counts.Given as goal

-- the counts so far are those of both
abbrev pub invariant-loop-place : goal.invariant-loop-place
invariant-loop-place l = l.counts ≡ counts_of_both (take l.place l.fn.counts) (take l.place l.fn.others) ++ drop l.place l.fn.counts
