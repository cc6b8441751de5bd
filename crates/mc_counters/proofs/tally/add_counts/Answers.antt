use Rattle.std.proofs.Common.{ℕ, ◌+◌, ◌<◌, ◌∙◌, List, ap, arith, length, slice_index, slice_set}
use Rattle.mc_counters.specs.Tallied.{capped}
use Rattle.mc_counters.proofs.Sums.{adds_more}
use Rattle.mc_counters.proofs.tally.add_counts.Goals as goal

pub loop-place-preserved : goal.loop-place-preserved
loop-place-preserved c =
    let place = c.loop-place.place in
    let others = c.args.others.now in
    let test = c.loop-place-test.true in
    let long = c.requires in
    let inside : place < length c.args.counts.now = omega (arith, test, long) in
    ap (λ (number : ℕ). slice_set c.loop-place.counts place number) c.saturating_add.ensures
    ∙ ap (λ (counts : List ℕ). slice_set counts place (capped (slice_index counts place + slice_index others place))) c.loop-place.invariant
    ∙ adds_more place c.args.counts.now others inside long
