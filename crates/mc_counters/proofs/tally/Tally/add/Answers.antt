use Rattle.std.proofs.Common.{◌++◌, sym, subst}
use Rattle.mc_counters.specs.Tallied.{IsTallyOf}
use Rattle.mc_counters.specs.declared.tally.Tally.{Tally}
use Rattle.mc_counters.proofs.Sums.{added, both_counted}
use Rattle.mc_counters.proofs.tally.Tally.add.Goals as goal

pub returns-clause-counts : goal.returns-clause-counts
returns-clause-counts c = λ first second is also.
    let old = c.args.self.now in
    let other = c.args.other.now in
    subst (λ (tally : Tally). IsTallyOf (first ++ second) tally)
    (sym (added old c.add_commands.new.self c.add_refusals.new.self other _ _ c.add_commands.ensures.counts c.add_refusals.ensures.counts c.saturating_add-self.ensures c.saturating_add-self-2.ensures))
    (both_counted old other first second is also)
