use Rattle.std.proofs.Common.{◌∙◌}
use Rattle.mc_server_laws.proofs.Capped.{capped_is}
use Rattle.mc_server_laws.proofs.counters.counts_of_64_bits_are_exact.Goals as goal

pub returns-clause-hits : goal.returns-clause-hits
returns-clause-hits c = λ answered tally is below. is.hits ∙ capped_is _ below

pub returns-clause-misses : goal.returns-clause-misses
returns-clause-misses c = λ answered tally is below. is.misses ∙ capped_is _ below

pub returns-clause-commands : goal.returns-clause-commands
returns-clause-commands c = λ answered tally place is inside below. is.commands place inside ∙ capped_is _ below

pub returns-clause-refusals : goal.returns-clause-refusals
returns-clause-refusals c = λ answered tally place is inside below. is.refusals place inside ∙ capped_is _ below

pub returns-clause-both : goal.returns-clause-both
returns-clause-both c = λ one other hits misses. (capped_is _ hits, capped_is _ misses)
