use Rattle.mc_metrics.specs.Gathering.{tally_at, tally_shown}
use Rattle.mc_metrics.proofs.laws.scrapes_count_for_all_workers.Goals as goal

pub returns-clause-none : goal.returns-clause-none
returns-clause-none c number = c.tallies_add_up.ensures.none

pub returns-clause-more : goal.returns-clause-more
returns-clause-more c number first rest one others is also = c.tallies_add_up.ensures.both (tally_at number first) (tally_shown number rest) one others is also
