-- The proposals by induction over the events (`Proposals`); the progress by the counts of each part.
use Rattle.uc_laws.proofs.Progress.{progress_stands}
use Rattle.uc_laws.proofs.Proposals.{proposals_count}
use Rattle.uc_laws.proofs.counts.shown_states_count_the_events.Goals as goal

pub returns-clause-proposals : goal.returns-clause-proposals
returns-clause-proposals c = proposals_count c.events_lead_one_way.ensures.alone

pub returns-clause-progress : goal.returns-clause-progress
returns-clause-progress c = let asked = c.runs_over_tables_do_what_is_asked.ensures in
    progress_stands asked.settings asked.announced asked.replayed (proposals_count c.events_lead_one_way.ensures.alone)
