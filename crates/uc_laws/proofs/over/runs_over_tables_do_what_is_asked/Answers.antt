-- Each by the run over empty tables with the same events (`AskedOver`).
use Rattle.uc_laws.proofs.AskedOver.{announcements_stand, few_proposals, is_of_settings, replays_count}
use Rattle.uc_laws.proofs.over.runs_over_tables_do_what_is_asked.Goals as goal

pub returns-clause-settings : goal.returns-clause-settings
returns-clause-settings c = is_of_settings c.runs_do_what_is_asked.ensures.settings

pub returns-clause-announced : goal.returns-clause-announced
returns-clause-announced c = announcements_stand c.runs_do_what_is_asked.ensures.announced

pub returns-clause-replayed : goal.returns-clause-replayed
returns-clause-replayed c = replays_count c.runs_do_what_is_asked.ensures.replayed

pub returns-clause-proposed : goal.returns-clause-proposed
returns-clause-proposed c = few_proposals c.runs_do_what_is_asked.ensures.proposed
