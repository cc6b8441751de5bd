-- Each clause is what the run's events make of a part of the core, one after another (`Asked`).
use Rattle.uc_core.proofs.Asked.{announcements_stand, few_proposals, is_of_settings, replays_count}
use Rattle.uc_core.proofs.theorem.runs_do_what_is_asked.Goals as goal

pub returns-clause-settings : goal.returns-clause-settings
returns-clause-settings c = is_of_settings

pub returns-clause-announced : goal.returns-clause-announced
returns-clause-announced c = announcements_stand

pub returns-clause-replayed : goal.returns-clause-replayed
returns-clause-replayed c = replays_count

pub returns-clause-proposed : goal.returns-clause-proposed
returns-clause-proposed c = few_proposals
