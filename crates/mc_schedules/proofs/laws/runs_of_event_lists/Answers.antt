-- What lists do is one run after another (`Joined`), each event of which leads one way (`Alike`),
-- and the events of a submit come to an end (`Nearer`).
use Rattle.mc_schedules.proofs.Alike.{all_alike}
use Rattle.mc_schedules.proofs.Joined.{all_run}
use Rattle.mc_schedules.proofs.Nearer.{nearer}
use Rattle.mc_schedules.proofs.laws.runs_of_event_lists.Goals as goal

pub returns-clause-are_runs : goal.returns-clause-are_runs
returns-clause-are_runs c = all_run

pub returns-clause-nearer : goal.returns-clause-nearer
returns-clause-nearer c = nearer c.laws.ensures.shown

pub returns-clause-one : goal.returns-clause-one
returns-clause-one c = all_alike c.events_lead_one_way.ensures.enabled c.events_lead_one_way.ensures.one
