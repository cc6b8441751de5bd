-- A step's conditions are those that its event's faults are determined by, and what it makes is
-- determined by the state before it (`OneWay`, `Leads`, `Alone`).
use Rattle.uc_core.proofs.Alone.{steps_are_alone}
use Rattle.uc_core.proofs.Leads.{steps_lead_on, steps_learn}
use Rattle.uc_core.proofs.OneWay.{faults_stand, steps_are_enabled, steps_are_one, workers_are_free}
use Rattle.uc_core.proofs.Runs.{law_of}
use Rattle.uc_core.proofs.theorem.events_lead_one_way.Goals as goal

pub returns-clause-enabled : goal.returns-clause-enabled
returns-clause-enabled c = λ settings events core given run. steps_are_enabled core (law_of settings events core given run)

pub returns-clause-one : goal.returns-clause-one
returns-clause-one c = steps_are_one

pub returns-clause-on : goal.returns-clause-on
returns-clause-on c = steps_lead_on

pub returns-clause-alone : goal.returns-clause-alone
returns-clause-alone c = steps_are_alone

pub returns-clause-learns : goal.returns-clause-learns
returns-clause-learns c = steps_learn

pub returns-clause-free : goal.returns-clause-free
returns-clause-free c = workers_are_free

pub returns-clause-faults : goal.returns-clause-faults
returns-clause-faults c = faults_stand
