-- Every run keeps the core's law (`Runs`), and the clauses follow from it.
use Rattle.uc_core.proofs.Agreement.{log_is_sound, replicas_agree, tables_stand}
use Rattle.uc_core.proofs.Alone.{stops_for_good}
use Rattle.uc_core.proofs.Answered.{own_answered}
use Rattle.uc_core.proofs.Later.{keeps_real_time, stands_after}
use Rattle.uc_core.proofs.Once.{answered_once}
use Rattle.uc_core.proofs.Runs.{answers_of, law_of}
use Rattle.uc_core.proofs.Sharp.{sharp_of_runs}
use Rattle.uc_core.proofs.Soon.{decided_soon}
use Rattle.uc_core.proofs.theorem.laws.Goals as goal

pub returns-clause-once : goal.returns-clause-once
returns-clause-once c = λ settings events core given run. log_is_sound core (law_of settings events core given run)

pub returns-clause-replicas : goal.returns-clause-replicas
returns-clause-replicas c = λ settings events core given run. replicas_agree core (law_of settings events core given run)

pub returns-clause-replies : goal.returns-clause-replies
returns-clause-replies c = answers_of

pub returns-clause-answered : goal.returns-clause-answered
returns-clause-answered c = own_answered

pub returns-clause-answered_once : goal.returns-clause-answered_once
returns-clause-answered_once c = answered_once

pub returns-clause-after : goal.returns-clause-after
returns-clause-after c = λ settings events core given run. stands_after core (law_of settings events core given run)

pub returns-clause-real_time : goal.returns-clause-real_time
returns-clause-real_time c = keeps_real_time

pub returns-clause-tables : goal.returns-clause-tables
returns-clause-tables c = λ settings events core given run. tables_stand core (law_of settings events core given run)

pub returns-clause-shown : goal.returns-clause-shown
returns-clause-shown c = λ settings events core given run. (law_of settings events core given run).reached

pub returns-clause-helped : goal.returns-clause-helped
returns-clause-helped c = λ settings events core given run. decided_soon core (law_of settings events core given run)

pub returns-clause-stopped : goal.returns-clause-stopped
returns-clause-stopped c = λ settings events core given run. stops_for_good core

pub returns-clause-sharp : goal.returns-clause-sharp
returns-clause-sharp c = sharp_of_runs
