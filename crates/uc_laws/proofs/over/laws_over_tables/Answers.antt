-- What doesn't speak of tables is true of the run over empty tables that the run echoes (`Echoed`);
-- tables and replies by induction over the events (`Standing`, `Answers`, `Replaying`).
use Rattle.mc_model.specs.Replay.{empty_tables}
use Rattle.uc_laws.proofs.Answers.{are_answers, keeps_real_time}
use Rattle.uc_laws.proofs.Echoed.{Laws, is_after, is_reached, is_soon, is_sound, stops}
use Rattle.uc_laws.proofs.Refused.{steps_are_enabled}
use Rattle.uc_laws.proofs.Replaying.{are_answered_once, own_are_answered}
use Rattle.uc_laws.proofs.Standing.{replicas_agree, tables_stand}
use Rattle.uc_laws.proofs.over.laws_over_tables.Goals as goal
use Rattle.uc_laws.proofs.over.laws_over_tables.Goals.{After-events_lead_one_way}

known : (c : After-events_lead_one_way) → Laws
known c = record {
  once = c.laws.ensures.once;
  replicas = c.laws.ensures.replicas;
  tables = c.laws.ensures.tables;
  helped = c.laws.ensures.helped;
  after = c.laws.ensures.after;
  stopped = c.laws.ensures.stopped;
  shown = c.laws.ensures.shown;
  alone = c.events_lead_one_way.ensures.alone;
}

pub returns-clause-once : goal.returns-clause-once
returns-clause-once c = λ settings tables events core given run. is_sound (known c) settings tables events core given run

pub returns-clause-replicas : goal.returns-clause-replicas
returns-clause-replicas c = λ settings tables events core given run. replicas_agree (known c) settings tables core (events, given, run)

pub returns-clause-replies : goal.returns-clause-replies
returns-clause-replies c = λ settings tables events core given run. are_answers (known c) settings tables events core given run

pub returns-clause-answered : goal.returns-clause-answered
returns-clause-answered c = λ settings tables events core given run. own_are_answered (known c) settings tables events core given run

pub returns-clause-answered_once : goal.returns-clause-answered_once
returns-clause-answered_once c = λ settings tables events core given run. are_answered_once (known c) settings tables events core given run

pub returns-clause-tables : goal.returns-clause-tables
returns-clause-tables c = λ settings tables events core given run. tables_stand (known c) settings tables core (events, given, run)

pub returns-clause-helped : goal.returns-clause-helped
returns-clause-helped c = λ settings tables events core given run. is_soon (known c) settings tables events core given run

pub returns-clause-sharp : goal.returns-clause-sharp
returns-clause-sharp c = λ settings several holds. c.laws.ensures.sharp settings several (holds (empty_tables settings.tenants))

pub returns-clause-after : goal.returns-clause-after
returns-clause-after c = λ settings tables events core given run. is_after (known c) settings tables events core given run

pub returns-clause-real_time : goal.returns-clause-real_time
returns-clause-real_time c = λ settings tables events core given run. keeps_real_time (known c) settings tables events core given run

pub returns-clause-stopped : goal.returns-clause-stopped
returns-clause-stopped c = λ settings tables events core given run. stops (known c) settings tables events core given run

pub returns-clause-enabled : goal.returns-clause-enabled
returns-clause-enabled c = steps_are_enabled c.events_lead_one_way.ensures.enabled

pub returns-clause-shown : goal.returns-clause-shown
returns-clause-shown c = λ settings tables events core given run. is_reached (known c) settings tables events core given run
