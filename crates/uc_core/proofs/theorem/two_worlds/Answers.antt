-- Each run's replies are answers by its own log, and one and the same command has one answer.
use Rattle.uc_core.proofs.Runs.{answers_of}
use Rattle.uc_core.proofs.Worlds.{same_reply}
use Rattle.uc_core.proofs.theorem.two_worlds.Goals as goal

pub returns : goal.returns
returns c = λ settings events core given run other_settings other_events other other_given other_run tenant other_tenant j reply other_reply agree answered other_answered.
    same_reply core other given other_given tenant other_tenant j reply other_reply
    (answers_of settings events core given run) (answers_of other_settings other_events other other_given other_run) agree answered other_answered
