-- Each run's replies are answers by its own log, and one and the same command has one answer.
use Rattle.uc_laws.proofs.Worlds.{answer_alike}
use Rattle.uc_laws.proofs.over.two_worlds_over_tables.Goals as goal

pub returns : goal.returns
returns c = λ settings tables events core given run other_settings other_tables other_events other other_given other_run.
    answer_alike tables other_tables core other given other_given
    (c.laws_over_tables.ensures.replies settings tables events core given run)
    (c.laws_over_tables.ensures.replies other_settings other_tables other_events other other_given other_run)
