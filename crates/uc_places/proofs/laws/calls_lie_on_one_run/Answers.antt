-- `OwnEvents` shows both.
use Rattle.uc_places.proofs.OwnEvents.{calls_lie, others_leave}
use Rattle.uc_places.proofs.laws.calls_lie_on_one_run.Goals as goal

pub returns-clause-run : goal.returns-clause-run
returns-clause-run c = calls_lie

pub returns-clause-between : goal.returns-clause-between
returns-clause-between c = others_leave
