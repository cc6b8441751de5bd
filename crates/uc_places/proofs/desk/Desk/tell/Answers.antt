-- Whichever is told, both seats' calls are one run.
use Rattle.std.proofs.Common.{refl}
use Rattle.uc_places.proofs.Runs.{turned}
use Rattle.uc_places.proofs.desk.Desk.tell.Goals as goal

pub returns-then-self-other-clause-run : goal.returns-then-self-other-clause-run
returns-then-self-other-clause-run c = let run = c.share.ensures.run in (run.0, turned _ _ _ _ run.0 refl run.1)
