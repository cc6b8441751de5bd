-- The worker is the same one, later on, and so are the others; it has replayed all that it has
-- learned.
use Rattle.std.proofs.Common.{◌-◌, length}
use Rattle.std.specs.List.{AllZip}
use Rattle.uc_worker.specs.Going.{CatchesUp}
use Rattle.uc_worker.specs.Worker.{IsUpToDate, history_of, seat_of}
use Rattle.mc_server.proofs.crew.meet_until_all_agree.Given as goal
use Rattle.uc_worker.specs.AllWorkers.{AreOfLog}

abbrev pub invariant-loop-others : goal.invariant-loop-others
invariant-loop-others l = record {
  later : CatchesUp l.initial.one l.one;
  whole : IsUpToDate l.one;
  of : AreOfLog l.one.log.now l.others.items;
  others : AllZip CatchesUp l.initial.others.items l.others.items;
}

abbrev pub decreases-loop-others : goal.decreases-loop-others
decreases-loop-others l = (seat_of l.one).size.places - length (history_of l.one)
