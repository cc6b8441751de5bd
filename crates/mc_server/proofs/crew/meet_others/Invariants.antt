-- The worker is up to date, the others before this one have met it, and the rest are of its log.
use Rattle.std.proofs.Common.{◌≡◌, ◌++◌, List}
use Rattle.std.specs.List.{AllZip}
use Rattle.mc_server.specs.Crew.{MeetsAnother}
use Rattle.uc_worker.specs.Going.{CatchesUp}
use Rattle.uc_worker.specs.Worker.{IsUpToDate}
use Rattle.uc_worker.specs.declared.worker.Worker.{Worker}
use Rattle.mc_server.proofs.crew.meet_others.Given as goal
use Rattle.uc_worker.specs.AllWorkers.{AreOfLog}

abbrev pub invariant-loop-other : goal.invariant-loop-other
invariant-loop-other l = record {
  later : CatchesUp l.fn.one l.one;
  whole : IsUpToDate l.one;
  left : AreOfLog l.one.log.now l.other-iterator.rest.items;
  met : (done : List Worker) × (done ++ l.other-iterator.rest.items ≡ l.fn.others.items) × AllZip (MeetsAnother l.fn.one l.one) done l.met.items;
}
