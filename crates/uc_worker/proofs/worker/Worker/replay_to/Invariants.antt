-- The places before this one are replayed.
use Rattle.std.proofs.Common.{◌≡◌, length}
use Rattle.uc_worker.specs.Going.{ReplaysMore}
use Rattle.uc_worker.proofs.worker.Worker.replay_to.Given as goal

abbrev pub invariant-loop-place : goal.invariant-loop-place
invariant-loop-place g l = record {
  replays : ReplaysMore l.fn.self l.self;
  here : length l.self.replica.history ≡ l.place;
}
