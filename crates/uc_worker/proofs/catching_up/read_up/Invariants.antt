-- The places before this one are learned, each by one event.
use Rattle.std.proofs.Common.{◌≡◌, ◌≤◌, length}
use Rattle.uc_log.specs.Passes.{IsOf, desk, learned, own_sightings, seat, state}
use Rattle.uc_places.specs.Calls.{calls_of}
use Rattle.uc_worker.specs.Counting.{TakesFew}
use Rattle.uc_worker.specs.Steps.{Later, Rests}
use Rattle.uc_worker.proofs.catching_up.read_up.Given as goal

abbrev pub invariant-loop-place : goal.invariant-loop-place
invariant-loop-place g l = record {
  of : IsOf l.log l.pass;
  rests : Rests (state l.pass).phase;
  later : Later (seat l.fn.pass) (seat l.pass);
  here : length (learned l.pass) ≡ l._place;
  own : own_sightings l.pass ≡ own_sightings l.fn.pass;
  takes : TakesFew 0 (desk l.fn.pass) (desk l.pass);
  calls : length (calls_of (desk l.fn.pass)) ≤ length (calls_of (desk l.pass));
}
