-- The places before this one are learned, as in the shared list.
use Rattle.std.proofs.Common.{◌≡◌, length}
use Rattle.lists.specs.Lists.{BeginsWith}
use Rattle.uc_log.specs.Passes.{IsOf, desk, learned, own_sightings, seat, state}
use Rattle.uc_worker.specs.Counting.{TakesFew}
use Rattle.uc_worker.specs.Steps.{IsSame, Rests}
use Rattle.uc_worker.proofs.meeting.read_told.Given as goal

abbrev pub invariant-loop-place : goal.invariant-loop-place
invariant-loop-place l = record {
  of : IsOf l.log l.pass;
  rests : Rests (state l.pass).phase;
  same : IsSame (seat l.fn.pass) (seat l.pass);
  told : (seat l.pass).told ≡ (seat l.fn.pass).told;
  own : own_sightings l.pass ≡ own_sightings l.fn.pass;
  begins : BeginsWith (seat l.fn.pass).told (learned l.pass);
  here : length (learned l.pass) ≡ l._place;
  takes : TakesFew 0 (desk l.fn.pass) (desk l.pass);
}
