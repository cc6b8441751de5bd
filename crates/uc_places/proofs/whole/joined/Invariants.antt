-- Each seat so far is joined into the one; the others are still to come.
use Rattle.std.proofs.Common.{◌≡◌, ◌++◌, IfSome}
use Rattle.uc_places.specs.End.{IsHostOf, parts_in, parts_of}
use Rattle.uc_places.specs.Run.{AreAmong}
use Rattle.uc_places.proofs.whole.joined.Given as goal

abbrev pub invariant-loop-seat : goal.invariant-loop-seat
invariant-loop-seat l = record {
  host : IfSome l.host (λ seat. IsHostOf l.places seat);
  parts : AreAmong (parts_of l.yielded) (parts_in l.host);
  all : l.yielded ++ l.seat-iterator.rest.items ≡ l.fn.seats.items;
}
