-- One more seat is joined into those before (`Closing`).
use Rattle.std.proofs.Common.{◌∷◌, ◌++◌, [], List, append_assoc, ap, sym, subst, ◌∙◌}
use Rattle.uc_places.specs.declared.desk.Desk.{Desk}
use Rattle.uc_places.specs.declared.seats.Seat.{Seat}
use Rattle.uc_places.specs.Calls.{known}
use Rattle.uc_places.specs.End.{parts_in}
use Rattle.uc_places.specs.Run.{AreAmong, all_parts, part_of}
use Rattle.uc_places.proofs.Closing.{among_pushed}
use Rattle.uc_places.proofs.whole.joined.Goals as goal

pub loop-seat-preserved : goal.loop-seat-preserved
loop-seat-preserved c = let i = c.loop-seat.invariant in let seat = c.in-Some.seat in record {
  host = c.join.ensures.host;
  parts = among_pushed c.loop-seat.yielded seat (parts_in c.loop-seat.host) (all_parts c.join.result.me.0) i.parts
      (subst (λ (d : Desk). AreAmong (part_of (known d) ∷ parts_in c.loop-seat.host) (all_parts c.join.result.me.0)) c.into_desk.ensures.desk
      c.join.ensures.parts);
  all = append_assoc c.loop-seat.yielded (seat ∷ []) c.next.new.self.rest.items
      ∙ (ap (λ (rest : List Seat). c.loop-seat.yielded ++ rest) (sym c.in-Some.ensures.steps.0) ∙ i.all);
}
