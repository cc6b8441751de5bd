-- The seat is joined into the other (`Seating`), whose workers are then both.
use Rattle.std.proofs.Common.{◌∷◌, IfSome, Option, ap, sym, subst, arith}
use Rattle.atomic_table.specs.Seated.{TableId}
use Rattle.atomic_table.specs.declared.shared.Seat.{Seat}
use Rattle.uc_places.specs.declared.view.View.{View}
use Rattle.uc_places.specs.Calls.{known}
use Rattle.uc_places.specs.End.{IsHostOf, parts_in}
use Rattle.uc_places.specs.Run.{AreAmong, all_parts, part_of}
use Rattle.uc_places.specs.Told.{SeatState, joined_with}
use Rattle.uc_places.proofs.Runs.{among_turned}
use Rattle.uc_places.proofs.Seating.{joins}
use Rattle.uc_places.proofs.whole.join.Goals as goal

pub join_seat-requires : goal.join_seat-requires
join_seat-requires c = let d = c.args.desk in let words = d.words in let few = ap (λ (z : TableId). z.words) c.requires.place in
    let host : IsHostOf c.args.places.now c.in-Some.host =
    subst (λ (h : Option (Seat Unit View)). IfSome h (λ seat. IsHostOf c.args.places.now seat)) c.in-Some.is c.requires.host in (
      host.0,
      c.requires.place,
      d.holds_no_slot,
      omega arith,
      joins _ c.in-Some.host.id c.in-Some.host.me.0 d.seat.id d.seat.me.0 host.1 d.mirrors.seated d.alone,
    )

pub returns-clause-parts : goal.returns-clause-parts
returns-clause-parts c = let own = part_of (known c.args.desk) in let host = c.in-Some.host in
    subst (λ (v : View). AreAmong (own ∷ parts_in c.args.host) (all_parts v)) (sym (ap (λ (m : SeatState). m.0) c.join_seat.ensures.2))
    (subst (λ (h : Option (Seat Unit View)). AreAmong (own ∷ parts_in h) (all_parts (joined_with host.me.0 (known c.args.desk)))) (sym c.in-Some.is)
    (among_turned own (part_of host.me.0) host.me.0.joined))
