-- The other's seat is joined into the first, where both are compared, and is split off again
-- (`Seating`, `Moves`).
use Rattle.std.proofs.Common.{◌≡◌, ◌+◌, List, ◌∷◌, ap, sym, subst, ◌∙◌, arith}
use Rattle.atomic_table.specs.Seated.{TableId}
use Rattle.uc_places.specs.declared.view.Part.{Part}
use Rattle.uc_places.specs.declared.view.View.{View}
use Rattle.uc_places.specs.Desk.{Mirrors}
use Rattle.uc_places.specs.Reached.{LastIsReached}
use Rattle.uc_places.specs.Run.{AreOneRun, part_of}
use Rattle.uc_places.specs.SeatLaw.{SeatLaw}
use Rattle.uc_places.specs.Told.{SeatState, joined_with, parted, told_list}
use Rattle.uc_places.proofs.Mirroring.{mirrors_told, words_of}
use Rattle.uc_places.proofs.Moves.{both_begin, meets_word}
use Rattle.uc_places.proofs.SeatLaws.{last_told}
use Rattle.uc_places.proofs.Seating.{gives_back, hosts, joins, leaves, parts}
use Rattle.uc_places.proofs.desk.Desk.share.Goals as goal

pub split_seat-seat-requires : goal.split_seat-seat-requires
split_seat-seat-requires c = let d = c.args.other.now in let words = d.words in let few = ap (λ (z : TableId). z.words) c.requires.1 in
    (c.requires.1, omega arith, leaves _ d.seat.id d.seat.me.0 d.mirrors.seated d.alone)

pub join_seat-requires : goal.join_seat-requires
join_seat-requires c = let d = c.args.self.now in let other = c.args.other.now in let words = d.words in
    let few = ap (λ (z : TableId). z.words) c.requires.0 in let t = c.split_seat-seat.ensures in (
      c.requires.0,
      t.3 ∙ c.requires.1,
      ap (λ (m : SeatState). m.1) t.4,
      omega arith,
      joins _ d.seat.id d.seat.me.0 _ _ d.mirrors.seated (ap (λ (m : SeatState). m.0.kind) t.4 ∙ other.mirrors.seated)
          (ap (λ (m : SeatState). m.0.joined) t.4 ∙ other.alone),
    )

pub load-requires : goal.load-requires
load-requires c = let d = c.args.self.now in let words = d.words in let few = ap (λ (z : TableId). z.words) c.requires.0 in
    let j = c.join_seat.ensures in (
      j.0 ∙ c.requires.0,
      omega arith,
      meets_word _ _ c.join_seat.new.seat.me (ap (λ (m : SeatState). m.0.kind) j.2 ∙ d.mirrors.seated) _,
    )

pub split_seat-requires : goal.split_seat-requires
split_seat-requires c = let d = c.args.self.now in let other = c.args.other.now in let words = d.words in
    let few = ap (λ (z : TableId). z.words) c.requires.0 in let j = c.join_seat.ensures in
    let host : c.load.new.seat.me.0 ≡ joined_with d.seat.me.0 other.seat.me.0 =
    hosts c.load.new.seat.me c.join_seat.new.seat.me c.split_seat-seat.result.me d.seat.me.0 other.seat.me.0 c.load.ensures.2.0
    (ap (λ (m : SeatState). m.0) j.2) (ap (λ (m : SeatState). m.0) c.split_seat-seat.ensures.4) in (
      c.load.ensures.0 ∙ (j.0 ∙ c.requires.0),
      omega arith,
      parts _ c.load.new.seat.id c.load.new.seat.me.0 (part_of other.seat.me.0) (ap (λ (v : View). v.kind) host ∙ d.mirrors.seated)
          (ap (λ (v : View). v.joined) host ∙ ap (λ (l : List Part). part_of other.seat.me.0 ∷ l) d.alone),
    )

pub invariant_of-other : goal.invariant_of-other
invariant_of-other c = let d = c.args.self.now in let other = c.args.other.now in let view = other.seat.me.0 in
    let host : c.load.new.seat.me.0 ≡ joined_with d.seat.me.0 view =
    hosts c.load.new.seat.me c.join_seat.new.seat.me c.split_seat-seat.result.me d.seat.me.0 view c.load.ensures.2.0
    (ap (λ (m : SeatState). m.0) c.join_seat.ensures.2) (ap (λ (m : SeatState). m.0) c.split_seat-seat.ensures.4) in
    let now : c.split_seat.result.me.0 ≡ told_list view d.seat.me.0.state.learned =
    gives_back c.load.new.seat.me.0 d.seat.me.0 view c.split_seat.result.me host c.split_seat.ensures.4 other.mirrors.seated other.alone in
    let table : c.split_seat.result.table_id ≡ other.seat.table_id = c.split_seat.ensures.3 ∙ (c.load.ensures.0 ∙ (c.join_seat.ensures.0
    ∙ (c.requires.0 ∙ sym c.requires.1))) in
    record {
      words = words_of _ _ _ (sym table) (subst (λ (v : View). other.seat.table_id.words ≡ 1 + v.size.workers + v.size.places) (sym now) other.words);
      mirrors = subst (λ (v : View). Mirrors v other.numbers) (sym now) (mirrors_told view _ other.numbers other.mirrors);
      law = subst (λ (v : View). SeatLaw v.size v.worker v.state) (sym now) other.law;
      reached = subst LastIsReached (sym now) (last_told view _ other.reached);
      alone = ap (λ (v : View). v.joined) now ∙ other.alone;
      holds_no_slot = ap (λ (m : SeatState). m.1) c.split_seat.ensures.4;
    }

pub returns-clause-shares : goal.returns-clause-shares
returns-clause-shares c = let d = c.args.self.now in let other = c.args.other.now in let view = other.seat.me.0 in
    let host : c.load.new.seat.me.0 ≡ joined_with d.seat.me.0 view =
    hosts c.load.new.seat.me c.join_seat.new.seat.me c.split_seat-seat.result.me d.seat.me.0 view c.load.ensures.2.0
    (ap (λ (m : SeatState). m.0) c.join_seat.ensures.2) (ap (λ (m : SeatState). m.0) c.split_seat-seat.ensures.4) in
    let joined : c.join_seat.new.seat.me.0 ≡ joined_with d.seat.me.0 view = sym (ap (λ (m : SeatState). m.0) c.load.ensures.2.0) ∙ host in
    let run = subst (λ (v : View). AreOneRun v.size (part_of v ∷ v.joined) c.load.ensures.2.1.0) joined c.load.ensures.2.1.1 in
    let both = subst (λ (l : List Part). AreOneRun d.seat.me.0.size (part_of d.seat.me.0 ∷ part_of view ∷ l) c.load.ensures.2.1.0) d.alone run in
    record {
      first = (
        c.split_seat.ensures.0 ∙ (c.load.ensures.0 ∙ c.join_seat.ensures.0),
        ap (λ (m : SeatState). m.0) c.split_seat.ensures.2 ∙ ap parted host,
      );
      second = (
        c.split_seat.ensures.3 ∙ (c.load.ensures.0 ∙ (c.join_seat.ensures.0 ∙ (c.requires.0 ∙ sym c.requires.1))),
        gives_back c.load.new.seat.me.0 d.seat.me.0 view c.split_seat.result.me host c.split_seat.ensures.4 other.mirrors.seated other.alone,
      );
      compared = both_begin _ _ _ _ both;
    }
