-- The other's seat is joined into the first, which then keeps the run, and is split off again
-- (`Seating`, `Moves`).
use Rattle.std.proofs.Common.{rules, ◌≡◌, ◌+◌, List, ◌∷◌, ap, sym, subst, ◌∙◌, arith}
use Rattle.atomic_table.specs.Seated.{TableId}
use Rattle.uc_places.specs.declared.view.Part.{Part}
use Rattle.uc_places.specs.declared.view.View.{View}
use Rattle.lists.specs.Lists.{BeginsWith}
use Rattle.mc_model.specs.Lawful.{ShownEvent}
use Rattle.uc_places.specs.Desk.{Mirrors}
use Rattle.uc_places.specs.Reached.{LastIsReached}
use Rattle.uc_places.specs.Run.{AreOneRun, part_of, witnessed_by}
use Rattle.uc_places.specs.SeatLaw.{SeatLaw}
use Rattle.uc_places.specs.Told.{SeatState, joined_with, keeping, parted, told_list}
use Rattle.uc_places.proofs.Mirroring.{mirrors_keeping, mirrors_told, words_of}
use Rattle.uc_places.proofs.Moves.{witnesses_word}
use Rattle.uc_places.proofs.SeatLaws.{last_keeping, last_told}
use Rattle.uc_places.proofs.Seating.{gives_back, joins, keeping_hosts, leaves, parts}
use Rattle.uc_places.proofs.desk.Desk.witness_with.Goals as goal

pub split_seat-seat-requires : goal.split_seat-seat-requires
split_seat-seat-requires c = let d = c.args.other.now in let words = d.words in let few = ap (λ (z : TableId). z.words) c.requires.1 in
    (c.requires.1, omega arith, leaves _ d.seat.id d.seat.me.0 d.mirrors.seated d.alone)

pub join_seat-requires : goal.join_seat-requires
join_seat-requires c = let d = c.args.self.now in let other = c.args.other.now in let words = d.words in
    let few = ap (λ (z : TableId). z.words) c.requires.0 in let t = c.split_seat-seat.ensures in (
      c.requires.0,
      t.3 ∙ c.requires.1,
      ap (λ (m : SeatState). m.1) t.4,
      omega arith,
      joins _ d.seat.id d.seat.me.0 _ _ d.mirrors.seated (ap (λ (m : SeatState). m.0.kind) t.4 ∙ other.mirrors.seated)
          (ap (λ (m : SeatState). m.0.joined) t.4 ∙ other.alone),
    )

pub load-requires : goal.load-requires
load-requires c = let d = c.args.self.now in let words = d.words in let few = ap (λ (z : TableId). z.words) c.requires.0 in
    let j = c.join_seat.ensures in (
      j.0 ∙ c.requires.0,
      omega arith,
      witnesses_word _ _ c.join_seat.new.seat.me (ap (λ (m : SeatState). m.0.kind) j.2 ∙ d.mirrors.seated) _,
    )

pub split_seat-requires : goal.split_seat-requires
split_seat-requires c = let d = c.args.self.now in let other = c.args.other.now in let words = d.words in
    let few = ap (λ (z : TableId). z.words) c.requires.0 in let j = c.join_seat.ensures in let events = c.load.new.seat.me.0.witnessed in
    let host : c.load.new.seat.me.0 ≡ joined_with (keeping d.seat.me.0 events) other.seat.me.0 =
    keeping_hosts c.load.new.seat.me c.join_seat.new.seat.me c.split_seat-seat.result.me d.seat.me.0 other.seat.me.0 events c.load.ensures.2.0
    (ap (λ (m : SeatState). m.0) j.2) (ap (λ (m : SeatState). m.0) c.split_seat-seat.ensures.4) in (
      c.load.ensures.0 ∙ (j.0 ∙ c.requires.0),
      omega arith,
      parts _ c.load.new.seat.id c.load.new.seat.me.0 (part_of other.seat.me.0) (ap (λ (v : View). v.kind) host ∙ d.mirrors.seated)
          (ap (λ (v : View). v.joined) host ∙ ap (λ (l : List Part). part_of other.seat.me.0 ∷ l) d.alone),
    )

pub invariant_of-self : goal.invariant_of-self
invariant_of-self c = let d = c.args.self.now in let view = d.seat.me.0 in let events = c.load.new.seat.me.0.witnessed in
    let host : c.load.new.seat.me.0 ≡ joined_with (keeping view events) c.args.other.now.seat.me.0 =
    keeping_hosts c.load.new.seat.me c.join_seat.new.seat.me c.split_seat-seat.result.me view c.args.other.now.seat.me.0 events c.load.ensures.2.0
    (ap (λ (m : SeatState). m.0) c.join_seat.ensures.2) (ap (λ (m : SeatState). m.0) c.split_seat-seat.ensures.4) in
    let now : c.split_seat.new.seat.me.0 ≡ keeping view events = ap (λ (m : SeatState). m.0) c.split_seat.ensures.2 ∙ ap parted host in
    let table : c.split_seat.new.seat.table_id ≡ d.seat.table_id = c.split_seat.ensures.0 ∙ (c.load.ensures.0 ∙ c.join_seat.ensures.0) in record {
      words = words_of _ _ _ (sym table) (subst (λ (v : View). d.seat.table_id.words ≡ 1 + v.size.workers + v.size.places) (sym now) d.words);
      mirrors = subst (λ (v : View). Mirrors v d.numbers) (sym now) (mirrors_keeping view events d.numbers d.mirrors);
      law = subst (λ (v : View). SeatLaw v.size v.worker v.state) (sym now) d.law;
      reached = subst LastIsReached (sym now) (last_keeping view events d.reached);
      alone = ap (λ (v : View). v.joined) now ∙ d.alone;
      holds_no_slot = search rules;
    }

pub invariant_of-other : goal.invariant_of-other
invariant_of-other c = let d = c.args.self.now in let other = c.args.other.now in let view = other.seat.me.0 in
    let events = c.load.new.seat.me.0.witnessed in
    let host : c.load.new.seat.me.0 ≡ joined_with (keeping d.seat.me.0 events) view =
    keeping_hosts c.load.new.seat.me c.join_seat.new.seat.me c.split_seat-seat.result.me d.seat.me.0 view events c.load.ensures.2.0
    (ap (λ (m : SeatState). m.0) c.join_seat.ensures.2) (ap (λ (m : SeatState). m.0) c.split_seat-seat.ensures.4) in
    let now : c.split_seat.result.me.0 ≡ told_list view d.seat.me.0.state.learned =
    gives_back c.load.new.seat.me.0 (keeping d.seat.me.0 events) view c.split_seat.result.me host c.split_seat.ensures.4 other.mirrors.seated other.alone in
    let table : c.split_seat.result.table_id ≡ other.seat.table_id = c.split_seat.ensures.3 ∙ (c.load.ensures.0 ∙ (c.join_seat.ensures.0
    ∙ (c.requires.0 ∙ sym c.requires.1))) in
    record {
      words = words_of _ _ _ (sym table) (subst (λ (v : View). other.seat.table_id.words ≡ 1 + v.size.workers + v.size.places) (sym now) other.words);
      mirrors = subst (λ (v : View). Mirrors v other.numbers) (sym now) (mirrors_told view _ other.numbers other.mirrors);
      law = subst (λ (v : View). SeatLaw v.size v.worker v.state) (sym now) other.law;
      reached = subst LastIsReached (sym now) (last_told view _ other.reached);
      alone = ap (λ (v : View). v.joined) now ∙ other.alone;
      holds_no_slot = ap (λ (m : SeatState). m.1) c.split_seat.ensures.4;
    }

pub returns : goal.returns
returns c = let d = c.args.self.now in let other = c.args.other.now in let view = other.seat.me.0 in
    let events = c.load.new.seat.me.0.witnessed in let tells = c.load.ensures.2 in
    let host : c.load.new.seat.me.0 ≡ joined_with (keeping d.seat.me.0 events) view =
    keeping_hosts c.load.new.seat.me c.join_seat.new.seat.me c.split_seat-seat.result.me d.seat.me.0 view events tells.0
    (ap (λ (m : SeatState). m.0) c.join_seat.ensures.2) (ap (λ (m : SeatState). m.0) c.split_seat-seat.ensures.4) in
    let joined : c.join_seat.new.seat.me.0 ≡ joined_with d.seat.me.0 view = ap (λ (m : SeatState). m.0) c.join_seat.ensures.2
    ∙ ap (λ (m : SeatState). joined_with d.seat.me.0 m.0) c.split_seat-seat.ensures.4 in
    let now : c.split_seat.new.seat.me.0 ≡ keeping d.seat.me.0 events = ap (λ (m : SeatState). m.0) c.split_seat.ensures.2 ∙ ap parted host in
    let kept : witnessed_by c.split_seat.new.seat.me.0 ≡ witnessed_by c.load.new.seat.me.0 = ap witnessed_by now in
    let all = subst (λ (v : View). (one : AreOneRun v.size (part_of v ∷ v.joined) tells.2.0) × (one.run ≡ witnessed_by c.load.new.seat.me.0))
    joined (tells.2.1, tells.2.2) in
    let both = subst (λ (l : List Part). (one : AreOneRun d.seat.me.0.size (part_of d.seat.me.0 ∷ part_of view ∷ l) tells.2.0)
    × (one.run ≡ witnessed_by c.load.new.seat.me.0)) d.alone all in
    let goes_on : BeginsWith (witnessed_by c.load.new.seat.me.0) (witnessed_by d.seat.me.0) =
    subst (λ (v : View). BeginsWith (witnessed_by c.load.new.seat.me.0) (witnessed_by v)) joined tells.1 in
    record {
      first = record {
        seat = (c.split_seat.ensures.0 ∙ (c.load.ensures.0 ∙ c.join_seat.ensures.0), now ∙ ap (λ (v : View). keeping d.seat.me.0 v.witnessed) (sym now));
        goes_on = subst (λ (run : List ShownEvent). BeginsWith run (witnessed_by d.seat.me.0)) (sym kept) goes_on;
        log = tells.2.0;
        one = both.0;
        is = both.1 ∙ sym kept;
      };
      second = (
        c.split_seat.ensures.3 ∙ (c.load.ensures.0 ∙ (c.join_seat.ensures.0 ∙ (c.requires.0 ∙ sym c.requires.1))),
        gives_back c.load.new.seat.me.0 (keeping d.seat.me.0 events) view c.split_seat.result.me host c.split_seat.ensures.4 other.mirrors.seated other.alone,
      );
    }
