-- One load keeps the run (`Moves`).
use Rattle.std.proofs.Common.{◌≡◌, ◌+◌, List, ◌∷◌, ap, sym, subst, ◌∙◌, arith}
use Rattle.atomic_table.specs.Seated.{TableId}
use Rattle.uc_places.specs.declared.view.Part.{Part}
use Rattle.uc_places.specs.declared.view.View.{View}
use Rattle.uc_places.specs.Desk.{Mirrors}
use Rattle.uc_places.specs.Reached.{LastIsReached}
use Rattle.uc_places.specs.Run.{AreOneRun, part_of, witnessed_by}
use Rattle.uc_places.specs.SeatLaw.{SeatLaw}
use Rattle.uc_places.specs.Told.{SeatState, keeping}
use Rattle.uc_places.proofs.Mirroring.{mirrors_keeping, words_of}
use Rattle.uc_places.proofs.Moves.{witnesses_word}
use Rattle.uc_places.proofs.SeatLaws.{last_keeping}
use Rattle.uc_places.proofs.desk.Desk.witness.Goals as goal

pub load-requires : goal.load-requires
load-requires c = let d = c.args.self.now in let words = d.words in let few = ap (λ (z : TableId). z.words) c.requires in
    (c.requires, omega arith, witnesses_word _ d.seat.id d.seat.me d.mirrors.seated _)

pub invariant_of-self : goal.invariant_of-self
invariant_of-self c = let d = c.args.self.now in let view = d.seat.me.0 in let events = c.load.new.seat.me.0.witnessed in
    let now : c.load.new.seat.me.0 ≡ keeping view events = ap (λ (m : SeatState). m.0) c.load.ensures.2.0 in record {
      words = words_of _ _ _ (sym c.load.ensures.0) (subst (λ (v : View). d.seat.table_id.words ≡ 1 + v.size.workers + v.size.places) (sym now) d.words);
      mirrors = subst (λ (v : View). Mirrors v d.numbers) (sym now) (mirrors_keeping view events d.numbers d.mirrors);
      law = subst (λ (v : View). SeatLaw v.size v.worker v.state) (sym now) d.law;
      reached = subst LastIsReached (sym now) (last_keeping view events d.reached);
      alone = ap (λ (v : View). v.joined) now ∙ d.alone;
      holds_no_slot = ap (λ (m : SeatState). m.1) c.load.ensures.2.0 ∙ d.holds_no_slot;
    }

pub returns : goal.returns
returns c = let d = c.args.self.now in let view = d.seat.me.0 in let tells = c.load.ensures.2 in
    let one = subst (λ (l : List Part). (one : AreOneRun view.size (part_of view ∷ l) tells.2.0) × (one.run ≡ witnessed_by c.load.new.seat.me.0))
    d.alone (tells.2.1, tells.2.2) in record {
      seat = (c.load.ensures.0, ap (λ (m : SeatState). m.0) tells.0);
      goes_on = tells.1;
      log = tells.2.0;
      one = one.0;
      is = one.1;
    }
