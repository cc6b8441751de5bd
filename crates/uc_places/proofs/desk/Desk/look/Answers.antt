-- A load of the word of the worker whose turn it is, which is the look (`Moves`); the ticket is the
-- one that the look makes the worker propose.
use Rattle.std.proofs.Common.{◌≡◌, ◌<◌, ◌+◌, ◌%◌, sym, ap, ◌∙◌, subst, arith}
use Rattle.atomic_table.specs.Seated.{TableId}
use Rattle.mc_model.specs.declared.shown.Phase.TheVariants.{Looked}
use Rattle.mc_model.specs.Lawful.{looks, turn}
use Rattle.mc_model.specs.Shown.{look}
use Rattle.uc_places.specs.declared.view.Call.TheVariants.{Look}
use Rattle.uc_places.specs.declared.view.View.{View}
use Rattle.uc_places.specs.Desk.{Mirrors}
use Rattle.uc_places.specs.Told.{SeatState, moved_on}
use Rattle.uc_places.specs.Words.{said_word}
use Rattle.uc_places.proofs.Mirroring.{mirrors_looked, words_of}
use Rattle.uc_places.proofs.Moves.{looks_at_word}
use Rattle.uc_places.proofs.SeatLaws.{last_after, law_after}
use Rattle.uc_places.proofs.desk.Desk.look.Goals as goal

pub load-found-requires : goal.load-found-requires
load-found-requires c = let d = c.args.self.now in let m = d.mirrors in let workers = m.workers in let small = m.small in
    let some_worker = small.0 in let words = d.words in
    let few = ap (λ (z : TableId). z.words) c.requires.place in (
      c.requires.place,
      omega arith,
      looks_at_word _ _ d.seat.me m.seated d.alone _ _ (λ i. 1 + (sym m.learned i) % (sym m.workers i)) c.requires.pending c.requires.room c.requires.marked,
    )

pub invariant_of-self : goal.invariant_of-self
invariant_of-self c =
    let d = c.args.self.now in let view = d.seat.me.0 in let m = d.mirrors in let tells = c.load-found.ensures.2 in let small = m.small in
    let some_worker = small.0 in let few = small.1 in
    let workers = m.workers in let learned = m.learned in let room = c.requires.room in
    let here : d.numbers.learned < view.size.places = omega arith in
    let below : d.numbers.learned % d.numbers.workers < 16 = omega arith in
    let at : d.numbers.learned % d.numbers.workers ≡ turn view.size view.state = λ i. (sym m.learned i) % (sym m.workers i) in
    let now : c.load-found.new.seat.me.0 ≡ moved_on view Look (look (turn view.size view.state) c.load-found.result view.state) c.load-found.new.seat.me.0.last =
    ap (λ (z : SeatState). z.0) tells.0 in
    record {
      words = words_of _ _ _ (sym c.load-found.ensures.0) (subst (λ (v : View). d.seat.table_id.words ≡ 1 + v.size.workers + v.size.places) (sym now) d.words);
      mirrors = subst (λ (v : View). Mirrors v (record d.numbers { proposal = c.word_of-self.result; phase = Looked })) (sym now) (mirrors_looked _ view d.numbers (d.numbers.learned % d.numbers.workers) c.load-found.result
          _ m below at here (c.word_of-self.ensures ∙ ap said_word c.proposed.ensures));
      law = law_after view c.load-found.new.seat.me.0 (looks view.worker) Look _ now tells.2;
      reached = last_after view c.load-found.new.seat.me.0 (looks view.worker) Look _ now tells.2;
      alone = ap (λ (z : SeatState). z.0.joined) tells.0 ∙ d.alone;
      holds_no_slot = ap (λ (z : SeatState). z.1) tells.0 ∙ d.holds_no_slot;
    }
