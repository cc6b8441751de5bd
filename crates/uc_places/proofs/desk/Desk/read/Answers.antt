-- A load of the next place's word, which is the read (`Moves`); the numbers follow what was
-- learned.
use Rattle.std.proofs.Common.{◌≡◌, ◌+◌, sym, refl, ap, ◌∙◌, subst, arith, ⊎_elim, Option, Some}
use Rattle.atomic_table.specs.Seated.{TableId}
use Rattle.mc_model.specs.declared.id.Ticket.{Ticket}
use Rattle.mc_model.specs.declared.shown.Phase.{Phase}
use Rattle.mc_model.specs.Lawful.{reads}
use Rattle.mc_model.specs.Shown.{learn, read}
use Rattle.uc_places.specs.declared.view.Call.TheVariants.{Read}
use Rattle.uc_places.specs.declared.view.View.{View}
use Rattle.uc_places.specs.Desk.{Mirrors}
use Rattle.uc_places.specs.Told.{SeatState, moved_on}
use Rattle.uc_places.specs.Words.{found_in}
use Rattle.uc_places.proofs.Mirroring.{found_some, mirrors_learned, small_ticket, words_of}
use Rattle.uc_places.proofs.Moves.{reads_at}
use Rattle.uc_places.proofs.SeatLaws.{last_after, law_after}
use Rattle.uc_places.proofs.desk.Desk.read.Goals as goal

pub load-found-requires : goal.load-found-requires
load-found-requires c = let d = c.args.self.now in let m = d.mirrors in let workers = m.workers in let learned = m.learned in
    let room = c.requires.room in let words = d.words in
    let few = ap (λ (z : TableId). z.words) c.requires.place in let word = c.next_word-word.ensures in (
      c.requires.place,
      omega arith,
      reads_at _ _ d.seat.me m.seated d.alone _ _ (omega arith) c.requires.phase c.requires.room,
    )

pub invariant_of-self-2 : goal.invariant_of-self-2
invariant_of-self-2 c =
    let d = c.args.self.now in let view = d.seat.me.0 in let m = d.mirrors in let tells = c.load-found.ensures.2 in
    let ticket = c.ticket_in-ticket.result in let some = c.if-found-eq0.false in
    let last = c.load-found.new.seat.me.0.last in let state = learn view.worker view.state.phase ticket view.state in
    let seen : found_in c.load-found.result ≡ Some ticket = found_some _ ticket some c.ticket_in-ticket.ensures in
    let now : c.load-found.new.seat.me.0 ≡ moved_on view Read state last =
    ap (λ (z : SeatState). z.0) tells.0 ∙ ap (λ (o : Option Ticket). moved_on view Read (read view.worker o view.state) last) seen in
    let learned = m.learned in let room = c.requires.room in let low = m.proposals_few in
    let small = small_ticket _ _ ticket tells.1 some c.ticket_in-ticket.ensures in
    record {
      words = subst (λ (v : View). c.load-found.new.seat.table_id.words ≡ 1 + v.size.workers + v.size.places) (sym now)
          (words_of _ _ _ (sym c.load-found.ensures.0) d.words);
      mirrors = subst (λ (v : View). Mirrors v c.learn.new.self) (sym now) (subst (Mirrors (moved_on view Read state last)) (sym c.learn.ensures)
          (mirrors_learned Read last view state d.numbers ticket d.numbers.proposals d.numbers.phase m
          (⊎_elim (λ idle same. (let e = sym idle ∙ m.phase ∙ same in cc)) (λ pending same. (let e = sym pending ∙ m.phase ∙ same in cc)) c.requires.phase)
          refl (ap (λ (p : Phase). (learn view.worker p ticket view.state).phase) m.phase) refl refl m.proposals small.0 (omega arith)
          (omega arith) m.proposals_helped));
      law = law_after view c.load-found.new.seat.me.0 (reads view.worker) Read _ (ap (λ (z : SeatState). z.0) tells.0) tells.4;
      reached = last_after view c.load-found.new.seat.me.0 (reads view.worker) Read _ (ap (λ (z : SeatState). z.0) tells.0) tells.4;
      alone = ap (λ (z : SeatState). z.0.joined) tells.0 ∙ d.alone;
      holds_no_slot = ap (λ (z : SeatState). z.1) tells.0 ∙ d.holds_no_slot;
    }

pub invariant_of-self-clause-reached : goal.invariant_of-self-clause-reached
invariant_of-self-clause-reached c = let view = c.args.self.now.seat.me.0 in let tells = c.load-found.ensures.2 in
    last_after view c.load-found.new.seat.me.0 (reads view.worker) Read _ (ap (λ (z : SeatState). z.0) tells.0) tells.4
