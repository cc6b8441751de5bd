-- One compare-exchange of the next place's word, which is the proposal (`Moves`).
use Rattle.std.proofs.Common.{◌≡◌, ◌+◌, inl, inr, ap, sym, ◌∙◌, subst, unwrap_or, arith}
use Rattle.atomic_table.specs.Seated.{TableId}
use Rattle.mc_model.specs.Lawful.{proposes}
use Rattle.mc_model.specs.Shown.{proposal, propose}
use Rattle.uc_places.specs.declared.desk.Numbers.{Numbers}
use Rattle.uc_places.specs.declared.view.Call.TheVariants.{Propose}
use Rattle.uc_places.specs.declared.view.View.{View}
use Rattle.uc_places.specs.Desk.{Mirrors}
use Rattle.uc_places.specs.SeatLaw.{SeatLaw}
use Rattle.uc_places.specs.Told.{SeatState, moved_on}
use Rattle.uc_places.specs.Words.{found_in}
use Rattle.uc_places.proofs.Mirroring.{mirrors_proposed, proposed_inside, stood, words_of}
use Rattle.uc_places.proofs.Moves.{proposes_at}
use Rattle.uc_places.proofs.SeatLaws.{last_after, law_after, seat_law}
use Rattle.uc_places.proofs.desk.Desk.propose.Goals as goal
use Rattle.uc_places.proofs.desk.Desk.propose.Goals.{then-found-eq0, else-found-eq0}

pub compare_exchange-found-requires : goal.compare_exchange-found-requires
compare_exchange-found-requires c = let d = c.args.self.now in let m = d.mirrors in let workers = m.workers in let learned = m.learned in
    let room = m.room c.requires.looked in let words = d.words in
    let few = ap (λ (z : TableId). z.words) c.requires.place in let place = c.next_word-place.ensures in (
      c.requires.place,
      omega arith,
      proposes_at _ _ d.seat.me m.seated d.alone _ _ _ (omega arith) (m.word c.requires.looked) c.requires.looked,
    )

-- what stands at the place then is a ticket of this log
pub learn-requires-clause-small : goal.learn-requires-clause-small
learn-requires-clause-small c =
    let view = c.args.self.now.seat.me.0 in let m = c.args.self.now.mirrors in let tells = c.compare_exchange-found.ensures.2 in
    let found = found_in c.compare_exchange-found.result in
    let stands : c.ticket_in-ticket.result ≡ unwrap_or found (proposal view.worker view.state) =
    stood c.compare_exchange-found.result c.args.self.now.numbers.proposal c.if-found-eq0.stands _ _ (m.word c.requires.looked)
    (m.proposes c.requires.looked) (elim c.if-found-eq0.branch [
      | then-found-eq0 w ↦ inl (w.if-found-eq0.true, w.stands-is)
      | else-found-eq0 w ↦ inr (w.if-found-eq0.false, w.stands-is)
    ]) c.ticket_in-ticket.ensures in
    let law : SeatLaw view.size view.worker (propose view.worker found view.state) = seat_law view.size _ view.worker _ tells.4.4 tells.4.6 in
    let inside = proposed_inside view c.ticket_in-ticket.result found law stands in
    let low = inside.1 in let small = m.small in let few = small.2 in let learned = m.learned in let room = m.room c.requires.looked in (omega arith, omega arith)

pub invariant_of-self : goal.invariant_of-self
invariant_of-self c =
    let view = c.args.self.now.seat.me.0 in let m = c.args.self.now.mirrors in let tells = c.compare_exchange-found.ensures.2 in
    let found = found_in c.compare_exchange-found.result in
    let stands : c.ticket_in-ticket.result ≡ unwrap_or found (proposal view.worker view.state) =
    stood c.compare_exchange-found.result c.args.self.now.numbers.proposal c.if-found-eq0.stands _ _ (m.word c.requires.looked)
    (m.proposes c.requires.looked) (elim c.if-found-eq0.branch [
      | then-found-eq0 w ↦ inl (w.if-found-eq0.true, w.stands-is)
      | else-found-eq0 w ↦ inr (w.if-found-eq0.false, w.stands-is)
    ]) c.ticket_in-ticket.ensures in
    let law : SeatLaw view.size view.worker (propose view.worker found view.state) = seat_law view.size _ view.worker _ tells.4.4 tells.4.6 in
    let inside = proposed_inside view c.ticket_in-ticket.result found law stands in
    let below = inside.0 in let small = m.small in let few = small.1 in
    let now : c.compare_exchange-found.new.seat.me.0 ≡ moved_on view Propose (propose view.worker found view.state) c.compare_exchange-found.new.seat.me.0.last =
    ap (λ (z : SeatState). z.0) tells.0 in
    record {
      words = words_of _ _ _ (sym c.compare_exchange-found.ensures.0) (subst (λ (v : View). c.args.self.now.seat.table_id.words ≡ 1 + v.size.workers
          + v.size.places) (sym now) c.args.self.now.words);
      mirrors = subst (λ (v : View). Mirrors v (record c.learn.new.self { proposals = c.learn.new.self.proposals + 1 })) (sym now)
          (subst (λ (n : Numbers). Mirrors (moved_on view Propose (propose view.worker found view.state) c.compare_exchange-found.new.seat.me.0.last)
          (record n { proposals = n.proposals + 1 })) (sym c.learn.ensures)
          (mirrors_proposed _ view c.args.self.now.numbers c.ticket_in-ticket.result found m c.requires.looked stands (omega arith) tells.3));
      law = law_after view c.compare_exchange-found.new.seat.me.0 (proposes view.worker) Propose _ now tells.4;
      reached = last_after view c.compare_exchange-found.new.seat.me.0 (proposes view.worker) Propose _ now tells.4;
      alone = ap (λ (z : SeatState). z.0.joined) tells.0 ∙ c.args.self.now.alone;
      holds_no_slot = ap (λ (z : SeatState). z.1) tells.0 ∙ c.args.self.now.holds_no_slot;
    }
