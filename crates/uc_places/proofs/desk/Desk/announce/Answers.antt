-- The worker's own word is raised by one, which is the announcement (`Moves`).
use Rattle.std.proofs.Common.{ℕ, ◌+◌, ◌∙◌, sym, ap, arith}
use Rattle.atomic_table.specs.Seated.{TableId}
use Rattle.mc_model.specs.Lawful.{announces}
use Rattle.uc_places.specs.declared.view.Call.TheVariants.{Announce}
use Rattle.uc_places.specs.Told.{SeatState}
use Rattle.uc_places.proofs.Moves.{announces_at}
use Rattle.uc_places.proofs.SeatLaws.{last_after}
use Rattle.uc_places.proofs.desk.Desk.announce.Goals as goal

pub fetch_add-before-requires : goal.fetch_add-before-requires
fetch_add-before-requires c = let d = c.args.self.now in let m = d.mirrors in let inside = m.inside in let workers = m.workers in
    let words = d.words in
    let few = ap (λ (z : TableId). z.words) c.requires.place in let word = c.own_word-word.ensures in (
      c.requires.place,
      omega arith,
      announces_at _ _ d.seat.me m.seated d.alone _ _ (word ∙ ap (λ (number : ℕ). 1 + number) (sym m.worker)) c.requires.idle c.requires.room,
    )

pub invariant_of-self-clause-reached : goal.invariant_of-self-clause-reached
invariant_of-self-clause-reached c = let view = c.args.self.now.seat.me.0 in let tells = c.fetch_add-before.ensures.2 in
    last_after view c.fetch_add-before.new.seat.me.0 (announces view.worker) Announce _ (ap (λ (z : SeatState). z.0) tells.0) tells.3
