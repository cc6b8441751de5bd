-- The words are blank, which the invariant allows, and seats are given out one by one (`Seating`).
use Rattle.std.proofs.Common.{rules, arith, ℕ, [], ◌<◌, sym, ap, ◌∙◌, subst}
use Rattle.atomic_table.specs.Table.{opening}
use Rattle.mc_model.specs.declared.shown.LogSize.{LogSize}
use Rattle.uc_places.specs.Desk.{IsBlank}
use Rattle.uc_places.specs.Reached.{LastIsReached}
use Rattle.uc_places.specs.Rule.{IsKept}
use Rattle.uc_places.specs.Told.{SeatState, fewer, first_of, spare_from}
use Rattle.uc_places.proofs.Closing.{snoc_length, snoc_seats}
use Rattle.uc_places.proofs.SeatLaws.{last_of_new}
use Rattle.uc_places.proofs.Seating.{deals, starts}
use Rattle.uc_places.proofs.whole.open.Goals as goal

pub of_words-requires : goal.of_words-requires
of_words-requires c =
    let blank : IsBlank c.as_slice.result.now c.args.workers c.args.places = search rules in
    let size : ℕ → LogSize = λ workers. record { workers = workers; places = c.args.places } in
    subst (λ (workers : ℕ). IsKept (size workers) (opening c.as_slice.result.now [] (spare_from (size workers) 0))) (sym c.from.ensures)
    (starts (size c.args.workers) c.as_slice.result.now (
      c.requires.workers.0,
      c.requires.workers.1,
      c.requires.places.1,
    ) blank.wide blank.first blank.blank)

pub split_seat-seat-requires : goal.split_seat-seat-requires
split_seat-seat-requires c = let i = c.loop-number.invariant in let view = c.loop-number.spare.me.0 in
    let some_worker = c.requires.workers.0 in let below = c.loop-number-test.true in
    let wide = c.in_ok-table.ensures.0 in (
      i.table,
      (let blank : IsBlank c.as_slice.result.now c.args.workers c.args.places = search rules in let long = blank.wide in omega arith),
      deals _ c.loop-number.spare.id view (ap (λ (m : SeatState). m.0.kind) i.spare) (subst (λ (m : SeatState). m.0.worker < m.0.size.workers)
          (sym i.spare) below),
    )

pub loop-number-preserved : goal.loop-number-preserved
loop-number-preserved c = let i = c.loop-number.invariant in let e = c.split_seat-seat.ensures in record {
  table = e.0 ∙ i.table;
  spare = e.2 ∙ (λ j. (fewer (i.spare j).0, (i.spare j).1));
  count = snoc_length _ _ _ _ c.in_ok-push.ensures.items i.count;
  seats = snoc_seats _ _ _ _ _ _ c.in_ok-push.ensures.items i.count i.seats (
    e.3 ∙ i.table,
    ap (λ (m : SeatState). m.0) e.4
        ∙ ap (λ (m : SeatState). first_of m.0) i.spare,
  );
}

pub invariant_of-push-clause-reached : goal.invariant_of-push-clause-reached
invariant_of-push-clause-reached c = let i = c.loop-number.invariant in let e = c.split_seat-seat.ensures in
    subst LastIsReached (sym (ap (λ m. m.0) e.4 ∙ ap (λ (m : SeatState). first_of m.0) i.spare))
    (last_of_new _ c.loop-number.number c.loop-number-test.true)
