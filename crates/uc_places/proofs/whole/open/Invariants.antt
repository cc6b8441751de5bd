-- The spare seat stands for the workers from this one on; each before has its seat.
use Rattle.std.proofs.Common.{◌≡◌, ℕ, length, [], slice_get, Some}
use Rattle.mc_model.specs.declared.shown.LogSize.{LogSize}
use Rattle.uc_places.specs.declared.seats.Idle.{Idle}
use Rattle.uc_places.specs.Told.{new_seat, spare_from}
use Rattle.uc_places.proofs.whole.open.Given as goal

abbrev pub invariant-loop-number : goal.invariant-loop-number
invariant-loop-number l = let size : LogSize = record { workers = l.workers; places = l.places } in record {
  table : l.spare.table_id ≡ l.table.shared.table_id;
  spare : l.spare.me ≡ (spare_from size l.number, []);
  count : length l.seats.items ≡ l.number;
  seats : (worker : ℕ) (seat : Idle) → slice_get l.seats.items worker ≡ Some seat →
      (seat.desk.seat.table_id ≡ l.table.shared.table_id) × (seat.desk.seat.me.0 ≡ new_seat size worker);
}
