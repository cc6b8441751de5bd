-- A worker that is alone closes its log at the end.
use Rattle.std.proofs.Common.{◌≡◌, ◌+◌, ◌<◌, ◌≤◌, length, Bool, true, false, if◌then◌else◌, refl, ap, arith}
use Rattle.std.proofs.lemmas.Bool.{le-leb}
use Rattle.std.specs.Bool.{nat_le}
use Rattle.mc_model.specs.declared.shown.LogSize.{LogSize}
use Rattle.uc_worker.specs.declared.worker.Worker.{Worker}
use Rattle.uc_worker.specs.Worker.{HasReplayedAll, IsClosing, IsUpToDate, places_kept, seat_of}

-- a worker alone keeps one place free: its own
kept_alone : (size : LogSize) → size.workers ≡ 1 → places_kept size ≡ 1
kept_alone size alone = by_room (nat_le size.workers size.places)
  where
    by_room : (room : Bool) → (if room then size.workers else 1) ≡ 1
    by_room true = alone
    by_room false = refl

pub closes_alone : (worker : Worker) → (seat_of worker).size.workers ≡ 1 → IsClosing worker → IsUpToDate worker → HasReplayedAll worker
closes_alone worker alone closing whole =
    let kept = kept_alone (seat_of worker).size alone in
    let places : (seat_of worker).size.places ≡ worker.log.now.settings.places = ap (λ (size : LogSize). size.places) worker.of.1 in
    let few = worker.pass.desk.law.few in omega (arith, kept, places, few, closing, whole)

-- where there are places for all workers, one is kept free for each
kept_for_each : (size : LogSize) → size.workers ≤ size.places → places_kept size ≡ size.workers
kept_for_each size enough = ap (λ (room : Bool). if room then size.workers else 1) (le-leb size.workers size.places enough)

pub leaves_each : (worker : Worker) → (seat_of worker).size.workers ≤ (seat_of worker).size.places → ¬ (IsClosing worker) →
    length (seat_of worker).state.learned + (seat_of worker).size.workers ≤ (seat_of worker).size.places
leaves_each worker enough going =
    let kept = kept_for_each (seat_of worker).size enough in omega (arith, kept, going)

pub closes_below : (worker : Worker) → (seat_of worker).size.workers ≤ (seat_of worker).size.places → IsClosing worker →
    (seat_of worker).size.places < length (seat_of worker).state.learned + (seat_of worker).size.workers
closes_below worker enough closing =
    let kept = kept_for_each (seat_of worker).size enough in omega (arith, kept, closing)
