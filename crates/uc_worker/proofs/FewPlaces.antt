-- A log with fewer places than workers closes at its end.
use Rattle.std.proofs.Common.{◌≡◌, ◌↔◌, ◌<◌, ◌≤◌, length, Bool, if◌then◌else◌, ap, arith}
use Rattle.std.proofs.lemmas.Bool.{lt-leb}
use Rattle.mc_model.specs.declared.shown.LogSize.{LogSize}
use Rattle.uc_worker.specs.declared.worker.Worker.{Worker}
use Rattle.uc_worker.specs.Worker.{IsClosing, places_kept, seat_of}

-- where there are fewer places than workers, one alone is kept free
kept_of_few : (size : LogSize) → size.places < size.workers → places_kept size ≡ 1
kept_of_few size few = ap (λ (room : Bool). if room then size.workers else 1) (lt-leb size.workers size.places few)

pub closes_at_its_end : (worker : Worker) → (seat_of worker).size.places < (seat_of worker).size.workers →
    IsClosing worker ↔ (seat_of worker).size.places ≤ length (seat_of worker).state.learned
closes_at_its_end worker few = let kept = kept_of_few (seat_of worker).size few in
    ((λ closing. omega (arith, kept, closing)), (λ full. omega (arith, kept, full)))
