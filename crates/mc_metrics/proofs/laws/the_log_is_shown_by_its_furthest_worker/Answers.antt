use Rattle.std.proofs.Common.{◌≡◌, ◌∙◌, ◌==◌, true, ap, eq-eqb, refl, sym}
use Rattle.mc_metrics.proofs.AtNumbers.{leads, replayed_of_own}
use Rattle.mc_metrics.specs.Gathering.{kept_in, replayed_in}
use Rattle.mc_metrics.proofs.laws.the_log_is_shown_by_its_furthest_worker.Goals as goal

pub returns-clause-bytes : goal.returns-clause-bytes
returns-clause-bytes c names shown snapshot gathers latest one is_one of_this =
    let generation = shown.logs.generation in
    let leader = gathers.leader in
    let ahead = leads generation shown.workers.items leader one gathers.furthest latest is_one of_this in
    let used : snapshot.log.used_places ≡ replayed_in generation leader.worker = ap (λ log. log.used_places) gathers.log in
    let bytes : snapshot.log.bytes ≡ kept_in generation leader.worker = ap (λ log. log.bytes) gathers.log in
    let test : (leader.worker.generation == generation) ≡ true = eq-eqb _ _ ahead.0 in
    let kept : kept_in generation leader.worker ≡ leader.worker.bytes = rw test refl in
    (leader, gathers.furthest.among, ahead.0, sym (used ∙ replayed_of_own generation leader ahead.0), sym (bytes ∙ kept))
