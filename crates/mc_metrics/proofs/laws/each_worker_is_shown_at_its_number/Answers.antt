use Rattle.std.proofs.Common.{◌≡◌, ◌∙◌, ◌==◌, false, ap, arith, map, refl, slice_get, sym}
use Rattle.std.proofs.lemmas.Bool.{ne_eqb}
use Rattle.mc_metrics.proofs.AtNumbers.{among, connections_of_workers, lag_of, leads, number_at, replayed_of_own}
use Rattle.mc_metrics.specs.Gathering.{replayed_in}
use Rattle.mc_metrics.specs.declared.snapshot.WorkerNumbers.{WorkerNumbers}
use Rattle.mc_metrics.proofs.laws.each_worker_is_shown_at_its_number.Goals as goal

pub returns-clause-numbers : goal.returns-clause-numbers
returns-clause-numbers c names shown snapshot gathers number numbers is =
    let generation = shown.logs.generation in
    number_at generation (replayed_in generation gathers.leader.worker) 0 shown.workers.items number number numbers (omega arith)
    (sym (ap (λ workers. slice_get workers number) gathers.workers) ∙ is)

pub returns-clause-connections : goal.returns-clause-connections
returns-clause-connections c names shown snapshot gathers =
    let generation = shown.logs.generation in
    ap (λ workers. map (λ (numbers : WorkerNumbers). numbers.connections) workers) gathers.workers
    ∙ connections_of_workers generation (replayed_in generation gathers.leader.worker) 0 shown.workers.items

pub returns-clause-lag : goal.returns-clause-lag
returns-clause-lag c names shown snapshot gathers latest number one numbers there is of_this =
    let generation = shown.logs.generation in
    let leader = gathers.leader in
    let ahead = leads generation shown.workers.items leader one gathers.furthest latest (among shown.workers.items number one there) of_this in
    let lag = lag_of names shown snapshot gathers number one numbers there is in
    let used : snapshot.log.used_places ≡ replayed_in generation leader.worker = ap (λ log. log.used_places) gathers.log in
    omega (arith, lag, used, replayed_of_own generation leader ahead.0, replayed_of_own generation one of_this, ahead.1)

pub returns-clause-earlier : goal.returns-clause-earlier
returns-clause-earlier c names shown snapshot gathers number one numbers there is of_earlier =
    let generation = shown.logs.generation in
    let lag = lag_of names shown snapshot gathers number one numbers there is in
    let test : (one.worker.generation == generation) ≡ false = ne_eqb _ _ (λ same. absurd (omega (arith, same, of_earlier))) in
    let none : replayed_in generation one.worker ≡ 0 = rw test refl in
    omega (arith, lag, none)
