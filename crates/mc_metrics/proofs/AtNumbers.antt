-- What stands at a number of the lists that a scrape shows.
use Rattle.std.proofs.Common.{◌≡◌, ◌≤◌, ◌<◌, ◌+◌, ◌-◌, ◌==◌, ◌∙◌, ℕ, zero, suc, List, [], ◌∷◌, Some, map, ap, arith, refl, sum_by, slice_get, min, sym, true, All, Contains, ⊎_elim, eq-eqb}
use Rattle.std.proofs.lemmas.List.Elements.{All-contains}
use Rattle.std.proofs.lemmas.List.Sums.{sum_by-cons}
use Rattle.std.proofs.lemmas.Option.{get_or_from_slice_get, same_Some, slice_get_within}
use Rattle.mc_counters.specs.Tallied.{capped}
use Rattle.mc_metrics.specs.Gathering.{Gathers, IsFurthest, IsNoFurther, connections_shown, replayed_in, tenant_numbers, tenant_shown, tenants_shown, workers_shown}
use Rattle.mc_metrics.specs.declared.gathering.ServerShown.{ServerShown}
use Rattle.mc_metrics.specs.declared.gathering.Shown.{Shown}
use Rattle.mc_metrics.specs.declared.snapshot.Snapshot.{Snapshot}
use Rattle.mc_metrics.specs.declared.snapshot.TenantNumbers.{TenantNumbers}
use Rattle.mc_metrics.specs.declared.snapshot.WorkerNumbers.{WorkerNumbers}

-- the tenants have the names, in their order
pub names_of_tenants : (workers : List Shown) (leader : Shown) (first : ℕ) (names : List (List ℕ)) → map (λ (tenant : TenantNumbers). tenant.name) (tenants_shown workers leader first names) ≡ names
names_of_tenants workers leader first [] = refl
names_of_tenants workers leader first (name ∷ names) = ap (λ rest. name ∷ rest) (names_of_tenants workers leader (first + 1) names)

-- the tenant at a place has the numbers of that place, under some name
tenant_at : (workers : List Shown) (leader : Shown) (first : ℕ) (names : List (List ℕ)) (place number : ℕ) (tenant : TenantNumbers)
    → number ≡ first + place → slice_get (tenants_shown workers leader first names) place ≡ Some tenant → (name : List ℕ) × (tenant ≡ tenant_numbers workers leader number name)
tenant_at workers leader first [] place number tenant here is = absurd cc
tenant_at workers leader first (name ∷ names) zero number tenant here is =
    let same : first ≡ number = omega (arith, here) in
    (name, sym (same_Some _ _ is) ∙ ap (λ number. tenant_numbers workers leader number name) same)
tenant_at workers leader first (name ∷ names) (suc place) number tenant here is = tenant_at workers leader (first + 1) names place number tenant (omega (arith, here)) is

pub tenant_of : (names : List (List ℕ)) (shown : ServerShown) (snapshot : Snapshot) (gathers : Gathers names shown snapshot) (number : ℕ) (tenant : TenantNumbers)
    → slice_get snapshot.tenants.items number ≡ Some tenant → (name : List ℕ) × (tenant ≡ tenant_numbers shown.workers.items gathers.leader number name)
tenant_of names shown snapshot gathers number tenant is =
    tenant_at shown.workers.items gathers.leader 0 names number number tenant (omega arith) (sym (ap (λ tenants. slice_get tenants number) gathers.tenants) ∙ is)

-- a number that stops at the largest, and another
min-rest : (largest m n : ℕ) → min (m + min n largest) largest ≡ min (m + n) largest
min-rest largest m n = omega arith

-- the connections at these workers are summed up
pub connections_add_up : (number : ℕ) (workers : List Shown) → connections_shown number workers ≡ capped (sum_by (λ one. (tenant_shown number one).connections) workers)
connections_add_up number [] = refl
connections_add_up number (first ∷ rest) =
    let here : Shown → ℕ = λ one. (tenant_shown number one).connections in
    let largest : ℕ = 18446744073709551615 in
    ap (λ others. min (here first + others) largest) (connections_add_up number rest) ∙ min-rest largest (here first) (sum_by here rest)
    ∙ ap (λ sum. min sum largest) (sym (sum_by-cons here first rest))

-- the worker at a place has that number
pub number_at : (generation used first : ℕ) (workers : List Shown) (place number : ℕ) (numbers : WorkerNumbers)
    → number ≡ first + place → slice_get (workers_shown generation used first workers) place ≡ Some numbers → numbers.number ≡ number
number_at generation used first [] place number numbers here is = absurd cc
number_at generation used first (one ∷ workers) zero number numbers here is =
    let same : first ≡ number = omega (arith, here) in
    ap (λ (numbers : WorkerNumbers). numbers.number) (sym (same_Some _ _ is)) ∙ same
number_at generation used first (one ∷ workers) (suc place) number numbers here is = number_at generation used (first + 1) workers place number numbers (omega (arith, here)) is

-- the workers have their connections
pub connections_of_workers : (generation used first : ℕ) (workers : List Shown)
    → map (λ (numbers : WorkerNumbers). numbers.connections) (workers_shown generation used first workers) ≡ map (λ (one : Shown). one.worker.connections) workers
connections_of_workers generation used first [] = refl
connections_of_workers generation used first (one ∷ workers) = ap (λ rest. one.worker.connections ∷ rest) (connections_of_workers generation used (first + 1) workers)

-- the worker at a place lags by the used places that it hasn't replayed
lag_at : (generation used first : ℕ) (workers : List Shown) (place : ℕ) (one : Shown) (numbers : WorkerNumbers)
    → slice_get workers place ≡ Some one → slice_get (workers_shown generation used first workers) place ≡ Some numbers → numbers.lag ≡ used - replayed_in generation one.worker
lag_at generation used first [] place one numbers there is = absurd cc
lag_at generation used first (other ∷ workers) zero one numbers there is =
    ap (λ (numbers : WorkerNumbers). numbers.lag) (sym (same_Some _ _ is)) ∙ ap (λ (one : Shown). used - replayed_in generation one.worker) (same_Some _ _ there)
lag_at generation used first (other ∷ workers) (suc place) one numbers there is = lag_at generation used (first + 1) workers place one numbers there is

pub lag_of : (names : List (List ℕ)) (shown : ServerShown) (snapshot : Snapshot) → Gathers names shown snapshot → (number : ℕ) (one : Shown) (numbers : WorkerNumbers)
    → slice_get shown.workers.items number ≡ Some one → slice_get snapshot.workers.items number ≡ Some numbers
    → numbers.lag ≡ snapshot.log.used_places - replayed_in shown.logs.generation one.worker
lag_of names shown snapshot gathers number one numbers there is =
    let generation = shown.logs.generation in
    let used : ℕ = replayed_in generation gathers.leader.worker in
    lag_at generation used 0 shown.workers.items number one numbers there (sym (ap (λ workers. slice_get workers number) gathers.workers) ∙ is)
    ∙ ap (λ log. log.used_places - replayed_in generation one.worker) (sym gathers.log)

-- what stands at a place is among the others
pub among : {X : Type 0} (xs : List X) (place : ℕ) (x : X) → slice_get xs place ≡ Some x → Contains xs x
among xs place x is = (place, slice_get_within xs place x is, get_or_from_slice_get xs place x x is)

-- where no worker is of a later log, and one is of this log, the one that has come furthest is of this log too, and has replayed no less
pub leads : (generation : ℕ) (workers : List Shown) (leader one : Shown) → IsFurthest workers leader → All (λ other. other.worker.generation ≤ generation) workers
    → Contains workers one → one.worker.generation ≡ generation → (leader.worker.generation ≡ generation) × (one.worker.replayed ≤ leader.worker.replayed)
leads generation workers leader one furthest latest is_one of_this =
    let within : leader.worker.generation ≤ generation = All-contains (λ other. other.worker.generation ≤ generation) workers leader latest furthest.among in
    ⊎_elim
    (λ (less : one.worker.generation < leader.worker.generation). absurd (omega (arith, less, within, of_this)))
    (λ (same : (one.worker.generation ≡ leader.worker.generation) × (one.worker.replayed ≤ leader.worker.replayed)). (sym same.0 ∙ of_this, same.1))
    (All-contains (λ other. IsNoFurther other.worker leader.worker) workers one furthest.most is_one)

-- what a worker has replayed of its own log
pub replayed_of_own : (generation : ℕ) (one : Shown) → one.worker.generation ≡ generation → replayed_in generation one.worker ≡ one.worker.replayed
replayed_of_own generation one is = let test : (one.worker.generation == generation) ≡ true = eq-eqb _ _ is in rw test refl
