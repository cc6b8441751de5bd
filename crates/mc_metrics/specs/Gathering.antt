-- What a scrape shows of a server whose workers show this; this project's profile. Each worker has
-- tables of its own, and those of the one that has come furthest are the latest.
use Rattle.std.specs.Prelude.{◌≡◌, ◌==◌, ◌<◌, ◌≤◌, ◌⊎◌, ◌+◌, ◌-◌, ℕ, List, [], ◌∷◌, All, Contains, if◌then◌else◌, min, slice_get, unwrap_or}
use Rattle.mc_counters.specs.Tallied.{tally_of_both}
use Rattle.mc_counters.specs.declared.board.TenantShown.{TenantShown}
use Rattle.mc_counters.specs.declared.board.WorkerShown.{WorkerShown}
use Rattle.mc_counters.specs.declared.tally.Tally.{Tally}
use Rattle.mc_counters.specs.declared.tally.TheConstants.Tally.{NONE}
use Rattle.mc_metrics.specs.declared.gathering.ServerShown.{ServerShown}
use Rattle.mc_metrics.specs.declared.gathering.Shown.{Shown}
use Rattle.mc_metrics.specs.declared.gathering.TheConstants.{NOTHING, NO_WORKER}
use Rattle.mc_metrics.specs.declared.snapshot.LogNumbers.{LogNumbers}
use Rattle.mc_metrics.specs.declared.snapshot.Snapshot.{Snapshot}
use Rattle.mc_metrics.specs.declared.snapshot.TenantNumbers.{TenantNumbers}
use Rattle.mc_metrics.specs.declared.snapshot.WorkerNumbers.{WorkerNumbers}

-- a worker has come no further than another: it replays an earlier log, or the same one, of which
-- it has replayed no more places
abbrev pub IsNoFurther : WorkerShown → WorkerShown → Type 0
IsNoFurther one other =
    (one.generation < other.generation)
    ⊎ (one.generation ≡ other.generation) × (one.replayed ≤ other.replayed)

-- This is one of the workers, and none of them has come further.
pub record IsFurthest (workers : List Shown) (one : Shown) : Type 0 where
  pub among : Contains workers one
  pub most : All (λ (other : Shown). IsNoFurther other.worker one.worker) workers

-- how many places a worker has replayed of the log of this number, and how many bytes their
-- commands keep
abbrev pub replayed_in : ℕ → WorkerShown → ℕ
replayed_in generation worker = if worker.generation == generation then worker.replayed else 0

abbrev pub kept_in : ℕ → WorkerShown → ℕ
kept_in generation worker = if worker.generation == generation then worker.bytes else 0

-- what a worker shows of the tenant of this number
abbrev pub tenant_shown : ℕ → Shown → TenantShown
tenant_shown number shown = unwrap_or (slice_get shown.tenants.items number) NOTHING

-- how many connections of the tenant these workers serve, as far as 64 bits count them
abbrev pub connections_shown : ℕ → List Shown → ℕ
connections_shown number [] = 0
connections_shown number (first ∷ rest) =
    min ((tenant_shown number first).connections + connections_shown number rest)
    18446744073709551615

-- how a worker shows that it has answered the requests of the tenant of this number
abbrev pub tally_at : ℕ → Shown → Tally
tally_at number shown = unwrap_or (slice_get shown.tallies.items number) NONE

-- how these workers together have answered the requests of the tenant
abbrev pub tally_shown : ℕ → List Shown → Tally
tally_shown number [] = NONE
tally_shown number (first ∷ rest) =
    tally_of_both (tally_at number first) (tally_shown number rest)

-- the numbers of a tenant: those of its table at this worker, and its connections and requests at
-- all
abbrev pub tenant_numbers : List Shown → Shown → ℕ → List ℕ → TenantNumbers
tenant_numbers workers leader number name = record {
  name = name;
  items = (tenant_shown number leader).items;
  bytes = (tenant_shown number leader).bytes;
  quotas = (tenant_shown number leader).quotas;
  connections = connections_shown number workers;
  tally = tally_shown number workers;
}

-- the numbers of tenants, which are numbered from this number on
abbrev pub tenants_shown : List Shown → Shown → ℕ → List (List ℕ) → List TenantNumbers
tenants_shown workers leader number [] = []
tenants_shown workers leader number (name ∷ names) =
    tenant_numbers workers leader number name ∷ tenants_shown workers leader (number + 1) names

-- the numbers of workers, which are numbered from this number on: each lags behind by the used
-- places that it hasn't replayed
abbrev pub workers_shown : ℕ → ℕ → ℕ → List Shown → List WorkerNumbers
workers_shown generation used number [] = []
workers_shown generation used number (first ∷ rest) =
    record {
      number = number;
      lag = used - replayed_in generation first.worker;
      connections = first.worker.connections;
    } ∷ workers_shown generation used (number + 1) rest

-- the numbers of the log that is served, of which this worker has replayed all places that are
-- used, and of those before it
abbrev pub log_shown : ServerShown → WorkerShown → LogNumbers
log_shown shown leader = record {
  places = shown.places;
  used_places = replayed_in shown.logs.generation leader;
  bytes = kept_in shown.logs.generation leader;
  generation = shown.logs.generation;
  turn_overs = shown.logs.turn_overs;
  turn_over_micros = shown.logs.turn_over_micros;
}

-- The snapshot of a server without a worker shows no tenant and no worker, and of the log that is
-- served no places that are used.
pub record GathersNone (shown : ServerShown) (snapshot : Snapshot) : Type 0 where
  pub tenants : snapshot.tenants.items ≡ []
  pub workers : snapshot.workers.items ≡ []
  pub log : snapshot.log ≡ log_shown shown NO_WORKER
  pub memory : snapshot.resident_bytes ≡ shown.resident_bytes

-- The snapshot has the numbers of the tenants with these names: as the worker shows their tables
-- that has come furthest, and of their requests to all workers.
pub record Gathers (names : List (List ℕ)) (shown : ServerShown) (snapshot : Snapshot) : Type 0 where
  pub leader : Shown
  pub furthest : IsFurthest shown.workers.items leader
  pub tenants : snapshot.tenants.items ≡ tenants_shown shown.workers.items leader 0 names
  pub workers : snapshot.workers.items
      ≡ workers_shown shown.logs.generation (replayed_in shown.logs.generation leader.worker) 0
      shown.workers.items
  pub log : snapshot.log ≡ log_shown shown leader.worker
  pub memory : snapshot.resident_bytes ≡ shown.resident_bytes
