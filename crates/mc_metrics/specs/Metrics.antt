-- The metrics that a scrape gets of the numbers of a server. Their names keep Prometheus' "Metric
-- and label naming": a prefix, base units, and `_total` for what only grows.
use Rattle.std.specs.Prelude.{ℕ, ◌/◌, ◌%◌, ◌+◌, List, [], ◌∷◌, ◌++◌, Option, Some, None, codes, decimal, flat_map, slice_index}
use Rattle.mc_model.specs.declared.reply.WireNo.{WireNo}
use Rattle.mc_model.specs.declared.reply.WireNo.TheVariants.{E1, E2, E3, E4, E5, E6, E7, E8, E9, E10, E11}
use Rattle.mc_counters.specs.Kinds.{place_of_kind, place_of_refusal}
use Rattle.mc_counters.specs.declared.kinds.CommandKind.{CommandKind}
use Rattle.mc_counters.specs.declared.kinds.CommandKind.TheVariants as kind
use Rattle.mc_counters.specs.declared.kinds.TheConstants.{COMMAND_KINDS, REFUSAL_KINDS}
use Rattle.mc_metrics.specs.Exposition.{LabelText, head_lines, sample_line}
use Rattle.mc_metrics.specs.declared.metric.Metric.{Metric}
use Rattle.mc_metrics.specs.declared.metric.Metric.TheVariants.{OfTenant, Commands, Refusals, OfWorker, OfServer, TurnOvers, Build}
use Rattle.mc_metrics.specs.declared.metric.ServerMetric.{ServerMetric}
use Rattle.mc_metrics.specs.declared.metric.ServerMetric.TheVariants.{Places, UsedPlaces, LogBytes, Generation, ResidentBytes}
use Rattle.mc_metrics.specs.declared.metric.TenantMetric.{TenantMetric}
use Rattle.mc_metrics.specs.declared.metric.TenantMetric.TheVariants.{Items, Bytes, ItemQuota, ByteQuota, Hits, Misses, Connections}
use Rattle.mc_metrics.specs.declared.metric.WorkerMetric.{WorkerMetric}
use Rattle.mc_metrics.specs.declared.metric.WorkerMetric.TheVariants as worker
use Rattle.mc_metrics.specs.declared.metric.TheConstants.{LOGIC, METRICS, TURN_OVER_COUNT, TURN_OVER_SUM, VERSION}
use Rattle.mc_metrics.specs.declared.snapshot.LogNumbers.{LogNumbers}
use Rattle.mc_metrics.specs.declared.snapshot.Snapshot.{Snapshot}
use Rattle.mc_metrics.specs.declared.snapshot.TenantNumbers.{TenantNumbers}
use Rattle.mc_metrics.specs.declared.snapshot.WorkerNumbers.{WorkerNumbers}

abbrev pub metric_name : Metric → List ℕ
metric_name (OfTenant Items) = codes "wfmc_tenant_items"
metric_name (OfTenant Bytes) = codes "wfmc_tenant_bytes"
metric_name (OfTenant ItemQuota) = codes "wfmc_tenant_quota_items"
metric_name (OfTenant ByteQuota) = codes "wfmc_tenant_quota_bytes"
metric_name (OfTenant Hits) = codes "wfmc_tenant_hits_total"
metric_name (OfTenant Misses) = codes "wfmc_tenant_misses_total"
metric_name (OfTenant Connections) = codes "wfmc_tenant_connections"
metric_name Commands = codes "wfmc_tenant_commands_total"
metric_name Refusals = codes "wfmc_tenant_refusals_total"
metric_name (OfWorker worker.Lag) = codes "wfmc_worker_lag_places"
metric_name (OfWorker worker.Connections) = codes "wfmc_worker_connections"
metric_name (OfServer Places) = codes "wfmc_log_places"
metric_name (OfServer UsedPlaces) = codes "wfmc_log_used_places"
metric_name (OfServer LogBytes) = codes "wfmc_log_bytes"
metric_name (OfServer Generation) = codes "wfmc_log_generation"
metric_name (OfServer ResidentBytes) = codes "process_resident_memory_bytes"
metric_name TurnOvers = codes "wfmc_turn_over_seconds"
metric_name Build = codes "wfmc_build_info"

abbrev pub metric_help : Metric → List ℕ
metric_help (OfTenant Items) = codes "Items that the tenant holds."
metric_help (OfTenant Bytes) = codes "Bytes of keys and data that the tenant holds."
metric_help (OfTenant ItemQuota) = codes "Items that the tenant may hold."
metric_help (OfTenant ByteQuota) = codes "Bytes of keys and data that the tenant may hold."
metric_help (OfTenant Hits) = codes "Items that retrievals found."
metric_help (OfTenant Misses) = codes "Keys of retrievals that had no item."
metric_help (OfTenant Connections) = codes "Connections of the tenant."
metric_help Commands = codes "Commands that were answered."
metric_help Refusals = codes "Requests that were refused."
metric_help (OfWorker worker.Lag) = codes "Used places of the log that the worker has yet to replay."
metric_help (OfWorker worker.Connections) = codes "Connections that the worker serves."
metric_help (OfServer Places) = codes "Places of the log."
metric_help (OfServer UsedPlaces) = codes "Places of the log that are used."
metric_help (OfServer LogBytes) = codes "Bytes that the commands in the log keep."
metric_help (OfServer Generation) = codes "Which log is served, counted from 1."
metric_help (OfServer ResidentBytes) = codes "Resident memory of the process in bytes."
metric_help TurnOvers = codes "Time from the end of a log to the beginning of the next."
metric_help Build = codes "The version that runs, and the logic that it is proved in."

abbrev pub metric_type : Metric → List ℕ
metric_type (OfTenant Hits) = codes "counter"
metric_type (OfTenant Misses) = codes "counter"
metric_type (OfTenant _) = codes "gauge"
metric_type Commands = codes "counter"
metric_type Refusals = codes "counter"
metric_type (OfWorker _) = codes "gauge"
metric_type (OfServer _) = codes "gauge"
metric_type TurnOvers = codes "summary"
metric_type Build = codes "gauge"

-- the label of a kind of commands: the name of its line
abbrev pub command_label : CommandKind → List ℕ
command_label kind.Get = codes "get"
command_label kind.Gets = codes "gets"
command_label kind.Set = codes "set"
command_label kind.Add = codes "add"
command_label kind.Replace = codes "replace"
command_label kind.Append = codes "append"
command_label kind.Prepend = codes "prepend"
command_label kind.Cas = codes "cas"
command_label kind.Delete = codes "delete"
command_label kind.Incr = codes "incr"
command_label kind.Decr = codes "decr"
command_label kind.Flush = codes "flush_all"
command_label kind.Limit = codes "limit"

-- the label of a kind of refusals
abbrev pub refusal_label : WireNo → List ℕ
refusal_label E1 = codes "unknown_command"
refusal_label E2 = codes "bad_format"
refusal_label E3 = codes "bad_block"
refusal_label E4 = codes "no_expiry"
refusal_label E5 = codes "line_too_long"
refusal_label E6 = codes "too_large"
refusal_label E7 = codes "no_room"
refusal_label E8 = codes "not_a_number"
refusal_label E9 = codes "bad_delta"
refusal_label E10 = codes "log_full"
refusal_label E11 = codes "out_of_memory"

-- the number of a tenant
abbrev pub tenant_value : TenantMetric → TenantNumbers → ℕ
tenant_value Items tenant = tenant.items
tenant_value Bytes tenant = tenant.bytes
tenant_value ItemQuota tenant = tenant.quotas.items
tenant_value ByteQuota tenant = tenant.quotas.bytes
tenant_value Hits tenant = tenant.tally.hits
tenant_value Misses tenant = tenant.tally.misses
tenant_value Connections tenant = tenant.connections

-- the number of a worker
abbrev pub worker_value : WorkerMetric → WorkerNumbers → ℕ
worker_value worker.Lag numbers = numbers.lag
worker_value worker.Connections numbers = numbers.connections

-- the number of the server, if it is known
abbrev pub server_value : ServerMetric → Snapshot → Option ℕ
server_value Places snapshot = Some snapshot.log.places
server_value UsedPlaces snapshot = Some snapshot.log.used_places
server_value LogBytes snapshot = Some snapshot.log.bytes
server_value Generation snapshot = Some snapshot.log.generation
server_value ResidentBytes snapshot = snapshot.resident_bytes

abbrev pub tenant_label : TenantNumbers → LabelText
tenant_label tenant = (codes "tenant", tenant.name)

-- the sample of a tenant
abbrev pub tenant_sample : TenantMetric → TenantNumbers → List ℕ
tenant_sample metric tenant =
    sample_line (metric_name (OfTenant metric)) (tenant_label tenant ∷ [])
    (decimal (tenant_value metric tenant))

-- the sample of a tenant and a kind of commands
abbrev pub command_sample : TenantNumbers → CommandKind → List ℕ
command_sample tenant kind =
    sample_line (metric_name Commands)
    (tenant_label tenant ∷ (codes "command", command_label kind) ∷ [])
    (decimal (slice_index tenant.tally.commands (place_of_kind kind)))

-- the sample of a tenant and a kind of refusals
abbrev pub refusal_sample : TenantNumbers → WireNo → List ℕ
refusal_sample tenant refusal =
    sample_line (metric_name Refusals)
    (tenant_label tenant ∷ (codes "refusal", refusal_label refusal) ∷ [])
    (decimal (slice_index tenant.tally.refusals (place_of_refusal refusal)))

-- the sample of a worker
abbrev pub worker_sample : WorkerMetric → WorkerNumbers → List ℕ
worker_sample metric numbers =
    sample_line (metric_name (OfWorker metric)) ((codes "worker", decimal numbers.number) ∷ [])
    (decimal (worker_value metric numbers))

-- a number of microseconds in seconds, with six digits after the point
abbrev pub seconds_text : ℕ → List ℕ
seconds_text micros =
    decimal (micros / 1000000) ++ (codes "."
    ++ ((48 + micros / 100000 % 10) ∷ (48 + micros / 10000 % 10) ∷ (48 + micros / 1000 % 10)
    ∷ (48 + micros / 100 % 10) ∷ (48 + micros / 10 % 10) ∷ (48 + micros % 10) ∷ []))

-- the sample of a number without labels, if it is known
abbrev pub known_sample : List ℕ → Option ℕ → List ℕ
known_sample name None = []
known_sample name (Some value) = sample_line name [] (decimal value)

-- the sample of the server
abbrev pub server_sample : ServerMetric → Snapshot → List ℕ
server_sample metric snapshot =
    known_sample (metric_name (OfServer metric)) (server_value metric snapshot)

-- the samples of a summary without quantiles: the total of what was observed, and how often it was
abbrev pub turn_over_samples : LogNumbers → List ℕ
turn_over_samples log =
    sample_line TURN_OVER_SUM.now [] (seconds_text log.turn_over_micros)
    ++ sample_line TURN_OVER_COUNT.now [] (decimal log.turn_overs)

-- the sample that names the build
abbrev pub build_sample : List ℕ
build_sample =
    sample_line (metric_name Build) ((codes "version", VERSION.now) ∷ (codes "logic", LOGIC.now) ∷ [])
    (codes "1")

-- the samples of a metric
unfoldable pub samples_of : Snapshot → Metric → List ℕ
samples_of snapshot (OfTenant metric) = flat_map (tenant_sample metric) snapshot.tenants.items
samples_of snapshot Commands =
    flat_map (λ tenant. flat_map (command_sample tenant) COMMAND_KINDS) snapshot.tenants.items
samples_of snapshot Refusals =
    flat_map (λ tenant. flat_map (refusal_sample tenant) REFUSAL_KINDS) snapshot.tenants.items
samples_of snapshot (OfWorker metric) = flat_map (worker_sample metric) snapshot.workers.items
samples_of snapshot (OfServer metric) = server_sample metric snapshot
samples_of snapshot TurnOvers = turn_over_samples snapshot.log
samples_of snapshot Build = build_sample

-- a metric: its head and its samples
unfoldable pub metric_text : Snapshot → Metric → List ℕ
metric_text snapshot metric =
    head_lines (metric_name metric) (metric_help metric) (metric_type metric)
    ++ samples_of snapshot metric

-- what a scrape gets: all metrics
unfoldable pub metrics_text : Snapshot → List ℕ
metrics_text snapshot = flat_map (metric_text snapshot) METRICS
