use Rattle.std.proofs.Common.{◌++◌, flat_map}
use Rattle.mc_counters.specs.declared.kinds.TheConstants.{COMMAND_KINDS, REFUSAL_KINDS}
use Rattle.mc_metrics.proofs.Samples.{is_written, of_both, of_each, of_one, within_after}
use Rattle.mc_metrics.specs.Exposition.{head_lines}
use Rattle.mc_metrics.specs.Metrics.{command_sample, metric_help, metric_name, metric_text, metric_type, metrics_text, refusal_sample, samples_of, tenant_sample, worker_sample}
use Rattle.mc_metrics.specs.declared.metric.TheConstants.{METRICS}
use Rattle.mc_metrics.proofs.laws.every_tenant_and_worker_has_its_samples.Goals as goal

pub returns-clause-metrics : goal.returns-clause-metrics
unfolding metrics_text metric_text
returns-clause-metrics c snapshot metric =
    let head = head_lines (metric_name metric) (metric_help metric) (metric_type metric) in
    let each = of_each (metric_text snapshot) METRICS metric (is_written metric) in
    (each.0 ++ head, each.1, within_after (metrics_text snapshot) each.0 head (samples_of snapshot metric) each.1 each.2)

pub returns-clause-tenants : goal.returns-clause-tenants
unfolding samples_of
returns-clause-tenants c metric one other both is = of_both (tenant_sample metric) one.tenants.items other.tenants.items both.tenants.items is

pub returns-clause-commands : goal.returns-clause-commands
unfolding samples_of
returns-clause-commands c one other both is = of_both (λ tenant. flat_map (command_sample tenant) COMMAND_KINDS) one.tenants.items other.tenants.items both.tenants.items is

pub returns-clause-refusals : goal.returns-clause-refusals
unfolding samples_of
returns-clause-refusals c one other both is = of_both (λ tenant. flat_map (refusal_sample tenant) REFUSAL_KINDS) one.tenants.items other.tenants.items both.tenants.items is

pub returns-clause-tenant : goal.returns-clause-tenant
unfolding samples_of
returns-clause-tenant c metric snapshot tenant is = of_one (tenant_sample metric) tenant snapshot.tenants.items is

pub returns-clause-kinds : goal.returns-clause-kinds
unfolding samples_of
returns-clause-kinds c snapshot tenant is = (
  of_one (λ tenant. flat_map (command_sample tenant) COMMAND_KINDS) tenant snapshot.tenants.items is,
  of_one (λ tenant. flat_map (refusal_sample tenant) REFUSAL_KINDS) tenant snapshot.tenants.items is,
)

pub returns-clause-workers : goal.returns-clause-workers
unfolding samples_of
returns-clause-workers c metric one other both is = of_both (worker_sample metric) one.workers.items other.workers.items both.workers.items is

pub returns-clause-worker : goal.returns-clause-worker
unfolding samples_of
returns-clause-worker c metric snapshot numbers is = of_one (worker_sample metric) numbers snapshot.workers.items is
