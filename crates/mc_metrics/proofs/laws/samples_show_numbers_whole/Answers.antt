use Rattle.std.proofs.Common.{◌∙◌, ap, append_assoc, codes, decimal, slice_index}
use Rattle.mc_counters.specs.Kinds.{place_of_kind, place_of_refusal}
use Rattle.mc_metrics.proofs.Samples.{command_line, in_seven, refusal_line, tenant_line}
use Rattle.mc_metrics.specs.Exposition.{sample_line}
use Rattle.mc_metrics.specs.Metrics.{command_label, known_sample, metric_name, refusal_label, samples_of, tenant_value}
use Rattle.mc_metrics.specs.declared.metric.Metric.TheVariants.{OfServer, OfTenant}
use Rattle.mc_metrics.proofs.laws.samples_show_numbers_whole.Goals as goal

pub returns-clause-tenant : goal.returns-clause-tenant
returns-clause-tenant c metric tenant = tenant_line (metric_name (OfTenant metric)) tenant.name (decimal (tenant_value metric tenant))

pub returns-clause-command : goal.returns-clause-command
returns-clause-command c tenant kind =
    let number = decimal (slice_index tenant.tally.commands (place_of_kind kind)) in
    command_line (codes "wfmc_tenant_commands_total") tenant.name (command_label kind) number
    ∙ in_seven (codes "wfmc_tenant_commands_total{tenant=\"") tenant.name (codes "\",command=\"") (command_label kind) (codes "\"} ") number (codes "\n")

pub returns-clause-refusal : goal.returns-clause-refusal
returns-clause-refusal c tenant refusal =
    let number = decimal (slice_index tenant.tally.refusals (place_of_refusal refusal)) in
    refusal_line (codes "wfmc_tenant_refusals_total") tenant.name (refusal_label refusal) number
    ∙ in_seven (codes "wfmc_tenant_refusals_total{tenant=\"") tenant.name (codes "\",refusal=\"") (refusal_label refusal) (codes "\"} ") number (codes "\n")

pub returns-clause-worker : goal.returns-clause-worker
unfolding sample_line
returns-clause-worker c metric numbers = simp append_assoc

pub returns-clause-known : goal.returns-clause-known
unfolding samples_of sample_line
returns-clause-known c metric snapshot number is = ap (known_sample (metric_name (OfServer metric))) is ∙ simp append_assoc

pub returns-clause-unknown : goal.returns-clause-unknown
unfolding samples_of
returns-clause-unknown c metric snapshot none = ap (known_sample (metric_name (OfServer metric))) none

pub returns-clause-turn_overs : goal.returns-clause-turn_overs
unfolding samples_of sample_line
returns-clause-turn_overs c snapshot = simp append_assoc
