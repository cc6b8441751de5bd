use Rattle.std.proofs.Common.{◌≡◌, ◌∙◌, None, ap, map, refl, slice_get}
use Rattle.std.proofs.lemmas.Option.{slice_get_past}
use Rattle.mc_metrics.proofs.AtNumbers.{connections_add_up, names_of_tenants, tenant_of}
use Rattle.mc_metrics.specs.Gathering.{tenant_shown}
use Rattle.mc_metrics.specs.declared.snapshot.TenantNumbers.{TenantNumbers}
use Rattle.mc_metrics.proofs.laws.each_tenant_is_shown_at_its_number.Goals as goal

pub returns-clause-unknown : goal.returns-clause-unknown
returns-clause-unknown c number one past =
    let none : slice_get one.tenants.items number ≡ None = slice_get_past one.tenants.items number past in
    rw none (refl, refl, refl)

pub returns-clause-names : goal.returns-clause-names
returns-clause-names c names shown snapshot gathers =
    ap (λ tenants. map (λ (tenant : TenantNumbers). tenant.name) tenants) gathers.tenants ∙ names_of_tenants shown.workers.items gathers.leader 0 names

pub returns-clause-table : goal.returns-clause-table
returns-clause-table c names shown snapshot gathers number tenant table is also =
    let numbers = tenant_of names shown snapshot gathers number tenant is in
    let same : tenant_shown number gathers.leader ≡ table = rw also refl in (
      ap (λ tenant. tenant.items) numbers.1 ∙ ap (λ table. table.items) same,
      ap (λ tenant. tenant.bytes) numbers.1 ∙ ap (λ table. table.bytes) same,
      ap (λ tenant. tenant.quotas) numbers.1 ∙ ap (λ table. table.quotas) same,
    )

pub returns-clause-workers : goal.returns-clause-workers
returns-clause-workers c names shown snapshot gathers number tenant is =
    let numbers = tenant_of names shown snapshot gathers number tenant is in
    (ap (λ tenant. tenant.connections) numbers.1 ∙ connections_add_up number shown.workers.items, ap (λ tenant. tenant.tally) numbers.1)
