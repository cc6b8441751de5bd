use Rattle.std.proofs.Common.{◌≡◌, length, sym, ◌∙◌, arith}
use Rattle.uc_worker.specs.Worker.{tenants_of}
use Rattle.mc_conn.proofs.Answering.{named_among}
use Rattle.mc_conn.proofs.Countings.{counts_local, counts_logged, counts_long, counts_quit, counts_setting, counts_tenants_limit, counts_unknown, counts_unnamed}
use Rattle.mc_conn.proofs.Outcomes.{match_map}
use Rattle.mc_conn.proofs.responding.respond.Goals as goal

pub respond_by_log-requires-in-Some : goal.respond_by_log-requires-in-Some
respond_by_log-requires-in-Some g c =
    let fits : length c.in-Admin-role.names ≡ length (tenants_of c.args.worker.now) = rw c.in-Admin-role.is at c.requires.role in
    let among = named_among c.in-Admin-role.names c.in-Limit.name c.in-Some.tenant (sym c.tenant.ensures ∙ c.in-Some.is) in
    record { tenant = omega (arith, fits, among) }

pub returns-in-Tenant-clause-counts : goal.returns-in-Tenant-clause-counts
returns-in-Tenant-clause-counts g c = rw (c.in-Tenant.is, c.in-Logged.is)
    (match_map c.respond_by_log.result _ _ _ _ (λ x gives. counts_logged _ _ _ _ c.in-Tenant.tenant c.in-Logged.command c.in-Logged.quiet gives.0 gives.1) (λ x same. same) c.respond_by_log.ensures.counts)

pub returns-in-Logged-clause-counts : goal.returns-in-Logged-clause-counts
returns-in-Logged-clause-counts g c = rw (c.in-Admin.is, c.in-Logged.is)
    (match_map c.refuse.result _ _ _ _ (λ x gives. counts_unknown _ _ _ _ c.in-Admin.field-0 c.in-Logged.command c.in-Logged.quiet gives) (λ x same. same) c.refuse.ensures.counts)

pub returns-in-Tenant-role-clause-counts : goal.returns-in-Tenant-role-clause-counts
returns-in-Tenant-role-clause-counts g c = rw (c.in-Tenant-role.is, c.in-Limit.is)
    (match_map c.refuse-in-Tenant-role.result _ _ _ _ (λ x gives. counts_tenants_limit _ _ _ _ c.in-Tenant-role.field-0 c.in-Limit.name c.in-Limit.limits c.in-Limit.quiet gives) (λ x same. same) c.refuse-in-Tenant-role.ensures.counts)

pub returns-in-Some-clause-counts : goal.returns-in-Some-clause-counts
returns-in-Some-clause-counts g c = rw (c.in-Admin-role.is, c.in-Limit.is)
    (match_map c.respond_by_log-in-Some.result _ _ _ _
    (λ x gives. counts_setting _ _ _ _ c.in-Admin-role.names c.in-Limit.name c.in-Limit.limits c.in-Limit.quiet c.in-Some.tenant gives.0 (sym c.tenant.ensures ∙ c.in-Some.is) gives.1) (λ x same. same)
    c.respond_by_log-in-Some.ensures.counts)

pub returns-in-Limit-clause-counts : goal.returns-in-Limit-clause-counts
returns-in-Limit-clause-counts g c = rw (c.in-Admin-role.is, c.in-Limit.is)
    (match_map c.refuse-in-None.result _ _ _ _
    (λ x gives. counts_unnamed _ _ _ _ c.in-Admin-role.names c.in-Limit.name c.in-Limit.limits c.in-Limit.quiet (sym c.tenant.ensures ∙ c.in-None.is) gives) (λ x same. same) c.refuse-in-None.ensures.counts)

pub returns-in-Local-clause-counts : goal.returns-in-Local-clause-counts
returns-in-Local-clause-counts g c = rw c.in-Local.is
    (match_map c.reply_and_count.result _ _ _ _ (λ x gives. counts_local _ _ _ _ c.args.role.now c.in-Local.reply c.in-Local.quiet gives) (λ x same. same) c.reply_and_count.ensures.counts)

pub returns-in-Quit-clause-counts : goal.returns-in-Quit-clause-counts
returns-in-Quit-clause-counts g c = rw c.in-Quit.is (counts_quit _ _ _)

pub returns-clause-counts : goal.returns-clause-counts
returns-clause-counts g c = rw c.in-TooLong.is
    (match_map c.refuse-in-TooLong.result _ _ _ _ (λ x gives. counts_long _ _ _ _ c.args.role.now gives) (λ x same. same) c.refuse-in-TooLong.ensures.counts)
