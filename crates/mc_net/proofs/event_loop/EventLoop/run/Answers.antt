use Rattle.std.proofs.Common.{◌∙◌, ap, inr, refl}
use Rattle.mc_connections.specs.declared.connections.Connections.{Connections}
use Rattle.mc_net.proofs.Runnings.{has_stopped, if_failed}
use Rattle.mc_net.proofs.event_loop.EventLoop.run.Goals as goal

pub loop-init : goal.loop-init
loop-init g c = c.work_adds_up.ensures.none c.args.until_done _

pub publish-requires : goal.publish-requires
publish-requires g c = c.work_adds_up.ensures.known _ _ _ c.loop.invariant c.requires

pub returns-then-eq-clause-tenants : goal.returns-then-eq-clause-tenants
returns-then-eq-clause-tenants g c = c.clear.ensures.tenants ∙ c.work_adds_up.ensures.known _ _ _ c.loop.invariant c.requires

pub returns-then-leave-clause-tenants : goal.returns-then-leave-clause-tenants
returns-then-leave-clause-tenants g c =
    ap (λ (connections : Connections). connections.tenants) c.linger.ensures ∙ c.work_adds_up.ensures.known _ _ _ c.loop.invariant c.requires

pub returns-in_err-poll_events-clause-tenants : goal.returns-in_err-poll_events-clause-tenants
returns-in_err-poll_events-clause-tenants g c = c.work_adds_up.ensures.known _ _ _ c.loop.invariant c.requires

pub make_round-requires : goal.make_round-requires
make_round-requires g c = c.work_adds_up.ensures.known _ _ _ c.loop.invariant c.requires

pub returns-in_err-woken-clause-tenants : goal.returns-in_err-woken-clause-tenants
returns-in_err-woken-clause-tenants g c =
    c.work_adds_up.ensures.known _ _ _ (c.work_adds_up.ensures.through _ _ _ _ c.loop.invariant c.make_round.ensures.works) c.requires

pub returns-in_err-signal-clause-tenants : goal.returns-in_err-signal-clause-tenants
returns-in_err-signal-clause-tenants g c =
    c.work_adds_up.ensures.known _ _ _
    (c.work_adds_up.ensures.through _ _ _ _ c.loop.invariant
    (c.work_adds_up.ensures.through _ _ _ _ c.make_round.ensures.works (c.admit_arrivals.ensures c.args.until_done c.make_round.new.worker)))
    c.requires

pub loop-preserved-in-loop : goal.loop-preserved-in-loop
loop-preserved-in-loop g c =
    c.work_adds_up.ensures.through _ _ _ _ c.loop.invariant
    (c.work_adds_up.ensures.through _ _ _ _ c.make_round.ensures.works (c.admit_arrivals.ensures c.args.until_done c.make_round.new.worker))

pub loop-preserved : goal.loop-preserved
loop-preserved g c = c.work_adds_up.ensures.through _ _ _ _ c.loop.invariant c.make_round.ensures.works

pub returns-in_default-clause-stopped : goal.returns-in_default-clause-stopped
returns-in_default-clause-stopped g c = has_stopped c.args.until_done _ _ (c.work_adds_up.ensures.none c.args.until_done _)

pub returns-then-eq-clause-stopped : goal.returns-then-eq-clause-stopped
returns-then-eq-clause-stopped g c = record { last = _; works = c.loop.invariant; worker = refl; left = inr c.clear.ensures.empty }

pub returns-in_err-tell_full-clause-stopped : goal.returns-in_err-tell_full-clause-stopped
returns-in_err-tell_full-clause-stopped g c = if_failed _ (has_stopped c.args.until_done _ _ c.loop.invariant)

pub returns-in_err-poll_events-clause-stopped : goal.returns-in_err-poll_events-clause-stopped
returns-in_err-poll_events-clause-stopped g c = if_failed _ (has_stopped c.args.until_done _ _ c.loop.invariant)

pub returns-in_err-woken-clause-stopped : goal.returns-in_err-woken-clause-stopped
returns-in_err-woken-clause-stopped g c =
    if_failed _ (has_stopped c.args.until_done _ _ (c.work_adds_up.ensures.through _ _ _ _ c.loop.invariant c.make_round.ensures.works))

pub returns-in_err-signal-clause-stopped : goal.returns-in_err-signal-clause-stopped
returns-in_err-signal-clause-stopped g c =
    if_failed _
    (has_stopped c.args.until_done _ _
    (c.work_adds_up.ensures.through _ _ _ _ c.loop.invariant
    (c.work_adds_up.ensures.through _ _ _ _ c.make_round.ensures.works (c.admit_arrivals.ensures c.args.until_done c.make_round.new.worker))))
