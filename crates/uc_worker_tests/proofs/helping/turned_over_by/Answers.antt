-- The worker is of the log, has replayed it, and has room for as many places again.
use Rattle.std.proofs.Common.{length, subst, sym, ap, ◌∙◌}
use Rattle.mc_model.specs.Replay.{HaveRoom}
use Rattle.mc_model.specs.Settings.{Configuration}
use Rattle.uc_worker.specs.Worker.{tables_of}
use Rattle.uc_worker_tests.proofs.BothWorkers.{ready_alone}
use Rattle.uc_worker_tests.proofs.helping.turned_over_by.Goals as goal

pub turn_over-requires : goal.turn_over-requires
turn_over-requires c =
    let w = c.args.client.worker in
    ready_alone c.args.log.now w c.deref_mut.result.now (c.deref_mut.ensures.value ∙ c.in_ok-workers.ensures)
    (c.args.client.same ∙ c.requires)
    c.settings-settings.result.now (ap (λ (settings : Configuration). length settings.tenants) (sym c.settings-settings.ensures))
    (c.is_ready.ensures.done c.if-not-is_ready.false, subst (HaveRoom (tables_of w)) c.places.ensures.value (c.is_ready.ensures.room c.if-not-is_ready.false))
