-- Both workers are of the log, have replayed it, and have room for as many places again.
use Rattle.std.proofs.Common.{length, subst, sym, ap, ◌∙◌}
use Rattle.mc_model.specs.Replay.{HaveRoom}
use Rattle.mc_model.specs.Settings.{Configuration}
use Rattle.uc_worker.specs.Worker.{tables_of}
use Rattle.uc_worker_tests.proofs.BothWorkers.{ready_both}
use Rattle.uc_worker_tests.proofs.refused.try_turn_over.Goals as goal

pub turn_over-requires : goal.turn_over-requires
turn_over-requires c =
    let v = c.args.first.worker in
    let w = c.args.second.worker in
    ready_both c.args.log.now v w c.deref_mut.result.now (c.deref_mut.ensures.value ∙ c.in_ok-workers.ensures)
    (c.args.first.same ∙ c.requires.one) (c.args.second.same ∙ c.requires.two)
    c.settings-settings.result.now (ap (λ (settings : Configuration). length settings.tenants) (sym c.settings-settings.ensures))
    (c.is_ready.ensures.done c.if-not-is_ready.false, subst (HaveRoom (tables_of v)) c.places-places.ensures.value (c.is_ready.ensures.room c.if-not-is_ready.false))
    (c.is_ready-else-not-is_ready.ensures.done c.if-not-is_ready-2.false, subst (HaveRoom (tables_of w)) c.places-places.ensures.value (c.is_ready-else-not-is_ready.ensures.room c.if-not-is_ready-2.false))
