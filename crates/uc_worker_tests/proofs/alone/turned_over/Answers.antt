-- The worker is of the log, has replayed it, and has room for as many places again.
use Rattle.std.proofs.Common.{◌≡◌, refl, zero, suc, [], ◌∷◌, All, length, subst, sym, ap, arith}
use Rattle.mc_model.specs.Replay.{HaveRoom}
use Rattle.mc_model.specs.declared.shown.LogSize.{LogSize}
use Rattle.mc_model.specs.Settings.{Configuration}
use Rattle.uc_worker.specs.TurningOver.{CanTurnOver}
use Rattle.uc_worker.specs.Worker.{IsUpToDate, history_of, seat_of, tables_of}
use Rattle.uc_worker_tests.proofs.alone.turned_over.Goals as goal

-- what holds of one holds of all of its list
one_all : {X : Type 0} (P : X → Type 0) (x : X) → P x → All P (x ∷ [])
one_all P x one zero d below = one
one_all P x one (suc place) d below = absurd (omega (arith, below))

pub turn_over_alone-requires-clause-ready : goal.turn_over_alone-requires-clause-ready
turn_over_alone-requires-clause-ready c =
    let log = c.args.client.now.log.now in
    let w = c.args.client.now.worker in
    let size : (seat_of w).size.places ≡ w.log.now.settings.places = ap (λ (size : LogSize). size.places) w.of.1 in
    let up_to_date : IsUpToDate w = omega (arith, w.short, w.pass.desk.law.few, size, c.is_ready.ensures.done c.if-not-is_ready.false) in
    record {
      log = log;
      replayed = length (history_of w);
      tenants = ap (λ (settings : Configuration). length settings.tenants) (sym c.settings-settings.ensures);
      some = omega arith;
      each = one_all (CanTurnOver log (length (history_of w)) c.settings-settings.result.now) w (record {
        of = c.args.client.now.same;
        up_to_date = (up_to_date, refl);
        room = subst (HaveRoom (tables_of w)) c.places.ensures.value (c.is_ready.ensures.room c.if-not-is_ready.false);
      });
    }
