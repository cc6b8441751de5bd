-- All workers are of the log, have replayed as many places of it, and have room for as many places again.
use Rattle.std.proofs.Common.{◌≡◌, ◌∙◌, Bor, All, Err, IfOk, Ok, Result, ap, arith, length, slice_index_or, subst, sym}
use Rattle.std.proofs.lemmas.Option.{slice_get_within}
use Rattle.mc_model.specs.declared.fault.Fault.{Fault}
use Rattle.mc_model.specs.Replay.{HaveRoom}
use Rattle.mc_model.specs.Settings.{Configuration}
use Rattle.uc_worker.specs.TurningOver.{CanTurnOver}
use Rattle.uc_worker.specs.declared.turning_over.Next.{Next}
use Rattle.uc_worker.specs.Worker.{tables_of}
use Rattle.std.proofs.lemmas.List.Elements.{AllZip-get_or, length_all_zip}
use Rattle.uc_log.specs.declared.log.Log.{Log}
use Rattle.uc_worker.specs.Going.{CatchesUp}
use Rattle.mc_net_tests.proofs.logs.next_log.Goals as goal

pub turn_over-requires : goal.turn_over-requires
turn_over-requires c =
    let old = c.args.workers.now in
    let workers = c.catch_up_all.new.workers in
    let used = length c.history-used.result.now in
    let catches = c.catch_up_all.ensures.catches in
    let long = length_all_zip CatchesUp old workers catches in
    let settings = c.settings-2.result.now in
    let places : c.places.result ≡ settings.places =
    c.places.ensures.value ∙ ap (λ (settings : Configuration). settings.places) (c.settings.ensures ∙ sym c.settings-2.ensures) in
    let can = c.can_be_followed.ensures c.if-not-can_be_followed.false in
    let each : All (CanTurnOver c.args.log.now used settings) workers = λ i d inside. record {
      of = ap (λ (lent : Bor Log). lent.now) (AllZip-get_or CatchesUp old workers i d d catches (omega (arith, inside, long))).continues.log ∙ c.requires i d (omega (arith, inside, long));
      up_to_date = (c.in_ok-catch_up_all.ensures.all i d inside, (can i d inside).0);
      room = subst (HaveRoom (tables_of (slice_index_or workers i d))) places (can i d inside).1;
    } in
    record {
      log = c.args.log.now;
      replayed = used;
      tenants = ap (λ (settings : Configuration). length settings.tenants) (sym c.settings-2.ensures);
      some = slice_get_within workers 0 c.in-Some.first.now (sym c.in-Some.ensures.value);
      each = each;
    }

-- the next log has the settings that were given, and its tables have room for its changes
room_of : (result : Result Next Fault) (settings : Configuration) → IfOk result (λ next. next.log.settings ≡ settings) →
    IfOk result (λ next. HaveRoom next.base.tables.items settings.places) → IfOk result (λ next. HaveRoom next.base.tables.items next.log.settings.places)
room_of (Ok next) settings is room = subst (λ (known : Configuration). HaveRoom next.base.tables.items known.places) (sym is) room
room_of (Err fault) settings is room = tt

pub returns-clause-room : goal.returns-clause-room
returns-clause-room c = room_of c.turn_over.result c.settings-2.result.now c.turn_over.ensures.settings c.turn_over.ensures.room
