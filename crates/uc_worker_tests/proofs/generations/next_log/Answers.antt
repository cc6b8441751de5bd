-- All workers are of the log, have replayed as many places of it, and have room for the changes of
-- a log.
use Rattle.std.proofs.Common.{◌∙◌, ap, length, sym}
use Rattle.mc_model.specs.Settings.{Configuration}
use Rattle.uc_worker_tests.proofs.BothWorkers.{ready_all, room_of, some_first}
use Rattle.uc_worker_tests.proofs.generations.next_log.Goals as goal

pub turn_over-requires : goal.turn_over-requires
turn_over-requires c =
    ready_all c.args.log.now (length c.history-used.result.now) c.args.workers.now c.catch_up_all.new.workers c.catch_up_all.ensures.catches c.requires
    (some_first c.catch_up_all.new.workers c.in-Some.first.now (sym c.in-Some.ensures.value))
    c.settings-2.result.now (ap (λ (settings : Configuration). length settings.tenants) (sym c.settings-2.ensures)) c.places.result
    (c.places.ensures.value ∙ ap (λ (settings : Configuration). settings.places) (c.settings.ensures ∙ sym c.settings-2.ensures))
    c.in_ok-catch_up_all.ensures.all (c.can_be_followed.ensures c.if-not-can_be_followed.false)

pub returns-clause-room : goal.returns-clause-room
returns-clause-room c = room_of c.turn_over.result c.settings-2.result.now c.turn_over.ensures.settings c.turn_over.ensures.room
