use Rattle.std.proofs.Common.{sym}
use Rattle.std.proofs.lemmas.Result.{err_from_is_err_and}
use Rattle.mc_schedules.proofs.Onward.{finished-all, finished-fault, finishing-next}
use Rattle.mc_schedules.proofs.running.finish.Goals as goal

pub loop-event-smaller : goal.loop-event-smaller
loop-event-smaller g c =
    let took = c.in_ok-take.ensures in
    c.runs_of_event_lists.ensures.nearer c.loop-event.core c.take.new.core c.args.worker c.in-Some.event took.1.0 c.needed.ensures.reached (sym c.in-Some.ensures.event) took.1.1

pub loop-event-preserved : goal.loop-event-preserved
loop-event-preserved g c =
    finishing-next c.args.line c.args.worker c.args.core.now c.loop-event.core c.args.replies.now.items c.loop-event.replies.items
    c.loop-event.invariant c.in-Some.event c.take.new.core c.take.new.replies.items (sym c.in-Some.ensures.event) c.in_ok-take.ensures

pub returns-in_err-take : goal.returns-in_err-take
returns-in_err-take g c =
    let out = err_from_is_err_and c.from_residual.result c.from_residual.ensures.1 in
    rw (out.1, out.2)
    (finished-fault c.args.line c.args.worker c.args.core.now c.loop-event.core c.args.replies.now.items c.loop-event.replies.items
    c.loop-event.invariant c.in-Some.event c.take.new.core c.take.new.replies.items c.in_err-take.field-0.0 (sym c.in-Some.ensures.event) c.in_err-take.ensures)

pub returns : goal.returns
returns g c =
    finished-all c.args.line c.args.worker c.args.core.now c.loop-event.core c.args.replies.now.items c.loop-event.replies.items
    c.loop-event.invariant (sym c.in_default.ensures.event)
