use Rattle.std.proofs.Common.{length, ◌∙◌, ap, length-drop, arith}
use Rattle.std.proofs.lemmas.List.{take_rest}
use Rattle.mc_stream.specs.Event.{failures, moved, waits as waits_of}
use Rattle.lists.proofs.Parts.{front_then}
use Rattle.mc_stream.proofs.pushing.push_front.Goals as goal

pub loop-sent-preserved : goal.loop-sent-preserved
loop-sent-preserved g c =
    let bytes = c.args.bytes.now in
    let sent = c.loop-sent.sent in
    let so_far = c.loop-sent.invariant in
    let rest = take_rest bytes sent in
    record {
      within = omega (arith, c.in-Taken.ensures.count, ap length rest, length-drop sent bytes, so_far.within);
      pushed = front_then _ _ _ bytes _ sent c.in-Taken.count rest so_far.pushed (ap moved c.in-Taken.ensures.event);
      unfailed = ap failures c.in-Taken.ensures.event ∙ so_far.unfailed;
      waits = ap waits_of c.in-Taken.ensures.event ∙ so_far.waits;
    }
