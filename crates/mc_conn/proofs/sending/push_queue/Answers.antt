use Rattle.std.proofs.Common.{◌≡◌, ◌≤◌, ◌++◌, length, take, drop, sym, ◌∙◌, ap, length-drop, length-take, arith}
use Rattle.std.proofs.lemmas.List.{drop-drop, take-take}
use Rattle.mc_stream.specs.Event.{moved}
use Rattle.lists.proofs.Parts.{front_then}
use Rattle.mc_conn.proofs.sending.push_queue.Goals as goal

pub loop-sent-preserved : goal.loop-sent-preserved
loop-sent-preserved g c =
    let all = c.args.queue.now in
    let sent = c.loop-sent.sent in
    let parts = c.front.result in
    let front = parts.0.now ++ (parts.1.now ++ parts.2.now) in
    let now = c.loop-sent.queue in
    let so_far = c.loop-sent.invariant in
    let count : c.in-Taken.count ≤ length front = omega (arith, c.in-Taken.ensures.count) in
    let short : length front ≤ length now = omega (arith, ap length c.front.ensures.front, length-take (length front) now) in
    let took : take c.in-Taken.count front ≡ take c.in-Taken.count now =
    ap (λ bytes. take c.in-Taken.count bytes) (sym c.front.ensures.front) ∙ take-take c.in-Taken.count (length front) now count in
    record {
      within = omega (arith, count, short, ap length so_far.left, length-drop sent all, so_far.within);
      left = c.advance.ensures ∙ (ap (λ bytes. drop c.in-Taken.count bytes) so_far.left ∙ drop-drop c.in-Taken.count sent all);
      pushed = front_then _ _ _ all now sent c.in-Taken.count so_far.left so_far.pushed (c.in-Taken.ensures.push.0 ∙ ap (λ bytes. moved (g.O.Output.tells c.loop-sent.output).events ++ bytes) took);
      unfailed = c.in-Taken.ensures.push.1 ∙ so_far.unfailed;
      waits = c.in-Taken.ensures.push.2 ∙ so_far.waits;
    }
