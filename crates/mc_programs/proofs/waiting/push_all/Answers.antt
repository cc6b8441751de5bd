use Rattle.std.proofs.Common.{length, ◌+◌, ◌∙◌, ap, refl, length-drop, arith}
use Rattle.std.proofs.lemmas.List.{take_rest}
use Rattle.mc_stream.specs.Event.{failures, moved}
use Rattle.lists.proofs.Parts.{front_then}
use Rattle.stream_lemmas.proofs.Pushed.{front_sent}
use Rattle.mc_programs.proofs.waiting.push_all.Goals as goal

pub loop-preserved-in-Taken : goal.loop-preserved-in-Taken
loop-preserved-in-Taken g c =
    let so_far = c.loop.invariant in
    let rest = take_rest c.args.bytes.now c.loop.sent in
    record {
      within = omega (arith, c.in-Taken.ensures.count, ap length rest, length-drop c.loop.sent c.args.bytes.now, so_far.within);
      pushed = front_then _ _ _ c.args.bytes.now _ c.loop.sent c.in-Taken.count rest so_far.pushed (ap moved c.in-Taken.ensures.event);
      unfailed = ap failures c.in-Taken.ensures.event ∙ so_far.unfailed;
    }

pub returns-in-Failed : goal.returns-in-Failed
returns-in-Failed g c =
    let so_far = c.loop.invariant in
    record {
      outcome = record {
        is_output = refl;
        front = front_sent _ _ _ c.args.bytes.now c.loop.sent so_far.pushed (ap moved c.in-Failed.ensures.event);
        failed = ap failures c.in-Failed.ensures.event ∙ ap (λ n. n + 1) so_far.unfailed;
      };
    }
