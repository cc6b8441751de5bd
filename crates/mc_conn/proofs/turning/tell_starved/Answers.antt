use Rattle.std.proofs.Common.{arith}
use Rattle.stream_lemmas.proofs.Pushed.{at_once_more, at_once_stopped}
use Rattle.mc_conn.proofs.turning.tell_starved.Goals as goal

pub returns-then-push_while_taken : goal.returns-then-push_while_taken
returns-then-push_while_taken g c =
    let more = c.push_while_taken-then-push_while_taken.ensures in
    let pushed = rw c.refusal_text.ensures at more.pushed in (
      at_once_more c.args.queue.now _ _ _ _ c.if-push_while_taken.ensures.all c.if-push_while_taken.ensures.taken c.push_while_taken.ensures.waited pushed,
      omega (arith, c.push_while_taken.ensures.waited, more.waited),
    )

pub returns-else-push_while_taken : goal.returns-else-push_while_taken
returns-else-push_while_taken g c =
    (at_once_stopped c.args.queue.now _ _ _ c.push_while_taken.ensures.pushed c.if-push_while_taken.ensures.stopped, c.push_while_taken.ensures.waited)
