use Rattle.stream_lemmas.proofs.Pushed.{at_once_more, at_once_stopped}
use Rattle.mc_conn.proofs.queue.push_both.Goals as goal

pub returns-then-not-push_while_taken-clause-pushed : goal.returns-then-not-push_while_taken-clause-pushed
returns-then-not-push_while_taken-clause-pushed g c =
    at_once_stopped c.args.first.now c.args.second.now _ _ c.push_while_taken.ensures.pushed c.if-not-push_while_taken.ensures.stopped

pub returns-clause-pushed : goal.returns-clause-pushed
returns-clause-pushed g c =
    let first = c.if-not-push_while_taken.ensures in
    at_once_more c.args.first.now c.args.second.now _ _ _ first.all first.taken c.push_while_taken.ensures.waited c.push_while_taken-2.ensures.pushed
