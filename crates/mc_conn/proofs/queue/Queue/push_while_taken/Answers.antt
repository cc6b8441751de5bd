use Rattle.std.proofs.Common.{◌≡◌, ◌+◌, ◌<◌, ◌∷◌, [], drop, length, sym, ap, ◌∙◌, arith}
use Rattle.std.proofs.lemmas.List.{drop_all, drop_more}
use Rattle.stream_lemmas.proofs.Pushed.{at_once_stopped}
use Rattle.mc_conn.specs.Queued.{own_before, put_together}
use Rattle.mc_conn.proofs.Queues.{together-first}
use Rattle.mc_conn.proofs.Unqueued.{unqueues_at_once, unqueues_more}
use Rattle.mc_conn.proofs.queue.Queue.push_while_taken.Goals as goal

pub returns-then-not-push_both-clause-pushed : goal.returns-then-not-push_both-clause-pushed
returns-then-not-push_both-clause-pushed g c =
    let parts = c.self.inside.parts.items in
    let index = c.loop-index.index in
    let part = c.index-part.result.now in
    let so_far = c.loop-index.invariant in
    let below : index < length parts = omega (arith, c.len-index-end.ensures, c.self.inside.parts.ok.0, c.loop-index-test.true) in
    let at : drop index parts ≡ part ∷ drop (index + 1) parts = drop_more parts index part below ∙ ap (λ p. p ∷ drop (index + 1) parts) (sym c.index-part.ensures) in
    let left = together-first parts index part c.loop-index.own.now _ _ _ at c.split_at.ensures.front c.as_slice.ensures c.split_at.ensures.back in
    let stops = at_once_stopped _ (put_together (drop (index + 1) parts) c.split_at.result.1.now) _ _ c.push_both.ensures.pushed c.if-not-push_both.ensures.stopped in
    unqueues_at_once _ _ _ _ _ so_far.pushed so_far.unfailed so_far.waited (rw left stops)

pub loop-index-preserved : goal.loop-index-preserved
loop-index-preserved g c =
    let parts = c.self.inside.parts.items in
    let index = c.loop-index.index in
    let part = c.index-part.result.now in
    let so_far = c.loop-index.invariant in
    let below : index < length parts = omega (arith, c.len-index-end.ensures, c.self.inside.parts.ok.0, c.loop-index-test.true) in
    let at : drop index parts ≡ part ∷ drop (index + 1) parts = drop_more parts index part below ∙ ap (λ p. p ∷ drop (index + 1) parts) (sym c.index-part.ensures) in
    let left = together-first parts index part c.loop-index.own.now _ _ _ at c.split_at.ensures.front c.as_slice.ensures c.split_at.ensures.back in
    let both = c.if-not-push_both.ensures in
    record {
      own = omega (arith, ap own_before at, so_far.own, c.split_at.ensures.back_len);
      pushed = unqueues_more _ _ _ _ _ _ _ so_far.pushed left both.all;
      unfailed = both.taken ∙ so_far.unfailed;
      waited = omega (arith, so_far.waited, both.waited);
    }

pub returns-clause-pushed : goal.returns-clause-pushed
returns-clause-pushed g c =
    let parts = c.self.inside.parts.items in
    let so_far = c.loop-index.invariant in
    let none : drop c.loop-index.index parts ≡ [] = drop_all c.loop-index.index parts (omega (arith, c.len-index-end.ensures, c.self.inside.parts.ok.0, c.loop-index-test.false)) in
    let left = rw none at so_far.pushed in
    unqueues_at_once _ _ _ _ _ left so_far.unfailed so_far.waited c.push_while_taken.ensures.pushed
