use Rattle.std.proofs.Common.{◌≡◌, ◌++◌, List, All, rules, subst, sym, ap, ◌∙◌}
use Rattle.std.proofs.lemmas.List.{nil_from_length}
use Rattle.std.proofs.lemmas.List.Elements.{All-cons, All-nil}
use Rattle.mc_net.specs.Running.{EndsWith, event_loops_of, workers_of}
use Rattle.mc_net.specs.declared.worker_thread.WorkerThread.{WorkerThread}
use Rattle.mc_net.proofs.Runnings.{append_one, ends_with}
use Rattle.mc_net.proofs.running.parted.Goals as goal

pub loop-worker_thread-preserved : goal.loop-worker_thread-preserved
loop-worker_thread-preserved g c = record {
  workers =
      ap (λ list. list ++ workers_of c.next.new.self.rest.items) c.in_ok-push.ensures.items
      ∙ (append_one c.loop-worker_thread.workers.items c.in-Some.worker_thread.worker _
      ∙ subst (λ (rest : List (WorkerThread _)). c.loop-worker_thread.workers.items ++ workers_of rest ≡ workers_of c.args.worker_threads.items) c.in-Some.ensures.steps.0
      c.loop-worker_thread.invariant.workers);
  event_loops =
      ap (λ list. list ++ event_loops_of c.next.new.self.rest.items) c.in_ok-push-2.ensures.items
      ∙ (append_one c.loop-worker_thread.event_loops.items c.in-Some.worker_thread.event_loop _
      ∙ subst (λ (rest : List (WorkerThread _)). c.loop-worker_thread.event_loops.items ++ event_loops_of rest ≡ event_loops_of c.args.worker_threads.items) c.in-Some.ensures.steps.0
      c.loop-worker_thread.invariant.event_loops);
  ended = λ last at_least all.
      c.loop-worker_thread.invariant.ended last (λ is. at_least (c.or_full-ended.ensures.one is))
      (subst (All (EndsWith last)) (sym c.in-Some.ensures.steps.0)
      (All-cons (EndsWith last) c.in-Some.worker_thread c.next.new.self.rest.items
      (ends_with last c.in-Some.worker_thread c.in_ok-outcome.field-0 (search rules) (λ is. at_least (c.or_full-ended.ensures.other is))) all));
}

pub returns-clause-ended : goal.returns-clause-ended
returns-clause-ended g c =
    let none = nil_from_length c.loop-worker_thread.worker_thread-iterator.rest.items (sym c.loop-worker_thread.worker_thread-iterator.rest.ok.0 ∙ c.in-None.ensures.steps.0) in
    c.loop-worker_thread.invariant.ended c.loop-worker_thread.ended (λ is. is)
    (subst (All (EndsWith c.loop-worker_thread.ended)) (sym none) (All-nil (EndsWith c.loop-worker_thread.ended)))
