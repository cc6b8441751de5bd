use Rattle.std.proofs.Common.{◌≡◌, ◌∙◌, ◌++◌, ◌∷◌, List, ap, arith, length, rules, subst}
use Rattle.mc_net.specs.Returning.{returned_of}
use Rattle.mc_net.specs.declared.event_loop.EventLoop.{EventLoop}
use Rattle.mc_connections.specs.declared.past_connections.PastConnections.{PastConnections}
use Rattle.uc_worker.specs.declared.worker.Worker.{Worker}
use Rattle.mc_net.proofs.Runnings.{append_one}
use Rattle.mc_net.proofs.front.Front.into_returned.Goals as goal

pub loop-worker-preserved : goal.loop-worker-preserved
loop-worker-preserved c =
    let back = c.loop-worker.back.items in
    let more = returned_of c.next.new.self.rest.items c.next-in-loop-worker.new.self.rest.items in
    let workers : c.loop-worker.worker-iterator.rest.items ≡ c.in-Some.worker ∷ c.next.new.self.rest.items = c.in-Some.ensures.steps.0 in
    let loops : c.loop-worker.event_loops.rest.items ≡ c.in-Some-next.event_loop ∷ c.next-in-loop-worker.new.self.rest.items = search rules in
    record {
      back =
          ap (λ list. list ++ more) c.in_ok-push.ensures.items
          ∙ append_one back _ more
          ∙ ap (λ (ended : PastConnections). back ++ record { worker = c.in-Some.worker; ended = ended } ∷ more) c.into_ended-ended.ensures
          ∙ subst (λ (rest : List Worker). back ++ returned_of rest (c.in-Some-next.event_loop ∷ c.next-in-loop-worker.new.self.rest.items) ≡ returned_of c.args.workers.items c.args.self.event_loops.items) workers
          (subst (λ (rest : List EventLoop). back ++ returned_of c.loop-worker.worker-iterator.rest.items rest ≡ returned_of c.args.workers.items c.args.self.event_loops.items) loops
          c.loop-worker.invariant.back);
      long = omega (arith, c.loop-worker.invariant.long, ap length workers, ap length loops);
    }
