use Rattle.std.proofs.Common.{false, subst, sym}
use Rattle.mc_connections.specs.Serving.{tenant_at}
use Rattle.mc_connections.specs.Waiting.{ComesToWait}
use Rattle.mc_connections.specs.Working.{ServesAt, standing}
use Rattle.mc_connections.proofs.Turning.{noted_the_same, on_ok, waits_the_same, waits_with_more}
use Rattle.mc_connections.proofs.ready_queue.ReadyQueue.serve.Goals as goal

pub returns-in-Busy-clause-waits : goal.returns-in-Busy-clause-waits
returns-in-Busy-clause-waits g c =
    let same = c.let_wait.ensures.same in
    on_ok c.let_wait.result c.let_wait.ensures.waits
    (λ waits. record {
      state = c.serve-served.result.state;
      serves = subst (λ connections. ServesAt c.args.until_done c.args.next.key c.serve-served.result.state (standing c.args.worker.now c.args.self.now.connections) (standing c.serve-served.new.worker connections)) (sym same) c.serve-served.ensures.serves;
      waits = waits_with_more c.serve-served.result.state _ c.args.next.key c.args.self.now.waiting c.let_wait.new.self.waiting c.in-Busy.is (
        subst (λ connections. ComesToWait (tenant_at connections c.args.next.key) c.args.next.key c.args.self.now.waiting c.let_wait.new.self.waiting) (sym same)
            (waits_the_same (tenant_at c.serve-served.new.self c.args.next.key) c.args.next.key c.args.self.now.waiting c.charge.new.self c.let_wait.new.self.waiting c.charge.ensures.queue c.charge.ensures.waits waits),
        noted_the_same c.args.next.key false c.args.self.now.waiting c.charge.new.self c.let_wait.new.self.waiting c.charge.ensures.waits c.let_wait.ensures.noted,
      );
    })
