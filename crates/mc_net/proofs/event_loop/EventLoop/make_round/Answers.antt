use Rattle.std.proofs.Common.{rules, subst, sym}
use Rattle.mc_connections.specs.Working.{Works, standing}
use Rattle.mc_connections.specs.declared.connections.Connections.{Connections}
use Rattle.mc_net.proofs.event_loop.EventLoop.make_round.Goals as goal

pub returns : goal.returns
returns g c = record {
  works = subst (λ (connections : Connections). Works c.args.until_done (standing c.args.worker.now c.args.self.now.ready.connections) (standing c.catch_up.new.worker connections)) (sym c.catch_up.ensures.same)
      (c.work_adds_up.ensures.catches_up c.args.until_done _ _ _ _ c.serve_round.ensures.works c.catch_up.ensures.catches_up);
  woken = search rules;
}
