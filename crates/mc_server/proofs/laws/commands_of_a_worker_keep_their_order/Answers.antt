use Rattle.std.proofs.Common.{subst}
use Rattle.mc_model.specs.declared.shown.ShownState.{ShownState}
use Rattle.mc_model.specs.Legal.{IsLegal}
use Rattle.mc_connections.specs.Seen.{history_place}
use Rattle.mc_server.proofs.OwnOrder.{legal_order, served_in_order, stands_decided}
use Rattle.mc_server.proofs.laws.commands_of_a_worker_keep_their_order.Goals as goal

pub returns-clause-run : goal.returns-clause-run
returns-clause-run c settings tables workers one =
    let run = one.core in
    let sound = c.laws_over_tables.ensures.once settings tables run.events run.core run.given run.runs in
    legal_order one.log.decided (subst (λ (log : ShownState). IsLegal log.decided) run.shown sound.legal)

pub returns-clause-seen : goal.returns-clause-seen
returns-clause-seen c settings tables workers one until past saw asked answered sees number worker here on =
    let law = c.what_a_client_has_seen_comes_first.ensures in
    let decided = one.decided number worker here in
    let first = law.onward until past saw asked answered sees in (
      stands_decided one.log.decided saw.worker worker (c.workers_go_on.ensures.through saw.worker answered.worker worker first on) decided (history_place sees.seen.answer) _ _ _ sees.seen.answer.placed.stands,
      stands_decided one.log.decided answered.worker worker on decided (history_place sees.asks) _ _ _ sees.asks.placed.stands,
      (law.order until past saw asked answered sees).1,
    )

pub returns-clause-served : goal.returns-clause-served
returns-clause-served c = served_in_order c.work_adds_up.ensures.goes_on
