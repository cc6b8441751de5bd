use Rattle.std.proofs.Common.{◌≡◌, true, false, refl, subst, ◌∙◌}
use Rattle.fair_queue.specs.Turns.{IsNextTurn}
use Rattle.fair_queue.proofs.Charging.{charged_on, charged_to_end}
use Rattle.fair_queue.proofs.fair_queue.FairQueue.charge.Goals as goal

pub returns-then-goes_on-clause-charges : goal.returns-then-goes_on-clause-charges
returns-then-goes_on-clause-charges c =
    rw (← c.self.view_is)
    (charged_on _ _ c.index_mut-flow.result.now c.charge.new.self c.self.invariant.turn c.index_mut-flow.ensures.value
    (c.if-goes_on.ensures.0 refl) c.charge.ensures)

pub returns-else-goes_on-clause-charges : goal.returns-else-goes_on-clause-charges
returns-else-goes_on-clause-charges c =
    rw (← c.self.view_is)
    (charged_to_end _ _ c.index_mut-flow.result.now c.renew.new.self c.next_turn-self-inside.result c.self.invariant.turn
    c.index_mut-flow.ensures.value (λ on. let never : false ≡ true = c.if-goes_on.ensures.1 on in cc)
    (subst (λ count. IsNextTurn count c.self.inside.turn c.next_turn-self-inside.result) (c.len.ensures ∙ c.self.inside.flows.ok.0)
    c.next_turn-self-inside.ensures) c.renew.ensures)
