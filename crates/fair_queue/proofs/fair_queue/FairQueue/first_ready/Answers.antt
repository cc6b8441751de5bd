use Rattle.std.proofs.Common.{◌≡◌, true, false, refl, sym, subst, ◌∙◌, ◌+◌}
use Rattle.fair_queue.specs.Turns.{IsIdle}
use Rattle.fair_queue.specs.contracts.fair_queue.FairQueue.{the_view}
use Rattle.fair_queue.proofs.Looking.{Looked, found_first, looked_all, looked_on}
use Rattle.fair_queue.proofs.fair_queue.FairQueue.first_ready.Goals as goal

pub returns-then-not-is_empty : goal.returns-then-not-is_empty
returns-then-not-is_empty c =
    rw (← c.self.view_is)
    (found_first (the_view c.self.inside) c.len-count.result c.loop-others.others _ c.index.result.now (c.len-count.ensures ∙ c.self.inside.flows.ok.0)
    c.flow_after-flow.ensures c.index.ensures (λ none. let never : false ≡ true = c.if-not-is_empty.ensures.1 none in cc)
    (subst (λ state. Looked state c.len-count.result c.loop-others.others) (sym c.self.view_is) c.loop-others.invariant))

pub loop-others-preserved : goal.loop-others-preserved
loop-others-preserved c =
    subst (λ state. Looked state c.len-count.result (c.loop-others.others + 1)) c.self.view_is
    (looked_on (the_view c.self.inside) c.len-count.result c.loop-others.others _ c.index.result.now (c.len-count.ensures ∙ c.self.inside.flows.ok.0)
    c.flow_after-flow.ensures c.index.ensures (c.if-not-is_empty.ensures.0 refl)
    (subst (λ state. Looked state c.len-count.result c.loop-others.others) (sym c.self.view_is) c.loop-others.invariant))

pub returns : goal.returns
returns c =
    subst IsIdle c.self.view_is
    (λ flow within. looked_all (the_view c.self.inside) c.len-count.result c.loop-others.others flow (c.len-count.ensures ∙ c.self.inside.flows.ok.0) c.self.invariant.turn
    c.loop-others-test.false (subst (λ state. Looked state c.len-count.result c.loop-others.others) (sym c.self.view_is) c.loop-others.invariant)
    within)
