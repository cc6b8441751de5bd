use Rattle.std.proofs.Common.{◌≡◌, ◌<◌, ℕ, []}
use Rattle.fair_queue.specs.Turns.{ComesAfter, flow_at}
use Rattle.fair_queue.proofs.fair_queue.FairQueue.first_ready.Given as goal

-- Nothing waits in the flows that were looked at.
abbrev pub invariant-loop-others : goal.invariant-loop-others
invariant-loop-others l =
    (earlier other : ℕ) → earlier < l.others → ComesAfter l.count l.self.turn earlier other → (flow_at l.self other).ready ≡ []
