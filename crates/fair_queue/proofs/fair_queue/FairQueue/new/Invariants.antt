use Rattle.std.proofs.Common.{◌≡◌, ◌≤◌, ℕ, [], length, get_or}
use Rattle.fair_queue.specs.Turns.{idle}
use Rattle.fair_queue.proofs.fair_queue.FairQueue.new.Given as goal

-- As many flows were made, and each is idle, with its whole quantum.
abbrev pub invariant-loop : goal.invariant-loop
invariant-loop l = (length l.all.items ≡ l.counter) × ((flow : ℕ) → (get_or l.all.items flow idle).ready ≡ []) × ((flow : ℕ) → (get_or l.all.items flow idle).credit ≤ l.quantum)
