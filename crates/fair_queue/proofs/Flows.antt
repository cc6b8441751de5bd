-- What holds of every flow, past the last one too, where each is idle.
use Rattle.std.proofs.Common.{ℕ, zero, suc, List, [], ◌∷◌, ◌++◌, get_or, set}
use Rattle.fair_queue.specs.Turns.{FlowState, idle}

pub each_pushed : (P : FlowState → Type 0) → P idle → (flows : List FlowState) (flow : FlowState) →
    ((number : ℕ) → P (get_or flows number idle)) → P flow → (number : ℕ) → P (get_or (flows ++ (flow ∷ [])) number idle)
each_pushed P none [] flow each here zero = here
each_pushed P none [] flow each here (suc number) = none
each_pushed P none (first ∷ flows) flow each here zero = each zero
each_pushed P none (first ∷ flows) flow each here (suc number) =
    each_pushed P none flows flow (λ at. each (suc at)) here number

pub each_set : (P : FlowState → Type 0) → (flows : List FlowState) (place : ℕ) (flow : FlowState) →
    ((number : ℕ) → P (get_or flows number idle)) → P flow → (number : ℕ) → P (get_or (set flows place flow) number idle)
each_set P [] place flow each here number = each number
each_set P (first ∷ flows) zero flow each here zero = here
each_set P (first ∷ flows) zero flow each here (suc number) = each (suc number)
each_set P (first ∷ flows) (suc place) flow each here zero = each zero
each_set P (first ∷ flows) (suc place) flow each here (suc number) =
    each_set P flows place flow (λ at. each (suc at)) here number
