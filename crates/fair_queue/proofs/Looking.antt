-- Looking for the next flow in which something waits.
use Rattle.std.proofs.Common.{◌≡◌, ℕ, ◌+◌, ◌-◌, ◌<◌, ◌≤◌, List, [], ◌∷◌, length, get_or, refl, sym, ◌∙◌, ap, subst, arith, inl, inr}
use Rattle.std.proofs.lemmas.Bool.{cases_lt}
use Rattle.fair_queue.specs.Turns.{ComesAfter, FlowState, IsFirstReady, QueueState, flow_at}
use Rattle.fair_queue.proofs.Charging.{flow_read}

nonempty : (ready : List ℕ) → ¬ (ready ≡ []) → 0 < length ready
nonempty [] some = absurd (some refl)
nonempty (key ∷ keys) some = omega arith

-- nothing waits in the flows that come after fewer than that many others
abbrev pub Looked : QueueState → ℕ → ℕ → Type 0
Looked state count others =
    (earlier other : ℕ) → earlier < others → ComesAfter count state.turn earlier other → (flow_at state other).ready ≡ []

pub found_first : (state : QueueState) (count others flow : ℕ) (found : FlowState) → count ≡ length state.flows →
    ComesAfter count state.turn others flow → found ≡ get_or state.flows flow found → ¬ (found.ready ≡ []) →
    Looked state count others → IsFirstReady state flow
found_first state count others flow found is comes read some looked =
    let within : flow < length state.flows = subst (λ n. flow < n) is comes.0 in
    record {
      others = others;
      comes = subst (λ n. ComesAfter n state.turn others flow) is comes;
      waits = subst (λ it. 0 < length it.ready) (flow_read state flow found within read) (nonempty found.ready some);
      first = λ earlier other before after.
          looked earlier other before (subst (λ n. ComesAfter n state.turn earlier other) (sym is) after);
    }

same_flow : (count turn others one other : ℕ) → ComesAfter count turn others one → ComesAfter count turn others other → one ≡ other
same_flow count turn others one other first second =
    elim first.2 [
      | inl here ↦ elim second.2 [ inl there ↦ omega (arith, here, there) | inr there ↦ omega (arith, here, there, first.0) ]
      | inr here ↦ elim second.2 [ inl there ↦ omega (arith, here, there, second.0) | inr there ↦ omega (arith, here, there) ]
    ]

pub looked_on : (state : QueueState) (count others flow : ℕ) (found : FlowState) → count ≡ length state.flows →
    ComesAfter count state.turn others flow → found ≡ get_or state.flows flow found → found.ready ≡ [] →
    Looked state count others → Looked state count (others + 1)
looked_on state count others flow found is comes read none looked earlier other before after =
    elim (cases_lt earlier others) [
      | inl less ↦ looked earlier other less after
      | inr more ↦
          let same : earlier ≡ others = omega (arith, before, more) in
          let here : flow ≡ other = same_flow count state.turn others flow other comes (subst (λ n. ComesAfter count state.turn n other) same after) in
          let within : flow < length state.flows = subst (λ n. flow < n) is comes.0 in
          subst (λ n. (flow_at state n).ready ≡ []) here (ap (λ it. it.ready) (sym (flow_read state flow found within read)) ∙ none)
    ]

pub looked_all : (state : QueueState) (count others flow : ℕ) → count ≡ length state.flows → state.turn < length state.flows →
    count ≤ others → Looked state count others → flow < length state.flows → (flow_at state flow).ready ≡ []
looked_all state count others flow is turn all looked within =
    elim (cases_lt flow state.turn) [
      | inl before ↦ looked (flow + count - state.turn) flow (omega (arith, is, turn, all, before, within))
          (omega (arith, is, within), omega (arith, is, turn, before), inr (omega (arith, is, turn, before)))
      | inr after ↦ looked (flow - state.turn) flow (omega (arith, is, turn, all, after, within))
          (omega (arith, is, within), omega (arith, is, within, after), inl (omega (arith, after)))
    ]
