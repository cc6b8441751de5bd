-- What a charge to the flow that has its turn comes to.
use Rattle.std.proofs.Common.{◌≡◌, ℕ, ◌+◌, ◌-◌, ◌<◌, length, get_or, refl, sym, ◌∙◌, ap, subst, arith}
use Rattle.std.proofs.lemmas.List.{get_or-set_same, get_or_default}
use Rattle.fair_queue.specs.Turns.{Charges, FlowState, IsFair, TurnGoesOn, IsNextTurn, QueueState, ends, flow_at, goes_on, idle, renewed, with_flow}

pub flow_read : (state : QueueState) (number : ℕ) (flow : FlowState) → number < length state.flows →
    flow ≡ get_or state.flows number flow → flow ≡ flow_at state number
flow_read state number flow within is = is ∙ get_or_default state.flows number flow idle within

pub charged_on : (spent : ℕ) (state : QueueState) (flow after : FlowState) → state.turn < length state.flows →
    flow ≡ get_or state.flows state.turn flow → TurnGoesOn spent flow → after ≡ record flow { credit = flow.credit - spent } →
    Charges spent state (with_flow state state.turn after)
charged_on spent state flow after within is on follows =
    goes_on flow (flow_read state state.turn flow within is) on (ap (with_flow state state.turn) follows)

pub charged_to_end : (spent : ℕ) (state : QueueState) (flow after : FlowState) (next : ℕ) → state.turn < length state.flows →
    flow ≡ get_or state.flows state.turn flow → ¬ (TurnGoesOn spent flow) → IsNextTurn (length state.flows) state.turn next →
    after ≡ record flow { credit = renewed state.quantum flow.credit spent } →
    Charges spent state (record (with_flow state state.turn after) { turn = next })
charged_to_end spent state flow after next within is over comes follows =
    ends flow (flow_read state state.turn flow within is) over next comes
    (ap (λ then. record (with_flow state state.turn then) { turn = next }) follows)

-- a flow that was put in its place is there
put_there : (state : QueueState) (place : ℕ) (flow : FlowState) → place < length state.flows → flow_at (with_flow state place flow) place ≡ flow
put_there state place flow within = get_or-set_same state.flows place flow idle within

-- while the turn goes on, what was spent is taken off what is left
pub taken_off : (spent : ℕ) (old new : QueueState) → IsFair old → Charges spent old new → TurnGoesOn spent (flow_at old old.turn) →
    (new.turn ≡ old.turn) × ((flow_at new old.turn).credit + spent ≡ (flow_at old old.turn).credit)
taken_off spent old new fair (goes_on flow is on then) goes =
    let put : FlowState = record flow { credit = flow.credit - spent } in
    subst (λ state. (state.turn ≡ old.turn) × ((flow_at state old.turn).credit + spent ≡ (flow_at old old.turn).credit)) (sym then) (
      refl,
      let left : (flow_at (with_flow old old.turn put) old.turn).credit ≡ flow.credit - spent = ap (λ it. it.credit) (put_there old old.turn put fair.turn) in
          let had : flow.credit ≡ (flow_at old old.turn).credit = ap (λ it. it.credit) is in
          omega (arith, left, had, on.1),
    )
taken_off spent old new fair (ends flow is over next follows then) goes = absurd (over (subst (λ it. TurnGoesOn spent it) (sym is) goes))

-- as the turn ends it is the next flow's, and this one's quantum is renewed
pub turned_over : (spent : ℕ) (old new : QueueState) → IsFair old → Charges spent old new → ¬ (TurnGoesOn spent (flow_at old old.turn)) →
    IsNextTurn (length old.flows) old.turn new.turn × ((flow_at new old.turn).credit ≡ renewed old.quantum (flow_at old old.turn).credit spent)
turned_over spent old new fair (goes_on flow is on then) over = absurd (over (subst (λ it. TurnGoesOn spent it) is on))
turned_over spent old new fair (ends flow is over next follows then) ended =
    let put : FlowState = record flow { credit = renewed old.quantum flow.credit spent } in
    subst (λ state. IsNextTurn (length old.flows) old.turn state.turn
    × ((flow_at state old.turn).credit ≡ renewed old.quantum (flow_at old old.turn).credit spent)) (sym then)
    (follows, ap (λ it. it.credit) (put_there old old.turn put fair.turn) ∙ ap (λ it. renewed old.quantum it.credit spent) is)
