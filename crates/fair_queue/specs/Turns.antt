-- Turns of flows: surplus round-robin (H. Adiseshu, G. Parulkar, G. Varghese, SIGCOMM 1996), the
-- form of deficit round-robin (M. Shreedhar, G. Varghese, SIGCOMM 1995) for costs that are known
-- only once a key was served.
use Rattle.std.specs.Prelude.{◌≡◌, ℕ, ◌+◌, ◌-◌, ◌<◌, ◌≤◌, ◌⊎◌, List, [], ◌∷◌, ◌++◌, length, slice_index_or, slice_set, min}

-- the keys that are ready in a flow, first come first, and what is left of its quantum
pub record FlowState : Type 0 where
  pub ready : List ℕ
  pub credit : ℕ

-- each flow's quantum, the flow that has its turn, and all flows
pub record QueueState : Type 0 where
  pub quantum : ℕ
  pub turn : ℕ
  pub flows : List FlowState

-- a flow in which nothing waits and of whose quantum nothing is left
abbrev pub idle : FlowState
idle = record { ready = []; credit = 0 }

abbrev pub flow_at : QueueState → ℕ → FlowState
flow_at state flow = slice_index_or state.flows flow idle

-- the state with another flow in that place
abbrev pub with_flow : QueueState → ℕ → FlowState → QueueState
with_flow state number flow = record state { flows = slice_set state.flows number flow }

-- round-robin over `count` flows: the turn of this one comes after that of `others` others, from
-- the flow that has its turn on
abbrev pub ComesAfter : ℕ → ℕ → ℕ → ℕ → Type 0
ComesAfter count turn others flow = (flow < count) × (others < count)
    × ((turn + others ≡ flow) ⊎ (turn + others ≡ flow + count))

-- the next turn is this flow's: round-robin
abbrev pub IsNextTurn : ℕ → ℕ → ℕ → Type 0
IsNextTurn count turn next =
    ((turn + 1 ≡ next) × (next < count)) ⊎ ((turn + 1 ≡ count) × (next ≡ 0))

-- the quantum of a flow's next turn: what the last one took beyond its own is taken off; that at
-- least 1 is left is this project's profile
abbrev pub renewed : ℕ → ℕ → ℕ → ℕ
renewed quantum credit spent = quantum - min (spent - credit) (quantum - 1)

-- after this was spent in a flow's turn it goes on: something waits, and the quantum isn't used up
abbrev pub TurnGoesOn : ℕ → FlowState → Type 0
TurnGoesOn spent flow = (0 < length flow.ready) × (spent < flow.credit)

-- what was spent is charged to the flow that has its turn, which goes on or ends
pub data Charges (spent : ℕ) (old new : QueueState) : Type 0 where
  goes_on : (flow : FlowState) → flow ≡ flow_at old old.turn → TurnGoesOn spent flow →
      new ≡ with_flow old old.turn (record flow { credit = flow.credit - spent }) →
      Charges spent old new
  ends : (flow : FlowState) → flow ≡ flow_at old old.turn → ¬ (TurnGoesOn spent flow) →
      (next : ℕ) → IsNextTurn (length old.flows) old.turn next →
      new ≡ record (with_flow old old.turn (record flow { credit = renewed old.quantum flow.credit spent })) { turn = next } →
      Charges spent old new

-- nothing waits in any flow
abbrev pub IsIdle : QueueState → Type 0
IsIdle state = (flow : ℕ) → flow < length state.flows → (flow_at state flow).ready ≡ []

-- the next flow in which something waits, from that which has its turn on
pub record IsFirstReady (state : QueueState) (flow : ℕ) : Type 0 where
  pub others : ℕ
  pub comes : ComesAfter (length state.flows) state.turn others flow
  pub waits : 0 < length (flow_at state flow).ready
  pub first : (earlier other : ℕ) → earlier < others →
      ComesAfter (length state.flows) state.turn earlier other → (flow_at state other).ready ≡ []

-- the next flow in which something waits gives its first key, and has its turn now
pub record GivesFirst (flow key : ℕ) (old new : QueueState) : Type 0 where
  pub next : IsFirstReady old flow
  pub rest : List ℕ
  pub front : (flow_at old flow).ready ≡ key ∷ rest
  pub taken :
      new ≡ record (with_flow old flow (record (flow_at old flow) { ready = rest })) { turn = flow }

-- a key was put behind those that wait in its flow
abbrev pub IsPushed : ℕ → ℕ → QueueState → QueueState → Type 0
IsPushed flow key old new = new
    ≡ with_flow old flow (record (flow_at old flow) { ready = (flow_at old flow).ready ++ (key ∷ []) })

-- the turn is a flow's, and no flow has more than its quantum left
pub record IsFair (state : QueueState) : Type 0 where
  pub quantum : 0 < state.quantum
  pub turn : state.turn < length state.flows
  pub credit : (flow : ℕ) → (flow_at state flow).credit ≤ state.quantum
