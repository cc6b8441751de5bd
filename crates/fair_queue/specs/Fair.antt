-- How long something that waits in a flow waits at most: what is charged to each other flow
-- meanwhile; and in which order a flow gives its keys. The turns are those of surplus round-robin,
-- a form of deficit round-robin (M. Shreedhar, G. Varghese, SIGCOMM 1995), as `Turns` has them; the
-- events, and the bound as it is stated here, are this project's own.
use Rattle.std.specs.Prelude.{◌≡◌, ◌≢◌, ℕ, ◌+◌, ◌-◌, ◌*◌, ◌<◌, ◌≤◌, List, [], ◌∷◌, ◌++◌, All, Some, length, slice_get, cond, nat_eq}
use Rattle.fair_queue.specs.Turns.{Charges, GivesFirst, IsFair, IsPushed, QueueState, flow_at}

-- what happens to a queue: a key is put into a flow, or a flow gives one, once this was spent on
-- the one before
pub data QueueEvent : Type 0 where
  comes : (flow key : ℕ) → QueueEvent
  gives : (flow key spent : ℕ) → QueueEvent

abbrev pub HappensToQueue : QueueEvent → QueueState → QueueState → Type 0
HappensToQueue (comes flow key) old new = (flow < length old.flows) × IsPushed flow key old new
HappensToQueue (gives flow key spent) old new =
    (between : QueueState) × Charges spent old between × GivesFirst flow key between new

-- the events lead from one state to another
abbrev pub EventsLead : QueueState → List QueueEvent → QueueState → Type 0
EventsLead old [] new = new ≡ old
EventsLead old (event ∷ events) new =
    (between : QueueState) × HappensToQueue event old between × EventsLead between events new

-- the flow gives nothing, and if another does, no more than that was spent on the key given just
-- before
abbrev pub PassesOver : ℕ → ℕ → QueueEvent → Type 0
PassesOver waiting most (comes flow key) = Unit {0}
PassesOver waiting most (gives flow key spent) = (flow ≢ waiting) × (spent ≤ most)

-- what these events charge to a flow, if this one has its turn at first
abbrev pub charged_to : ℕ → ℕ → List QueueEvent → ℕ
charged_to flow turn [] = 0
charged_to flow turn (comes other key ∷ events) = charged_to flow turn events
charged_to flow turn (gives other key spent ∷ events) =
    cond (nat_eq turn flow) spent 0 + charged_to flow other events

-- While something waits in a flow and the flow gives nothing, no other flow is charged more than a
-- quantum and what the dearest key costs, of those that are given meanwhile and the one given just
-- before, however many wait there, and whatever comes.
abbrev pub WaitsForOneQuantumEach : Type 0
WaitsForOneQuantumEach =
    (old new : QueueState) (events : List QueueEvent) (waiting other most : ℕ) →
    IsFair old → waiting < length old.flows → 0 < length (flow_at old waiting).ready →
    other < length old.flows → other ≢ waiting → EventsLead old events new →
    All (PassesOver waiting most) events →
    charged_to other old.turn events ≤ old.quantum + most

-- how many keys a flow gives in these events
abbrev pub keys_given : ℕ → List QueueEvent → ℕ
keys_given flow [] = 0
keys_given flow (comes other key ∷ events) = keys_given flow events
keys_given flow (gives other key spent ∷ events) =
    cond (nat_eq other flow) 1 0 + keys_given flow events

-- if a flow gives a key, no more than that was spent on the one given just before
abbrev pub CostsAtMost : ℕ → QueueEvent → Type 0
CostsAtMost most (comes flow key) = Unit {0}
CostsAtMost most (gives flow key spent) = spent ≤ most

-- While a key waits in a flow behind `ahead` others, no other flow is charged more than a quantum
-- and what the dearest key costs for each of these others and once more for the key itself, however
-- many wait there, and whatever comes. That is while the flow, in which more than `ahead` waited at
-- the beginning, gives at most that many; the dearest is of those that are given meanwhile, in
-- whichever flow, and the one given just before.
abbrev pub WaitsForOneQuantumPerKey : Type 0
WaitsForOneQuantumPerKey =
    (old new : QueueState) (events : List QueueEvent) (waiting other ahead most : ℕ) →
    IsFair old → waiting < length old.flows → ahead < length (flow_at old waiting).ready →
    other < length old.flows → other ≢ waiting → EventsLead old events new →
    keys_given waiting events ≤ ahead → All (CostsAtMost most) events →
    charged_to other old.turn events ≤ (ahead + 1) * (old.quantum + most)

-- the keys that a flow gives in these events, the first one first
abbrev pub given_from : ℕ → List QueueEvent → List ℕ
given_from flow [] = []
given_from flow (comes other key ∷ events) = given_from flow events
given_from flow (gives other key spent ∷ events) =
    cond (nat_eq other flow) (key ∷ []) [] ++ given_from flow events

-- the keys that come into a flow in these events, the first one first
abbrev pub come_into : ℕ → List QueueEvent → List ℕ
come_into flow [] = []
come_into flow (comes other key ∷ events) =
    cond (nat_eq other flow) (key ∷ []) [] ++ come_into flow events
come_into flow (gives other key spent ∷ events) = come_into flow events

-- The keys that a flow gives, followed by those that wait in it then, are those that waited in it,
-- followed by those that come: it gives its keys in the order in which they came, repeats none and
-- loses none.
abbrev pub GivesInOrder : Type 0
GivesInOrder =
    (old new : QueueState) (events : List QueueEvent) (flow : ℕ) →
    IsFair old → EventsLead old events new →
    given_from flow events ++ (flow_at new flow).ready
    ≡ (flow_at old flow).ready ++ come_into flow events

-- behind that many others in this flow waits this key
abbrev pub WaitsBehind : ℕ → ℕ → ℕ → QueueState → Type 0
WaitsBehind ahead flow key state = slice_get (flow_at state flow).ready ahead ≡ Some key

-- A key that waits behind `ahead` others of its flow waits behind one fewer for each that the flow
-- gives, while it gives at most `ahead`, whatever comes.
abbrev pub MovesUp : Type 0
MovesUp =
    (old new : QueueState) (events : List QueueEvent) (waiting key ahead : ℕ) →
    IsFair old → WaitsBehind ahead waiting key old → EventsLead old events new →
    keys_given waiting events ≤ ahead →
    WaitsBehind (ahead - keys_given waiting events) waiting key new

-- If the flow of a key that waits behind `ahead` others gives more than `ahead` keys, then the one
-- that it gives after `ahead` others is this key.
abbrev pub IsGivenAfterThoseAhead : Type 0
IsGivenAfterThoseAhead =
    (old new : QueueState) (events : List QueueEvent) (waiting key ahead : ℕ) →
    IsFair old → WaitsBehind ahead waiting key old → EventsLead old events new →
    ahead < keys_given waiting events → slice_get (given_from waiting events) ahead ≡ Some key
