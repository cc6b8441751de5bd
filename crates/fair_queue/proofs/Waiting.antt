-- What other flows may be charged while something waits in a flow.
use Rattle.std.proofs.Common.{◌≡◌, ◌≢◌, ℕ, ◌+◌, ◌-◌, ◌<◌, ◌≤◌, List, [], ◌∷◌, All, length, cond, nat_eq, refl, sym, ◌∙◌, ap, subst, arith, inl, inr}
use Rattle.std.proofs.lemmas.Grind.{common_steps}
use Rattle.std.proofs.lemmas.Bool.{cases_lt}
use Rattle.std.proofs.lemmas.Bool.Decides.{eqb_tells}
use Rattle.std.proofs.lemmas.List.{get_or-set_other, get_or-set_same, length-set}
use Rattle.std.proofs.lemmas.List.Elements.{All-head, All-tail}
use Rattle.fair_queue.specs.Turns.{Charges, ComesAfter, FlowState, GivesFirst, TurnGoesOn, IsFair, IsNextTurn, IsPushed, QueueState, ends, flow_at, goes_on, idle, renewed, with_flow}
use Rattle.fair_queue.specs.Fair.{QueueEvent, EventsLead, PassesOver, WaitsForOneQuantumEach, charged_to, comes, gives}

-- a flow after a flow was put in some place
pub at_put : (P : FlowState → Type 0) (state : QueueState) (place : ℕ) (flow : FlowState) → place < length state.flows →
    (number : ℕ) → (number ≡ place → P flow) → (number ≢ place → P (flow_at state number)) →
    P (flow_at (with_flow state place flow) number)
at_put P state place flow within number same other =
    elim (eqb_tells number place) [
      | inl is ↦ subst (λ n. P (flow_at (with_flow state place flow) n)) (sym is.1)
          (subst P (sym (get_or-set_same state.flows place flow idle within)) (same is.1))
      | inr isnt ↦ subst P (sym (get_or-set_other state.flows place number flow idle isnt.1)) (other isnt.1)
    ]

-- the flow that has its turn is charged, or nothing is charged to this one
pub charge_cases : (P : ℕ → Type 0) (turn other spent : ℕ) → (turn ≡ other → P spent) → (turn ≢ other → P 0) → P (cond (nat_eq turn other) spent 0)
charge_cases P turn other spent same unlike =
    elim (eqb_tells turn other) [
      | inl is ↦ subst (λ b. P (cond b spent 0)) (sym is.0) (same is.1)
      | inr isnt ↦ subst (λ b. P (cond b spent 0)) (sym isnt.0) (unlike isnt.1)
    ]

-- each flow has its turn after some others
comes_after : (count turn flow : ℕ) → turn < count → flow < count → (others : ℕ) × ComesAfter count turn others flow
comes_after count turn flow here within =
    elim (cases_lt flow turn) [
      | inl before ↦ (flow + count - turn, (within, omega (arith, here, before), inr (omega (arith, here, before))))
      | inr after ↦ (flow - turn, (within, omega (arith, within, after), inl (omega (arith, after))))
    ]

-- what may yet be charged to another flow before the waiting one gives, whose turn isn't now
pub record Ahead (state : QueueState) (waiting other most bound : ℕ) : Type 0 where
  pub fair : IsFair state
  pub here : waiting < length state.flows
  waits : 0 < length (flow_at state waiting).ready
  pub within : other < length state.flows
  pub unlike : other ≢ waiting
  ahead : (one two : ℕ) → ComesAfter (length state.flows) state.turn one other → ComesAfter (length state.flows) state.turn two waiting →
      one < two → (flow_at state other).credit + most ≤ bound

-- the same where the waiting one may have its turn: a whole quantum, if that ends
pub record MayTake (state : QueueState) (waiting other most bound : ℕ) : Type 0 where
  pub before : Ahead state waiting other most bound
  own : state.turn ≡ waiting → state.quantum + most ≤ bound

-- a flow into which a key comes: its credit stays, and no fewer keys wait in it
pub record TakesIn (old new : QueueState) (flow : ℕ) : Type 0 where
  pub put : FlowState
  pub is : new ≡ with_flow old flow put
  pub credit : put.credit ≡ (flow_at old flow).credit
  pub waits : length (flow_at old flow).ready ≤ length put.ready

pub takes_in : (old new : QueueState) (flow key : ℕ) → IsPushed flow key old new → TakesIn old new flow
takes_in old new flow key is = record { put = _; is = is; credit = refl; waits = grind (arith, common_steps) }

-- a key that comes charges nothing
pub after_push : (old new : QueueState) (flow key waiting other most bound : ℕ) → flow < length old.flows → IsPushed flow key old new →
    MayTake old waiting other most bound → MayTake new waiting other most bound
after_push old new flow key waiting other most bound within is may =
    let into = takes_in old new flow key is in
    let put = into.put in
    let ahead = may.before in
    let count : length (with_flow old flow put).flows ≡ length old.flows = length-set old.flows flow put in
    subst (λ state. MayTake state waiting other most bound) (sym into.is) (record {
      before = record {
        fair = record {
          quantum = ahead.fair.quantum;
          turn = subst (λ n. old.turn < n) (sym count) ahead.fair.turn;
          credit = λ number. at_put (λ it. it.credit ≤ old.quantum) old flow put within number
              (λ same. subst (λ n. n ≤ old.quantum) (sym into.credit) (ahead.fair.credit flow)) (λ isnt. ahead.fair.credit number);
        };
        here = subst (λ n. waiting < n) (sym count) ahead.here;
        waits = at_put (λ it. 0 < length it.ready) old flow put within waiting
            (λ same. let here : 0 < length (flow_at old flow).ready = subst (λ n. 0 < length (flow_at old n).ready) same ahead.waits in
            omega (arith, here, into.waits)) (λ isnt. ahead.waits);
        within = subst (λ n. other < n) (sym count) ahead.within;
        unlike = ahead.unlike;
        ahead = λ one two first second less.
            let known : (flow_at old other).credit + most ≤ bound =
            ahead.ahead one two (subst (λ n. ComesAfter n old.turn one other) count first)
            (subst (λ n. ComesAfter n old.turn two waiting) count second) less in
            at_put (λ it. it.credit + most ≤ bound) old flow put within other
            (λ same. subst (λ n. n + most ≤ bound) (sym into.credit) (subst (λ n. (flow_at old n).credit + most ≤ bound) same known)) (λ isnt. known);
      };
      own = may.own;
    })

-- a flow that gives comes no later than one in which something waits
no_earlier : (old new : QueueState) (flow key waiting others : ℕ) → (given : GivesFirst flow key old new) →
    0 < length (flow_at old waiting).ready → ComesAfter (length old.flows) old.turn others waiting → given.next.others ≤ others
no_earlier old new flow key waiting others given waits after =
    elim (cases_lt others given.next.others) [
      | inl less ↦
          let none : 0 < 0 = subst (λ ready. 0 < length ready) (given.next.first others waiting less after) waits in
          omega (arith, none)
      | inr more ↦ more
    ]

-- where another flow gives, the waiting one doesn't have its turn
not_own : (old new : QueueState) (flow key waiting : ℕ) → GivesFirst flow key old new → flow ≢ waiting → old.turn < length old.flows →
    waiting < length old.flows → 0 < length (flow_at old waiting).ready → old.turn ≢ waiting
not_own old new flow key waiting given isnt turn here waits same =
    let first : given.next.others ≤ 0 =
    no_earlier old new flow key waiting 0 given waits (here, omega (arith, here), inl (omega (arith, same))) in
    elim given.next.comes.2 [
      | inl at ↦ isnt (omega (arith, first, at, same))
      | inr at ↦ absurd (let never : 0 < 0 = omega (arith, first, at, turn, given.next.comes.0) in omega (arith, never))
    ]

-- what is ahead of the waiting one when a flow has given was ahead of it before
shifted : (count turn flow others one other : ℕ) → turn < count → ComesAfter count turn others flow → ComesAfter count flow one other →
    others + one < count → ComesAfter count turn (others + one) other
shifted count turn flow others one other turns first second small = (
  second.0,
  small,
  elim first.2 [
    | inl here ↦ elim second.2 [ inl there ↦ inl (omega (arith, here, there)) | inr there ↦ inr (omega (arith, here, there)) ]
    | inr here ↦ elim second.2 [
      | inl there ↦ inr (omega (arith, here, there))
      | inr there ↦ absurd (let never : 0 < 0 = omega (arith, here, there, small, turns) in omega (arith, never))
    ]
  ],
)

wrapped : (count turn flow others one other : ℕ) → turn < count → ComesAfter count turn others flow → ComesAfter count flow one other →
    count ≤ others + one → ComesAfter count turn (others + one - count) other
wrapped count turn flow others one other turns first second large = (
  second.0,
  omega (arith, first.1, second.1),
  elim first.2 [
    | inl here ↦ elim second.2 [
      | inl there ↦ absurd (let never : 0 < 0 = omega (arith, here, there, large, second.0) in omega (arith, never))
      | inr there ↦ inl (omega (arith, here, there, large))
    ]
    | inr here ↦ elim second.2 [
      | inl there ↦ inl (omega (arith, here, there, large))
      | inr there ↦ inr (omega (arith, here, there, large))
    ]
  ],
)

still_ahead : (old new : QueueState) (flow key waiting other most bound : ℕ) → GivesFirst flow key old new → Ahead old waiting other most bound →
    (one two : ℕ) → ComesAfter (length old.flows) flow one other → ComesAfter (length old.flows) flow two waiting → one < two →
    (flow_at old other).credit + most ≤ bound
still_ahead old new flow key waiting other most bound given before one two first second less =
    let count = length old.flows in
    let others = given.next.others in
    elim (cases_lt (others + two) count) [
      | inl small ↦
          before.ahead (others + one) (others + two)
          (shifted count old.turn flow others one other before.fair.turn given.next.comes first (omega (arith, small, less)))
          (shifted count old.turn flow others two waiting before.fair.turn given.next.comes second small)
          (omega (arith, less))
      | inr large ↦
          let early : others ≤ others + two - count =
          no_earlier old new flow key waiting (others + two - count) given before.waits
          (wrapped count old.turn flow others two waiting before.fair.turn given.next.comes second large) in
          absurd (let never : 0 < 0 = omega (arith, early, large, second.1) in omega (arith, never))
    ]

after_give : (old new : QueueState) (flow key waiting other most bound : ℕ) → GivesFirst flow key old new → flow ≢ waiting →
    Ahead old waiting other most bound → MayTake new waiting other most bound
after_give old new flow key waiting other most bound given isnt before =
    let was = flow_at old flow in
    let put : FlowState = record was { ready = given.rest } in
    let within = given.next.comes.0 in
    let count : length (with_flow old flow put).flows ≡ length old.flows = length-set old.flows flow put in
    subst (λ state. MayTake state waiting other most bound) (sym given.taken) (record {
      before = record {
        fair = record {
          quantum = before.fair.quantum;
          turn = subst (λ n. flow < n) (sym count) within;
          credit = λ number. at_put (λ it. it.credit ≤ old.quantum) old flow put within number
              (λ same. before.fair.credit flow) (λ other. before.fair.credit number);
        };
        here = subst (λ n. waiting < n) (sym count) before.here;
        waits = at_put (λ it. 0 < length it.ready) old flow put within waiting (λ same. absurd (isnt (sym same))) (λ other. before.waits);
        within = subst (λ n. other < n) (sym count) before.within;
        unlike = before.unlike;
        ahead = λ one two first second less.
            let known : (flow_at old other).credit + most ≤ bound =
            still_ahead old new flow key waiting other most bound given before one two
            (subst (λ n. ComesAfter n flow one other) count first) (subst (λ n. ComesAfter n flow two waiting) count second) less in
            at_put (λ it. it.credit + most ≤ bound) old flow put within other
            (λ same. subst (λ n. (flow_at old n).credit + most ≤ bound) same known) (λ unlike. known);
      };
      own = λ same. absurd (isnt same);
    })

-- what is left of a flow's quantum after a charge is no more than the quantum
pub credit_left : (quantum credit spent : ℕ) → credit ≤ quantum → credit - spent ≤ quantum
credit_left quantum credit spent most = omega (arith, most)

pub renewed_few : (quantum credit spent : ℕ) → renewed quantum credit spent ≤ quantum
renewed_few quantum credit spent = omega arith

-- something that waits in a flow waits there after a charge, and a flow's credit changes only at its own charge
charged_state : (old : QueueState) (flow : FlowState) (credit waiting other most bound : ℕ) → flow ≡ flow_at old old.turn → credit ≤ old.quantum →
    (next : ℕ) → next < length old.flows → IsFair old → waiting < length old.flows → 0 < length (flow_at old waiting).ready →
    other < length old.flows → other ≢ waiting →
    ((one two : ℕ) → ComesAfter (length old.flows) next one other → ComesAfter (length old.flows) next two waiting → one < two →
    (other ≡ old.turn → credit + most ≤ bound) × (other ≢ old.turn → (flow_at old other).credit + most ≤ bound)) →
    Ahead (record (with_flow old old.turn (record flow { credit = credit })) { turn = next }) waiting other most bound
charged_state old flow credit waiting other most bound is few next turn fair here waits within unlike ahead =
    let put : FlowState = record flow { credit = credit } in
    let count : length (with_flow old old.turn put).flows ≡ length old.flows = length-set old.flows old.turn put in
    record {
      fair = record {
        quantum = fair.quantum;
        turn = subst (λ n. next < n) (sym count) turn;
        credit = λ number. at_put (λ it. it.credit ≤ old.quantum) old old.turn put fair.turn number (λ same. few) (λ isnt. fair.credit number);
      };
      here = subst (λ n. waiting < n) (sym count) here;
      waits = at_put (λ it. 0 < length it.ready) old old.turn put fair.turn waiting
          (λ same. subst (λ it. 0 < length it.ready) (sym is) (subst (λ n. 0 < length (flow_at old n).ready) same waits)) (λ isnt. waits);
      within = subst (λ n. other < n) (sym count) within;
      unlike = unlike;
      ahead = λ one two first second less.
          let known = ahead one two (subst (λ n. ComesAfter n next one other) count first) (subst (λ n. ComesAfter n next two waiting) count second) less in
          at_put (λ it. it.credit + most ≤ bound) old old.turn put fair.turn other known.0 known.1;
    }

-- at its own turn a flow other than the waiting one has what is left of its credit, and one more key's cost
pub at_own_turn : (state : QueueState) (waiting other most bound : ℕ) → Ahead state waiting other most bound → state.turn ≡ other →
    (flow_at state other).credit + most ≤ bound
at_own_turn state waiting other most bound before same =
    let after = comes_after (length state.flows) state.turn waiting before.fair.turn before.here in
    let later : 0 < after.0 =
    elim (cases_lt 0 after.0) [
      | inl more ↦ more
      | inr none ↦ absurd (elim after.1.2 [
        | inl at ↦ before.unlike (omega (arith, same, none, at))
        | inr at ↦ (let never : 0 < 0 = omega (arith, none, at, before.fair.turn) in omega (arith, never))
      ])
    ] in
    before.ahead 0 after.0 (before.within, omega (arith, before.within), inl (omega (arith, same))) after.1 later

on_the_turn : (count turn next one two other waiting : ℕ) → turn < count → IsNextTurn count turn next → turn ≡ other →
    ComesAfter count next one other → ComesAfter count next two waiting → one < two → ⊥
on_the_turn count turn next one two other waiting here follows same first second less =
    elim follows [
      | inl more ↦ elim first.2 [
        | inl at ↦ (let never : 0 < 0 = omega (arith, more.0, same, at) in omega (arith, never))
        | inr at ↦ (let never : 0 < 0 = omega (arith, more.0, same, at, less, second.1) in omega (arith, never))
      ]
      | inr wraps ↦ elim first.2 [
        | inl at ↦ (let never : 0 < 0 = omega (arith, wraps.0, wraps.1, same, at, less, second.1) in omega (arith, never))
        | inr at ↦ (let never : 0 < 0 = omega (arith, wraps.0, wraps.1, same, at, first.1, here) in omega (arith, never))
      ]
    ]

one_turn_back : (count turn next one other : ℕ) → turn < count → IsNextTurn count turn next → turn ≢ other → ComesAfter count next one other →
    ComesAfter count turn (one + 1) other
one_turn_back count turn next one other here follows unlike after = (
  after.0,
  elim (cases_lt (one + 1) count) [
    | inl small ↦ small
    | inr large ↦ absurd (unlike (elim follows [
      | inl more ↦ elim after.2 [ inl at ↦ omega (arith, more.0, more.1, at, large, after.0, after.1) | inr at ↦ omega (arith, more.0, at, large, after.1) ]
      | inr wraps ↦ elim after.2 [ inl at ↦ omega (arith, wraps.0, wraps.1, at, large, after.1) | inr at ↦ omega (arith, wraps.0, wraps.1, at, after.0, after.1, here) ]
    ]))
  ],
  elim follows [
    | inl more ↦ elim after.2 [ inl at ↦ inl (omega (arith, more.0, at)) | inr at ↦ inr (omega (arith, more.0, at)) ]
    | inr wraps ↦ elim after.2 [
      | inl at ↦ inr (omega (arith, wraps.0, wraps.1, at))
      | inr at ↦ absurd (let never : 0 < 0 = omega (arith, wraps.1, at, after.1) in omega (arith, never))
    ]
  ],
)

pub next_within : (count turn next : ℕ) → turn < count → IsNextTurn count turn next → next < count
next_within count turn next here follows = elim follows [ inl more ↦ more.1 | inr wraps ↦ omega (arith, wraps.1, here) ]

-- what is charged before a flow gives, and what may yet be charged then
abbrev Charged : QueueState → ℕ → QueueState → ℕ → ℕ → ℕ → ℕ → Type 0
Charged old charge between waiting other most bound = (charge ≤ bound) × Ahead between waiting other most (bound - charge)

credit_after : (credit spent most bound : ℕ) → spent < credit → credit + most ≤ bound → credit - spent + most ≤ bound - spent
credit_after credit spent most bound less few = omega (arith, less, few)

after_going_on : (old : QueueState) (flow : FlowState) (spent waiting other most bound : ℕ) → flow ≡ flow_at old old.turn → TurnGoesOn spent flow →
    old.turn ≢ waiting → Ahead old waiting other most bound →
    Charged old (cond (nat_eq old.turn other) spent 0)
    (record (with_flow old old.turn (record flow { credit = flow.credit - spent })) { turn = old.turn }) waiting other most bound
after_going_on old flow spent waiting other most bound is on isnt before =
    let few : flow.credit ≤ old.quantum = subst (λ it. it.credit ≤ old.quantum) (sym is) (before.fair.credit old.turn) in
    let left : flow.credit - spent ≤ old.quantum = credit_left old.quantum flow.credit spent few in
    charge_cases
    (λ charge. Charged old charge (record (with_flow old old.turn (record flow { credit = flow.credit - spent })) { turn = old.turn }) waiting other most bound)
    old.turn other spent
    (λ same.
    let whole : flow.credit + most ≤ bound =
    subst (λ it. it.credit + most ≤ bound) (ap (flow_at old) (sym same) ∙ sym is) (at_own_turn old waiting other most bound before same) in (
      omega (arith, on.1, whole),
      charged_state old flow (flow.credit - spent) waiting other most (bound - spent) is left old.turn before.fair.turn before.fair before.here before.waits
          before.within before.unlike
          (λ one two first second less. (λ at. credit_after flow.credit spent most bound on.1 whole, λ unlike. absurd (unlike (sym same)))),
    ))
    (λ unlike. (
      omega arith,
      charged_state old flow (flow.credit - spent) waiting other most (bound - 0) is left old.turn before.fair.turn before.fair before.here before.waits
          before.within before.unlike
          (λ one two first second less.
          (λ at. absurd (unlike (sym at)), λ other. omega (arith, before.ahead one two first second less))),
    ))

after_ending : (old : QueueState) (flow : FlowState) (spent next waiting other most bound : ℕ) → flow ≡ flow_at old old.turn → spent ≤ most →
    IsNextTurn (length old.flows) old.turn next → MayTake old waiting other most bound →
    Charged old (cond (nat_eq old.turn other) spent 0)
    (record (with_flow old old.turn (record flow { credit = renewed old.quantum flow.credit spent })) { turn = next }) waiting other most bound
after_ending old flow spent next waiting other most bound is few follows may =
    let before = may.before in
    let credit = renewed old.quantum flow.credit spent in
    let turn : next < length old.flows = next_within (length old.flows) old.turn next before.fair.turn follows in
    charge_cases
    (λ charge. Charged old charge (record (with_flow old old.turn (record flow { credit = credit })) { turn = next }) waiting other most bound)
    old.turn other spent
    (λ same.
    let whole : (flow_at old other).credit + most ≤ bound = at_own_turn old waiting other most bound before same in (
      omega (arith, few, whole),
      charged_state old flow credit waiting other most (bound - spent) is (renewed_few old.quantum flow.credit spent) next turn before.fair before.here
          before.waits before.within before.unlike
          (λ one two first second less. absurd (on_the_turn (length old.flows) old.turn next one two other waiting before.fair.turn follows same first second less)),
    ))
    (λ unlike. (
      omega arith,
      charged_state old flow credit waiting other most (bound - 0) is (renewed_few old.quantum flow.credit spent) next turn before.fair before.here
          before.waits before.within before.unlike
          (λ one two first second less. (
            λ at. absurd (unlike (sym at)),
            λ isnt. elim (eqb_tells old.turn waiting) [
              | inl own ↦ omega (arith, may.own own.1, before.fair.credit other)
              | inr away ↦ omega (
                arith,
                before.ahead (one + 1) (two + 1)
                    (one_turn_back (length old.flows) old.turn next one other before.fair.turn follows unlike first)
                    (one_turn_back (length old.flows) old.turn next two waiting before.fair.turn follows away.1 second)
                    (omega (arith, less)),
              )
            ],
          )),
    ))

-- what one event charges is within what may be charged, and the rest may be charged afterwards
pub after_giving : (old between new : QueueState) (flow key spent waiting other most bound : ℕ) → Charges spent old between → GivesFirst flow key between new →
    flow ≢ waiting → spent ≤ most → MayTake old waiting other most bound →
    (let charge = cond (nat_eq old.turn other) spent 0 in (charge ≤ bound) × MayTake new waiting other most (bound - charge))
after_giving old between new flow key spent waiting other most bound (goes_on was is on then) given isnt few may =
    let before = may.before in
    let put : FlowState = record was { credit = was.credit - spent } in
    let here : GivesFirst flow key (with_flow old old.turn put) new = subst (λ state. GivesFirst flow key state new) then given in
    let count : length (with_flow old old.turn put).flows ≡ length old.flows = length-set old.flows old.turn put in
    let waits : 0 < length (flow_at (with_flow old old.turn put) waiting).ready =
    at_put (λ it. 0 < length it.ready) old old.turn put before.fair.turn waiting
    (λ same. subst (λ it. 0 < length it.ready) (sym is) (subst (λ n. 0 < length (flow_at old n).ready) same before.waits)) (λ isnt. before.waits) in
    let away : old.turn ≢ waiting =
    not_own (with_flow old old.turn put) new flow key waiting here isnt (subst (λ n. old.turn < n) (sym count) before.fair.turn)
    (subst (λ n. waiting < n) (sym count) before.here) waits in
    let charged = after_going_on old was spent waiting other most bound is on away before in
    (charged.0, after_give _ new flow key waiting other most _ here isnt charged.1)
after_giving old between new flow key spent waiting other most bound (ends was is over next follows then) given isnt few may =
    let charged = after_ending old was spent next waiting other most bound is few follows may in
    (charged.0, after_give _ new flow key waiting other most _ (subst (λ state. GivesFirst flow key state new) then given) isnt charged.1)

bounded : (events : List QueueEvent) (old new : QueueState) (waiting other most bound : ℕ) → MayTake old waiting other most bound → EventsLead old events new →
    All (PassesOver waiting most) events → charged_to other old.turn events ≤ bound
bounded [] old new waiting other most bound may lead passes = omega arith
bounded (comes flow key ∷ events) old new waiting other most bound may lead passes =
    subst (λ turn. charged_to other turn events ≤ bound) (ap (λ state. state.turn) lead.1.1)
    (bounded events lead.0 new waiting other most bound (after_push old lead.0 flow key waiting other most bound lead.1.0 lead.1.1 may) lead.2
    (All-tail (PassesOver waiting most) (comes flow key) events passes))
bounded (gives flow key spent ∷ events) old new waiting other most bound may lead passes =
    let here : (flow ≢ waiting) × (spent ≤ most) = All-head (PassesOver waiting most) (gives flow key spent) events passes in
    let charge = cond (nat_eq old.turn other) spent 0 in
    let step = after_giving old lead.1.0 lead.0 flow key spent waiting other most bound lead.1.1 lead.1.2 here.0 here.1 may in
    let rest : charged_to other flow events ≤ bound - charge =
    subst (λ turn. charged_to other turn events ≤ bound - charge) (ap (λ state. state.turn) lead.1.2.taken)
    (bounded events lead.0 new waiting other most (bound - charge) step.1 lead.2 (All-tail (PassesOver waiting most) (gives flow key spent) events passes)) in
    omega (arith, step.0, rest)

-- as something begins to wait in a flow, each other flow may be charged a quantum and one more key's cost
pub may_take_anew : (state : QueueState) (waiting other most : ℕ) → IsFair state → waiting < length state.flows →
    0 < length (flow_at state waiting).ready → other < length state.flows → other ≢ waiting →
    MayTake state waiting other most (state.quantum + most)
may_take_anew state waiting other most fair here waits within unlike = record {
  before = record {
    fair = fair;
    here = here;
    waits = waits;
    within = within;
    unlike = unlike;
    ahead = λ one two first second less. omega (arith, fair.credit other);
  };
  own = λ same. omega arith;
}

pub waits_for_one_quantum_each : WaitsForOneQuantumEach
waits_for_one_quantum_each old new events waiting other most fair here waits within unlike lead passes =
    bounded events old new waiting other most (old.quantum + most)
    (may_take_anew old waiting other most fair here waits within unlike) lead passes
