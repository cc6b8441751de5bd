-- What other flows may be charged while a key waits in a flow behind others.
use Rattle.std.proofs.Common.{◌≡◌, ℕ, ◌+◌, ◌-◌, ◌*◌, ◌<◌, ◌≤◌, zero, suc, List, [], ◌∷◌, All, length, cond, nat_eq, refl, sym, ◌∙◌, ap, subst, arith, inl, inr, add-one, suc-mul}
use Rattle.std.proofs.lemmas.Bool.Decides.{eqb_tells}
use Rattle.std.proofs.lemmas.List.{length-set}
use Rattle.std.proofs.lemmas.List.Elements.{All-head, All-tail}
use Rattle.fair_queue.specs.Turns.{Charges, FlowState, GivesFirst, IsFair, IsPushed, QueueState, ends, flow_at, goes_on, renewed, with_flow}
use Rattle.fair_queue.specs.Fair.{CostsAtMost, EventsLead, QueueEvent, WaitsForOneQuantumPerKey, charged_to, comes, gives, keys_given}
use Rattle.fair_queue.proofs.Waiting.{MayTake, after_giving, after_push, at_own_turn, at_put, charge_cases, credit_left, may_take_anew, next_within, renewed_few, takes_in}

-- what neither a charge nor a key that is given changes
pub record Same (old new : QueueState) : Type 0 where
  pub fair : IsFair new
  quantum : new.quantum ≡ old.quantum
  count : length new.flows ≡ length old.flows

-- a flow is put in its place, and its credit is no more than the quantum
pub put_fair : (old : QueueState) (place turn : ℕ) (flow : FlowState) → IsFair old → place < length old.flows → turn < length old.flows →
    flow.credit ≤ old.quantum → Same old (record (with_flow old place flow) { turn = turn })
put_fair old place turn flow fair within here few =
    let count : length (with_flow old place flow).flows ≡ length old.flows = length-set old.flows place flow in
    record {
      fair = record {
        quantum = fair.quantum;
        turn = subst (λ n. turn < n) (sym count) here;
        credit = λ number. at_put (λ it. it.credit ≤ old.quantum) old place flow within number (λ same. few) (λ isnt. fair.credit number);
      };
      quantum = refl;
      count = count;
    }

-- a charge leaves what waits in each flow
charge_leaves : (old : QueueState) (flow : FlowState) (credit turn : ℕ) → flow ≡ flow_at old old.turn → IsFair old → turn < length old.flows →
    credit ≤ old.quantum → Same old (record (with_flow old old.turn (record flow { credit = credit })) { turn = turn })
    × ((number : ℕ) → (flow_at (with_flow old old.turn (record flow { credit = credit })) number).ready ≡ (flow_at old number).ready)
charge_leaves old flow credit turn is fair here few = (
  put_fair old old.turn turn (record flow { credit = credit }) fair fair.turn here few,
  λ number. at_put (λ it. it.ready ≡ (flow_at old number).ready) old old.turn (record flow { credit = credit }) fair.turn number
      (λ same. ap (λ it. it.ready) is ∙ ap (λ n. (flow_at old n).ready) (sym same)) (λ isnt. refl),
)

pub after_charge : (old between : QueueState) (spent : ℕ) → Charges spent old between → IsFair old →
    Same old between × ((number : ℕ) → (flow_at between number).ready ≡ (flow_at old number).ready)
after_charge old between spent (goes_on flow is on then) fair =
    subst (λ state. Same old state × ((number : ℕ) → (flow_at state number).ready ≡ (flow_at old number).ready)) (sym then)
    (charge_leaves old flow (flow.credit - spent) old.turn is fair fair.turn
    (credit_left old.quantum flow.credit spent (subst (λ it. it.credit ≤ old.quantum) (sym is) (fair.credit old.turn))))
after_charge old between spent (ends flow is over next follows then) fair =
    subst (λ state. Same old state × ((number : ℕ) → (flow_at state number).ready ≡ (flow_at old number).ready)) (sym then)
    (charge_leaves old flow (renewed old.quantum flow.credit spent) next is fair
    (next_within (length old.flows) old.turn next fair.turn follows) (renewed_few old.quantum flow.credit spent))

-- a flow that gives has one key fewer
pub after_first : (old new : QueueState) (flow key : ℕ) → GivesFirst flow key old new → IsFair old →
    Same old new × ((number : ℕ) → length (flow_at old number).ready ≡ cond (nat_eq flow number) 1 0 + length (flow_at new number).ready)
after_first old new flow key given fair =
    let put : FlowState = record (flow_at old flow) { ready = given.rest } in
    subst (λ state. Same old state × ((number : ℕ) → length (flow_at old number).ready ≡ cond (nat_eq flow number) 1 0 + length (flow_at state number).ready))
    (sym given.taken) (
      put_fair old flow flow put fair given.next.comes.0 given.next.comes.0 (fair.credit flow),
      λ number. charge_cases (λ one. length (flow_at old number).ready ≡ one + length (flow_at (with_flow old flow put) number).ready) flow number 1
          (λ same. at_put (λ it. length (flow_at old number).ready ≡ 1 + length it.ready) old flow put given.next.comes.0 number
          (λ is. let front : length (flow_at old number).ready ≡ length (key ∷ given.rest) =
          ap (λ n. length (flow_at old n).ready) is ∙ ap (λ ready. length ready) given.front in omega (arith, front)) (λ isnt. absurd (isnt (sym same))))
          (λ unlike. at_put (λ it. length (flow_at old number).ready ≡ 0 + length it.ready) old flow put given.next.comes.0 number
          (λ is. absurd (unlike (sym is))) (λ isnt. omega arith)),
    )

-- one key fewer is ahead, and what is charged meanwhile is a whole part less
one_fewer : (part left : ℕ) → 0 < left → part + (left - 1) * part ≡ left * part
one_fewer part zero some = omega (arith, some)
one_fewer part (suc left) some =
    let fewer : suc left - 1 ≡ left = omega arith in
    rw fewer (omega (arith, suc-mul left part))

-- after a key was given, as many wait in each flow as before, but for that one
record Given (old new : QueueState) (flow : ℕ) : Type 0 where
  fair : IsFair new
  quantum : new.quantum ≡ old.quantum
  count : length new.flows ≡ length old.flows
  turn : new.turn ≡ flow
  waits : (number : ℕ) → length (flow_at old number).ready ≡ cond (nat_eq flow number) 1 0 + length (flow_at new number).ready

after_event : (old between new : QueueState) (flow key spent : ℕ) → Charges spent old between → GivesFirst flow key between new → IsFair old →
    Given old new flow
after_event old between new flow key spent charges given fair =
    let charged = after_charge old between spent charges fair in
    let first = after_first between new flow key given charged.0.fair in
    record {
      fair = first.0.fair;
      quantum = first.0.quantum ∙ charged.0.quantum;
      count = first.0.count ∙ charged.0.count;
      turn = ap (λ state. state.turn) given.taken;
      waits = λ number. ap (λ ready. length ready) (sym (charged.1 number)) ∙ first.1 number;
    }

-- what the waiting flow's own key charges to another is within what may be charged
own_charge : (old : QueueState) (spent waiting other most bound : ℕ) → spent ≤ most → MayTake old waiting other most bound →
    cond (nat_eq old.turn other) spent 0 ≤ bound
own_charge old spent waiting other most bound few may =
    charge_cases (λ charge. charge ≤ bound) old.turn other spent
    (λ same. let whole : (flow_at old other).credit + most ≤ bound = at_own_turn old waiting other most bound may.before same in omega (arith, few, whole))
    (λ unlike. omega arith)

push_leaves : (old new : QueueState) (flow key waiting left : ℕ) → flow < length old.flows → IsPushed flow key old new →
    left < length (flow_at old waiting).ready → left < length (flow_at new waiting).ready
push_leaves old new flow key waiting left within is more =
    let into = takes_in old new flow key is in
    subst (λ state. left < length (flow_at state waiting).ready) (sym into.is)
    (at_put (λ it. left < length it.ready) old flow into.put within waiting
    (λ same. let here : left < length (flow_at old flow).ready = subst (λ n. left < length (flow_at old n).ready) same more in
    omega (arith, here, into.waits)) (λ isnt. more))

-- what is charged before the key is given: what may be charged before the flow gives next, and anew for each key that is ahead
behind : (events : List QueueEvent) (old new : QueueState) (waiting other most bound left : ℕ) → MayTake old waiting other most bound →
    left < length (flow_at old waiting).ready → EventsLead old events new → keys_given waiting events ≤ left → All (CostsAtMost most) events →
    charged_to other old.turn events ≤ bound + left * (old.quantum + most)
behind [] old new waiting other most bound left may more lead few costs = omega arith
behind (comes flow key ∷ events) old new waiting other most bound left may more lead few costs =
    let within : flow < length old.flows = lead.1.0 in
    let is : IsPushed flow key old lead.0 = lead.1.1 in
    let rest : charged_to other lead.0.turn events ≤ bound + left * (lead.0.quantum + most) =
    behind events lead.0 new waiting other most bound left (after_push old lead.0 flow key waiting other most bound within is may)
    (push_leaves old lead.0 flow key waiting left within is more) lead.2 few (All-tail (CostsAtMost most) (comes flow key) events costs) in
    let same : lead.0.quantum ≡ old.quantum = ap (λ state. state.quantum) is in
    let turn : lead.0.turn ≡ old.turn = ap (λ state. state.turn) is in
    subst (λ n. charged_to other n events ≤ bound + left * (old.quantum + most)) turn
    (subst (λ n. charged_to other lead.0.turn events ≤ bound + left * (n + most)) same rest)
behind (gives flow key spent ∷ events) old new waiting other most bound left may more lead few costs =
    let cheap : spent ≤ most = All-head (CostsAtMost most) (gives flow key spent) events costs in
    let later = All-tail (CostsAtMost most) (gives flow key spent) events costs in
    let after = after_event old lead.1.0 lead.0 flow key spent lead.1.1 lead.1.2 may.before.fair in
    let charge = cond (nat_eq old.turn other) spent 0 in
    let on : (bound left : ℕ) → charged_to other lead.0.turn events ≤ bound + left * (lead.0.quantum + most) →
    charged_to other flow events ≤ bound + left * (old.quantum + most) =
    (λ bound left known.
    subst (λ n. charged_to other n events ≤ bound + left * (old.quantum + most)) after.turn
    (subst (λ n. charged_to other lead.0.turn events ≤ bound + left * (n + most)) after.quantum known)) in
    elim (eqb_tells flow waiting) [
      | inl own ↦
          let part = old.quantum + most in
          let given : keys_given waiting events + 1 ≤ left =
          let one : 1 + keys_given waiting events ≤ left = subst (λ b. cond b 1 0 + keys_given waiting events ≤ left) own.0 few in omega (arith, one) in
          let count : length (flow_at old waiting).ready ≡ 1 + length (flow_at lead.0 waiting).ready =
          subst (λ b. length (flow_at old waiting).ready ≡ cond b 1 0 + length (flow_at lead.0 waiting).ready) own.0 (after.waits waiting) in
          let still : left - 1 < length (flow_at lead.0 waiting).ready = omega (arith, given, count, more) in
          let anew : MayTake lead.0 waiting other most (lead.0.quantum + most) =
          may_take_anew lead.0 waiting other most after.fair (subst (λ n. waiting < n) (sym after.count) may.before.here) (omega (arith, still))
          (subst (λ n. other < n) (sym after.count) may.before.within) may.before.unlike in
          let here : charge ≤ bound = own_charge old spent waiting other most bound cheap may in
          let rest : charged_to other flow events ≤ part + (left - 1) * part =
          on part (left - 1)
          (subst (λ n. charged_to other lead.0.turn events ≤ n + most + (left - 1) * (lead.0.quantum + most)) after.quantum
          (behind events lead.0 new waiting other most (lead.0.quantum + most) (left - 1) anew still lead.2 (omega (arith, given)) later)) in
          let whole : part + (left - 1) * part ≡ left * part = one_fewer part left (omega (arith, given)) in
          omega (arith, here, rest, whole)
      | inr away ↦
          let given : keys_given waiting events ≤ left =
          let none : 0 + keys_given waiting events ≤ left = subst (λ b. cond b 1 0 + keys_given waiting events ≤ left) away.0 few in omega (arith, none) in
          let count : length (flow_at old waiting).ready ≡ 0 + length (flow_at lead.0 waiting).ready =
          subst (λ b. length (flow_at old waiting).ready ≡ cond b 1 0 + length (flow_at lead.0 waiting).ready) away.0 (after.waits waiting) in
          let step = after_giving old lead.1.0 lead.0 flow key spent waiting other most bound lead.1.1 lead.1.2 away.1 cheap may in
          let rest : charged_to other flow events ≤ bound - charge + left * (old.quantum + most) =
          on (bound - charge) left
          (behind events lead.0 new waiting other most (bound - charge) left step.1 (omega (arith, count, more)) lead.2 given later) in
          omega (arith, step.0, rest)
    ]

pub waits_for_one_quantum_per_key : WaitsForOneQuantumPerKey
waits_for_one_quantum_per_key old new events waiting other ahead most fair here more within unlike lead few costs =
    let part = old.quantum + most in
    let all : charged_to other old.turn events ≤ part + ahead * part =
    behind events old new waiting other most part ahead (may_take_anew old waiting other most fair here (omega (arith, more)) within unlike) more
    lead few costs in
    let whole : part + ahead * part ≡ (ahead + 1) * part = rw (add-one, suc-mul) (omega arith) in
    omega (arith, all, whole)
