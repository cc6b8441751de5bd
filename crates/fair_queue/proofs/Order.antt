-- A flow gives its keys in the order in which they came.
use Rattle.std.specs.Prelude.{slice_get}
use Rattle.std.proofs.Common.{◌≡◌, ◌≢◌, ℕ, ◌-◌, ◌<◌, ◌≤◌, zero, suc, Some, List, [], ◌∷◌, ◌++◌, length, cond, nat_eq, refl, sym, ◌∙◌, ap, subst, arith, inl, inr, append_assoc}
use Rattle.std.proofs.lemmas.Bool.Decides.{eqb_tells}
use Rattle.std.proofs.lemmas.List.{append-nil, get_or-set_same}
use Rattle.std.proofs.lemmas.Option.{slice_get_within}
use Rattle.fair_queue.specs.Turns.{Charges, FlowState, GivesFirst, IsFair, IsPushed, QueueState, flow_at, idle, with_flow}
use Rattle.fair_queue.specs.Fair.{EventsLead, GivesInOrder, IsGivenAfterThoseAhead, MovesUp, QueueEvent, come_into, comes, given_from, gives, keys_given}
use Rattle.fair_queue.proofs.Waiting.{at_put, takes_in}
use Rattle.fair_queue.proofs.Behind.{after_charge, after_first, put_fair}

-- the key is this flow's, or another's
key_cases : (P : List ℕ → Type 0) (flow number key : ℕ) → (flow ≡ number → P (key ∷ [])) → (flow ≢ number → P []) → P (cond (nat_eq flow number) (key ∷ []) [])
key_cases P flow number key same unlike =
    elim (eqb_tells flow number) [
      | inl is ↦ subst (λ b. P (cond b (key ∷ []) [])) (sym is.0) (same is.1)
      | inr isnt ↦ subst (λ b. P (cond b (key ∷ []) [])) (sym isnt.0) (unlike isnt.1)
    ]

-- a key that comes waits behind those of its flow
waits_last : (old new : QueueState) (flow key : ℕ) → flow < length old.flows → IsPushed flow key old new →
    (flow_at new flow).ready ≡ (flow_at old flow).ready ++ (key ∷ [])
waits_last old new flow key within is =
    ap (λ state. (flow_at state flow).ready) is ∙ ap (λ it. it.ready) (get_or-set_same old.flows flow _ idle within)

-- once a key came, it is one more at its flow's end, and the other flows are as they were
pub after_push : (old new : QueueState) (flow key : ℕ) → flow < length old.flows → IsPushed flow key old new → IsFair old →
    IsFair new × ((number : ℕ) → (flow_at new number).ready ≡ (flow_at old number).ready ++ cond (nat_eq flow number) (key ∷ []) [])
after_push old new flow key within is fair =
    let into = takes_in old new flow key is in (
      subst IsFair (sym into.is)
          (put_fair old flow old.turn into.put fair within fair.turn (subst (λ n. n ≤ old.quantum) (sym into.credit) (fair.credit flow))).fair,
      λ number. key_cases (λ more. (flow_at new number).ready ≡ (flow_at old number).ready ++ more) flow number key
          (λ same. subst (λ n. (flow_at new n).ready ≡ (flow_at old n).ready ++ (key ∷ [])) same (waits_last old new flow key within is))
          (λ unlike. subst (λ state. (flow_at state number).ready ≡ (flow_at old number).ready ++ []) (sym into.is)
          (at_put (λ it. it.ready ≡ (flow_at old number).ready ++ []) old flow into.put within number
          (λ here. absurd (unlike (sym here))) (λ isnt. sym (append-nil (flow_at old number).ready)))),
    )

-- the key that is given was the first of its flow, and the other flows are as they were
after_give : (old new : QueueState) (flow key : ℕ) → GivesFirst flow key old new →
    (number : ℕ) → (flow_at old number).ready ≡ cond (nat_eq flow number) (key ∷ []) [] ++ (flow_at new number).ready
after_give old new flow key given =
    let put : FlowState = record (flow_at old flow) { ready = given.rest } in
    subst (λ state. (number : ℕ) → (flow_at old number).ready ≡ cond (nat_eq flow number) (key ∷ []) [] ++ (flow_at state number).ready) (sym given.taken)
    (λ number. key_cases (λ one. (flow_at old number).ready ≡ one ++ (flow_at (with_flow old flow put) number).ready) flow number key
    (λ same. at_put (λ it. (flow_at old number).ready ≡ key ∷ it.ready) old flow put given.next.comes.0 number
    (λ here. ap (λ n. (flow_at old n).ready) here ∙ given.front) (λ isnt. absurd (isnt (sym same))))
    (λ unlike. at_put (λ it. (flow_at old number).ready ≡ it.ready) old flow put given.next.comes.0 number
    (λ here. absurd (unlike (sym here))) (λ isnt. refl)))

after_event : (old between new : QueueState) (flow key spent : ℕ) → Charges spent old between → GivesFirst flow key between new → IsFair old →
    IsFair new × ((number : ℕ) → (flow_at old number).ready ≡ cond (nat_eq flow number) (key ∷ []) [] ++ (flow_at new number).ready)
after_event old between new flow key spent charges given fair =
    let charged = after_charge old between spent charges fair in (
      (after_first between new flow key given charged.0.fair).0.fair,
      λ number. sym (charged.1 number) ∙ after_give between new flow key given number,
    )

-- those that were given, and those that wait, stay joined as another comes, or is given
one_comes : (given then before now key come : List ℕ) → now ≡ before ++ key → given ++ then ≡ now ++ come → given ++ then ≡ before ++ (key ++ come)
one_comes given then before now key come is rest = rest ∙ ap (λ it. it ++ come) is ∙ append_assoc before key come

one_given : (given then before now key come : List ℕ) → before ≡ key ++ now → given ++ then ≡ now ++ come → (key ++ given) ++ then ≡ before ++ come
one_given given then before now key come is rest =
    append_assoc key given then ∙ ap (λ it. key ++ it) rest ∙ sym (append_assoc key now come) ∙ ap (λ it. it ++ come) (sym is)

joined : (events : List QueueEvent) (old new : QueueState) (flow : ℕ) → IsFair old → EventsLead old events new →
    given_from flow events ++ (flow_at new flow).ready ≡ (flow_at old flow).ready ++ come_into flow events
joined [] old new flow fair lead = ap (λ state. (flow_at state flow).ready) lead ∙ sym (append-nil (flow_at old flow).ready)
joined (comes other key ∷ events) old new flow fair lead =
    let after = after_push old lead.0 other key lead.1.0 lead.1.1 fair in
    one_comes (given_from flow events) (flow_at new flow).ready (flow_at old flow).ready (flow_at lead.0 flow).ready
    (cond (nat_eq other flow) (key ∷ []) []) (come_into flow events) (after.1 flow) (joined events lead.0 new flow after.0 lead.2)
joined (gives other key spent ∷ events) old new flow fair lead =
    let after = after_event old lead.1.0 lead.0 other key spent lead.1.1 lead.1.2 fair in
    one_given (given_from flow events) (flow_at new flow).ready (flow_at old flow).ready (flow_at lead.0 flow).ready
    (cond (nat_eq other flow) (key ∷ []) []) (come_into flow events) (after.1 flow) (joined events lead.0 new flow after.0 lead.2)

pub in_order : GivesInOrder
in_order old new events flow fair lead = joined events old new flow fair lead

-- as many keys are given as there are in the list of them
count_given : (events : List QueueEvent) (flow : ℕ) → length (given_from flow events) ≡ keys_given flow events
count_given [] flow = refl
count_given (comes other key ∷ events) flow = count_given events flow
count_given (gives other key spent ∷ events) flow =
    elim (eqb_tells other flow) [
      | inl is ↦ rw is.0 (omega (arith, count_given events flow))
      | inr isnt ↦ rw isnt.0 (omega (arith, count_given events flow))
    ]

-- an element of the first of two lists that are joined, and of the second
at_first : (xs ys : List ℕ) (index : ℕ) → index < length xs → slice_get (xs ++ ys) index ≡ slice_get xs index
at_first [] ys index within = absurd (omega arith)
at_first (x ∷ xs) ys zero within = refl
at_first (x ∷ xs) ys (suc index) within = at_first xs ys index (omega (arith, within))

at_second : (xs ys : List ℕ) (index : ℕ) → length xs ≤ index → slice_get (xs ++ ys) index ≡ slice_get ys (index - length xs)
at_second [] ys index past = let none : index - 0 ≡ index = omega arith in ap (slice_get ys) (sym none)
at_second (x ∷ xs) ys zero past = absurd (omega arith)
at_second (x ∷ xs) ys (suc index) past =
    let less : suc index - suc (length xs) ≡ index - length xs = omega arith in
    at_second xs ys index (omega (arith, past)) ∙ ap (slice_get ys) (sym less)

-- the key stands in its place among those that were given and those that wait
in_place : (old new : QueueState) (events : List QueueEvent) (waiting key ahead : ℕ) → IsFair old → slice_get (flow_at old waiting).ready ahead ≡ Some key →
    EventsLead old events new → slice_get (given_from waiting events ++ (flow_at new waiting).ready) ahead ≡ Some key
in_place old new events waiting key ahead fair waits lead =
    ap (λ it. slice_get it ahead) (in_order old new events waiting fair lead)
    ∙ at_first (flow_at old waiting).ready (come_into waiting events) ahead (slice_get_within (flow_at old waiting).ready ahead key waits) ∙ waits

pub moves_up : MovesUp
moves_up old new events waiting key ahead fair waits lead few =
    let given = given_from waiting events in
    subst (λ n. slice_get (flow_at new waiting).ready (ahead - n) ≡ Some key) (count_given events waiting)
    (sym (at_second given (flow_at new waiting).ready ahead (subst (λ n. n ≤ ahead) (sym (count_given events waiting)) few))
    ∙ in_place old new events waiting key ahead fair waits lead)

pub is_given_after_those_ahead : IsGivenAfterThoseAhead
is_given_after_those_ahead old new events waiting key ahead fair waits lead more =
    sym (at_first (given_from waiting events) (flow_at new waiting).ready ahead (subst (λ n. ahead < n) (sym (count_given events waiting)) more))
    ∙ in_place old new events waiting key ahead fair waits lead
