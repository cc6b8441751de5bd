-- What serves cost, by what is charged for them.
use Rattle.std.proofs.Common.{◌≡◌, ◌⊎◌, ◌∙◌, ◌+◌, ◌-◌, ◌<◌, ◌≤◌, ℕ, Bool, true, false, List, [], ◌∷◌, ◌++◌, All, Option, ap, arith, cond, length, inl, inr, length-append, nat_eq, refl, subst, sym, ⊎_elim}
use Rattle.std.proofs.lemmas.Bool.{cases_lt}
use Rattle.std.proofs.lemmas.List.{get_or-set_same, length-set}
use Rattle.std.proofs.lemmas.List.Elements.{All-cons, All-head, All-nil, All-tail}
use Rattle.fair_queue.specs.Fair.{EventsLead, PassesOver, QueueEvent, WaitsForOneQuantumEach, charged_to, comes, gives}
use Rattle.fair_queue.specs.Turns.{Charges, ComesAfter, FlowState, GivesFirst, IsFair, IsFirstReady, IsPushed, QueueState, TurnGoesOn, ends, flow_at, goes_on, idle, with_flow}
use Rattle.mc_conn.specs.declared.conn.State.{State}
use Rattle.mc_conn.specs.declared.conn.State.TheVariants.{Busy, Closed, Full, Idle}
use Rattle.mc_connections.specs.InQueue.{WaitsOn}
use Rattle.mc_connections.specs.Round.{Queued, ServesNext, none_served, one_served}
use Rattle.mc_connections.specs.Sharing.{IsOfAnother, OneServe, OnlyTheTurnGoesOn, OthersTakeOneTurnEach, RoundsAreServes, ServesLead, cost_in}
use Rattle.mc_connections.specs.Waiting.{ComesToWait, flow_of}
use Rattle.mc_connections.specs.declared.waiting.Waiting.{Waiting}

pub cond_few : (b : Bool) (cost most : ℕ) → cost ≤ most → cond b cost 0 ≤ most
cond_few true cost most few = few
cond_few false cost most few = omega arith

-- a key came into a flow, or nothing changed
abbrev pub CameOrStayed : QueueState → QueueState → Type 0
CameOrStayed old new = ((flow : ℕ) × (key : ℕ) × (flow < length old.flows) × IsPushed flow key old new) ⊎ (new ≡ old)

pub came_to_wait : (tenant : Option ℕ) (key : ℕ) (old new : Waiting) → 0 < length old.queue.flows → ComesToWait tenant key old new → CameOrStayed old.queue new.queue
came_to_wait tenant key old new some waits =
    ⊎_elim
    (λ pushed. inl (flow_of (length old.queue.flows) tenant, key, omega (arith, some), pushed.2))
    (λ stays. inr stays.0)
    waits

pub waited_on : (state : State) (tenant : Option ℕ) (key : ℕ) (old new : Waiting) → 0 < length old.queue.flows → WaitsOn state tenant key old new → CameOrStayed old.queue new.queue
waited_on Busy tenant key old new some waits = came_to_wait tenant key old new some waits.0
waited_on Full tenant key old new some waits = came_to_wait tenant key old new some waits.0
waited_on Idle tenant key old new some waits = inr waits.0
waited_on Closed tenant key old new some waits = inr waits.0

-- there are flows once one has given a key
pub some_flows : (old new : QueueState) (flow key : ℕ) → GivesFirst flow key old new → 0 < length new.flows
some_flows old new flow key given =
    let within : flow < length old.flows = given.next.comes.0 in
    let same : length new.flows ≡ length old.flows = ap (λ (state : QueueState). length state.flows) given.taken ∙ length-set old.flows flow _ in
    omega (arith, within, same)

-- What the serves are to the queue: events, in which as much is charged to a flow as they cost it, but for the latest, and for what was spent before.
record Happened (waiting other most : ℕ) (before after : Queued) (serves : List OneServe) : Type 0 where
  events : List QueueEvent
  lead : EventsLead before.waiting.queue events after.waiting.queue
  passes : All (PassesOver waiting most) events
  charged : (turn : ℕ) → cond (nat_eq turn other) before.waiting.spent 0 + cost_in other serves ≤ charged_to other turn events + most

happened : (until : Bool) (waiting other most : ℕ) (before after : Queued) (serves : List OneServe) → ServesLead until before serves after → before.waiting.spent ≤ most →
    All (IsOfAnother waiting most) serves → Happened waiting other most before after serves
happened until waiting other most before after [] lead small all = record {
  events = [];
  lead = ap (λ (queued : Queued). queued.waiting.queue) lead;
  passes = All-nil (PassesOver waiting most);
  charged = λ turn. let few = cond_few (nat_eq turn other) before.waiting.spent most small in omega (arith, few);
}
happened until waiting other most before after (serve ∷ serves) lead small all =
    let between : Queued = lead.0 in
    let next : ServesNext until before between = lead.1 in
    let is : next.turn.flow ≡ serve.flow = lead.2 in
    let cost : between.waiting.spent ≡ serve.cost = lead.3 in
    let head = All-head (IsOfAnother waiting most) serve serves all in
    let few : between.waiting.spent ≤ most = omega (arith, cost, head.1) in
    let rest = happened until waiting other most between after serves lead.4 few (All-tail (IsOfAnother waiting most) serve serves all) in
    let turn = next.turn in
    let gave : QueueEvent = gives turn.flow next.key before.waiting.spent in
    let first : PassesOver waiting most gave = (λ same. head.0 (sym is ∙ same), small) in
    let later : cond (nat_eq turn.flow other) serve.cost 0 + cost_in other serves ≤ charged_to other turn.flow rest.events + most =
    subst (λ n. cond (nat_eq turn.flow other) n 0 + cost_in other serves ≤ charged_to other turn.flow rest.events + most) cost (rest.charged turn.flow) in
    let same : cond (nat_eq serve.flow other) serve.cost 0 ≡ cond (nat_eq turn.flow other) serve.cost 0 = ap (λ n. cond (nat_eq n other) serve.cost 0) (sym is) in
    ⊎_elim
    (λ (came : (flow : ℕ) × (key : ℕ) × (flow < length next.taken.queue.flows) × IsPushed flow key next.taken.queue between.waiting.queue). record {
      events = gave ∷ (comes came.0 came.1 ∷ rest.events);
      lead = (next.taken.queue, (turn.between, turn.charged, turn.given), (between.waiting.queue, (came.2, came.3), rest.lead));
      passes = All-cons (PassesOver waiting most) gave (comes came.0 came.1 ∷ rest.events) first (All-cons (PassesOver waiting most) (comes came.0 came.1) rest.events tt rest.passes);
      charged = λ now. omega (arith, later, same);
    })
    (λ (stayed : between.waiting.queue ≡ next.taken.queue). record {
      events = gave ∷ rest.events;
      lead = (next.taken.queue, (turn.between, turn.charged, turn.given), subst (λ (queue : QueueState). EventsLead queue rest.events after.waiting.queue) stayed rest.lead);
      passes = All-cons (PassesOver waiting most) gave rest.events first rest.passes;
      charged = λ now. omega (arith, later, same);
    })
    (waited_on next.waits.state _ next.key next.taken between.waiting (some_flows turn.between next.taken.queue turn.flow next.key turn.given) next.waits.waits)

pub others_take_one_turn_each : WaitsForOneQuantumEach → OthersTakeOneTurnEach
others_take_one_turn_each law until before after serves waiting other most fair here some there unlike lead small all =
    let went = happened until waiting other most before after serves lead small all in
    let few : charged_to other before.waiting.queue.turn went.events ≤ before.waiting.queue.quantum + most =
    law before.waiting.queue after.waiting.queue went.events waiting other most fair here some there unlike went.lead went.passes in
    omega (arith, few, went.charged before.waiting.queue.turn)

-- one more serve after these
lead_on : (until : Bool) (before between after : Queued) (serves : List OneServe) (serve : OneServe) → ServesLead until before serves between → (next : ServesNext until between after) →
    next.turn.flow ≡ serve.flow → after.waiting.spent ≡ serve.cost → ServesLead until before (serves ++ serve ∷ []) after
lead_on until before between after [] serve lead next flow cost =
    subst (λ (first : Queued). ServesLead until first (serve ∷ []) after) lead (after, next, flow, cost, refl)
lead_on until before between after (first ∷ serves) serve lead next flow cost =
    (lead.0, lead.1, lead.2, lead.3, lead_on until lead.0 between after serves serve lead.4 next flow cost)

pub rounds_are_serves : RoundsAreServes
rounds_are_serves until before _ _ none_served = ([], refl, refl)
rounds_are_serves until before _ _ (one_served count between last earlier next) =
    let first = rounds_are_serves until before between count earlier in
    let serve : OneServe = record { flow = next.turn.flow; cost = last.waiting.spent } in (
      first.0 ++ serve ∷ [],
      length-append first.0 (serve ∷ []) ∙ ap (λ n. n + 1) first.1,
      lead_on until before between last first.0 serve first.2 next refl refl,
    )

turn_goes_on : (spent : ℕ) (flow : FlowState) → ¬ (¬ (TurnGoesOn spent flow)) → TurnGoesOn spent flow
turn_goes_on spent flow not_over =
    ⊎_elim
    (λ (some : 0 < length flow.ready). ⊎_elim
    (λ (left : spent < flow.credit). (some, left))
    (λ (used : flow.credit ≤ spent). absurd (not_over (λ goes. let no : ⊥ = omega (arith, used, goes.1) in no)))
    (cases_lt spent flow.credit))
    (λ (none : length flow.ready ≤ 0). absurd (not_over (λ goes. let no : ⊥ = omega (arith, none, goes.0) in no)))
    (cases_lt 0 (length flow.ready))

-- a charge within a turn leaves the turn where it is, and what waits there
record StillItsTurn (old new : QueueState) : Type 0 where
  turn : new.turn ≡ old.turn
  here : old.turn < length new.flows
  waits : 0 < length (flow_at new old.turn).ready

still_its_turn : (old new : QueueState) (spent : ℕ) → Charges spent old new → TurnGoesOn spent (flow_at old old.turn) → IsFair old → StillItsTurn old new
still_its_turn old new spent (goes_on flow is on then) goes fair =
    let put : FlowState = record flow { credit = flow.credit - spent } in
    let there : (flow_at (with_flow old old.turn put) old.turn) ≡ put = get_or-set_same old.flows old.turn put idle fair.turn in
    subst (λ (state : QueueState). StillItsTurn old state) (sym then) (record {
      turn = refl;
      here = subst (λ n. old.turn < n) (sym (length-set old.flows old.turn put)) fair.turn;
      waits = subst (λ (it : FlowState). 0 < length it.ready) (sym there) on.0;
    })
still_its_turn old new spent (ends flow is over next follows then) goes fair = absurd (over (subst (λ (it : FlowState). TurnGoesOn spent it) (sym is) goes))

-- the first flow in which something waits is the one that has its turn, if something waits there
first_is_its_turn : (state : QueueState) (turn flow : ℕ) → state.turn ≡ turn → turn < length state.flows → 0 < length (flow_at state turn).ready → IsFirstReady state flow → flow ≡ turn
first_is_its_turn state turn flow is here waits first =
    ⊎_elim
    (λ (some : 0 < first.others).
    let comes : ComesAfter (length state.flows) state.turn 0 turn = (here, omega (arith, here), inl (omega (arith, is))) in
    let none = first.first 0 turn some comes in
    let no : ⊥ = omega (arith, waits, ap length none) in absurd no)
    (λ (none : first.others ≤ 0).
    ⊎_elim
    (λ (same : state.turn + first.others ≡ flow). omega (arith, none, same, is))
    (λ (past : state.turn + first.others ≡ flow + length state.flows). let no : ⊥ = omega (arith, none, past, is, here) in absurd no)
    first.comes.2)
    (cases_lt 0 first.others)

pub only_the_turn_goes_on : OnlyTheTurnGoesOn
only_the_turn_goes_on until before after next fair spent =
    let queue : QueueState = before.waiting.queue in
    let goes : TurnGoesOn before.waiting.spent (flow_at queue queue.turn) =
    turn_goes_on before.waiting.spent (flow_at queue queue.turn) (λ over. next.goes_on (spent, over)) in
    let still = still_its_turn queue next.turn.between before.waiting.spent next.turn.charged goes fair in
    (first_is_its_turn next.turn.between queue.turn next.turn.flow still.turn still.here still.waits next.turn.given.next, goes)
