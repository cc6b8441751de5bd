-- What the rounds of a worker cost each flow while a connection waits, by the events of its queue:
-- rounds one after another are one list of these.
use Rattle.std.proofs.Common.{◌≡◌, ◌∙◌, ◌+◌, ◌<◌, ◌≤◌, ℕ, Bool, List, [], ◌∷◌, ◌++◌, All, ap, arith, cond, length, length-set, nat_eq, refl, subst, sym, ⊎_elim}
use Rattle.std.proofs.lemmas.List.Elements.{All-append, All-cons, All-head, All-nil, All-tail}
use Rattle.fair_queue.specs.Fair.{CostsAtMost, EventsLead, QueueEvent, WaitsForOneQuantumPerKey, charged_to, comes, gives, keys_given}
use Rattle.fair_queue.specs.Turns.{Charges, GivesFirst, IsIdle, IsPushed, QueueState, ends, goes_on}
use Rattle.mio.specs.Event.{event_token}
use Rattle.mio.specs.declared.event.event.Event.{Event}
use Rattle.mc_connections.specs.Round.{HaveCome, MakesRound, NotesEvent, Queued, ServesNext, none_came, one_came}
use Rattle.mc_connections.specs.Serving.{tenant_at}
use Rattle.mc_connections.specs.Sharing.{CostsNoMore, IsRoundOf, OneServe, OthersTakeOneTurnPerConnection, RoundsLead, ServesLead, cost_in, no_round, one_round, serves_in}
use Rattle.mc_connections.specs.Waiting.{EndsRound}
use Rattle.mc_connections.specs.declared.connections.Connections.{Connections}
use Rattle.mc_connections.specs.declared.waiting.Waiting.{Waiting}
use Rattle.mc_connections.proofs.Sharing.{CameOrStayed, came_to_wait, cond_few, some_flows, waited_on}

-- lists of serves and of events that are joined
all_left : {X : Type 0} (P : X → Type 0) (xs ys : List X) → All P (xs ++ ys) → All P xs
all_left P [] ys all = All-nil P
all_left P (x ∷ xs) ys all = All-cons P x xs (All-head P x (xs ++ ys) all) (all_left P xs ys (All-tail P x (xs ++ ys) all))

all_right : {X : Type 0} (P : X → Type 0) (xs ys : List X) → All P (xs ++ ys) → All P ys
all_right P [] ys all = all
all_right P (x ∷ xs) ys all = all_right P xs ys (All-tail P x (xs ++ ys) all)

cost_joined : (flow : ℕ) (xs ys : List OneServe) → cost_in flow (xs ++ ys) ≡ cost_in flow xs + cost_in flow ys
cost_joined flow [] ys = omega arith
cost_joined flow (serve ∷ xs) ys = let rest = cost_joined flow xs ys in omega (arith, rest)

serves_joined : (flow : ℕ) (xs ys : List OneServe) → serves_in flow (xs ++ ys) ≡ serves_in flow xs + serves_in flow ys
serves_joined flow [] ys = omega arith
serves_joined flow (serve ∷ xs) ys = let rest = serves_joined flow xs ys in omega (arith, rest)

given_joined : (flow : ℕ) (xs ys : List QueueEvent) → keys_given flow (xs ++ ys) ≡ keys_given flow xs + keys_given flow ys
given_joined flow [] ys = omega arith
given_joined flow (comes other key ∷ xs) ys = given_joined flow xs ys
given_joined flow (gives other key spent ∷ xs) ys = let rest = given_joined flow xs ys in omega (arith, rest)

lead_joined : (xs ys : List QueueEvent) (old mid new : QueueState) → EventsLead old xs mid → EventsLead mid ys new → EventsLead old (xs ++ ys) new
lead_joined [] ys old mid new first second = subst (λ (queue : QueueState). EventsLead queue ys new) first second
lead_joined (event ∷ xs) ys old mid new first second = (first.0, first.1, lead_joined xs ys first.0 mid new first.2 second)

charged_joined : (other : ℕ) (xs ys : List QueueEvent) (old mid : QueueState) → EventsLead old xs mid →
    charged_to other old.turn (xs ++ ys) ≡ charged_to other old.turn xs + charged_to other mid.turn ys
charged_joined other [] ys old mid lead =
    let same : charged_to other mid.turn ys ≡ charged_to other old.turn ys = ap (λ (queue : QueueState). charged_to other queue.turn ys) lead in
    omega (arith, same)
charged_joined other (comes flow key ∷ xs) ys old mid lead =
    let turn : lead.0.turn ≡ old.turn = ap (λ (queue : QueueState). queue.turn) lead.1.1 in
    subst (λ (now : ℕ). charged_to other now (xs ++ ys) ≡ charged_to other now xs + charged_to other mid.turn ys) turn (charged_joined other xs ys lead.0 mid lead.2)
charged_joined other (gives flow key spent ∷ xs) ys old mid lead =
    let given : GivesFirst flow key lead.1.0 lead.0 = lead.1.2 in
    let turn : lead.0.turn ≡ flow = ap (λ (queue : QueueState). queue.turn) given.taken in
    let rest = subst (λ (now : ℕ). charged_to other now (xs ++ ys) ≡ charged_to other now xs + charged_to other mid.turn ys) turn (charged_joined other xs ys lead.0 mid lead.2) in
    omega (arith, rest)

-- no event makes or takes away a flow
flows_charged : (spent : ℕ) (old new : QueueState) → Charges spent old new → length new.flows ≡ length old.flows
flows_charged spent old new (goes_on flow is on then) = ap (λ (queue : QueueState). length queue.flows) then ∙ length-set old.flows old.turn _
flows_charged spent old new (ends flow is over next follows then) = ap (λ (queue : QueueState). length queue.flows) then ∙ length-set old.flows old.turn _

flows_stay : (events : List QueueEvent) (old new : QueueState) → EventsLead old events new → length new.flows ≡ length old.flows
flows_stay [] old new lead = ap (λ (queue : QueueState). length queue.flows) lead
flows_stay (comes flow key ∷ events) old new lead =
    flows_stay events lead.0 new lead.2 ∙ (ap (λ (queue : QueueState). length queue.flows) lead.1.1 ∙ length-set old.flows flow _)
flows_stay (gives flow key spent ∷ events) old new lead =
    let given : GivesFirst flow key lead.1.0 lead.0 = lead.1.2 in
    flows_stay events lead.0 new lead.2
    ∙ (ap (λ (queue : QueueState). length queue.flows) given.taken ∙ (length-set lead.1.0.flows flow _ ∙ flows_charged spent old lead.1.0 lead.1.1))

module _ (waiting other most : ℕ) where
  -- what is spent and not charged yet, if it will be to this flow
  abbrev uncharged : Waiting → ℕ
  uncharged now = cond (nat_eq now.queue.turn other) now.spent 0

  abbrev counted : ℕ → ℕ
  counted flow = cond (nat_eq flow waiting) 1 0

  -- What happened to a queue while these were served: events, in which the flows give as often as they are served, and what is charged is what
  -- the serves cost, but for the latest, and for what was spent before.
  record Happens (old : Waiting) (serves : List OneServe) (new : Waiting) : Type 0 where
    events : List QueueEvent
    lead : EventsLead old.queue events new.queue
    few : old.spent ≤ most → All (CostsNoMore most) serves → All (CostsAtMost most) events × (new.spent ≤ most)
    given : keys_given waiting events ≡ serves_in waiting serves
    charged : uncharged old + cost_in other serves ≡ charged_to other old.queue.turn events + uncharged new

  nothing : (old new : Waiting) → new.queue ≡ old.queue → new.spent ≡ old.spent → Happens old [] new
  nothing old new same spent =
      let left : uncharged new ≡ uncharged old = λ i. cond (nat_eq (same i).turn other) (spent i) 0 in
      record {
        events = [];
        lead = same;
        few = λ small all. (All-nil (CostsAtMost most), subst (λ (n : ℕ). n ≤ most) (sym spent) small);
        given = refl;
        charged = omega (arith, left);
      }

  came : (flow key : ℕ) (old new : Waiting) → flow < length old.queue.flows → IsPushed flow key old.queue new.queue → new.spent ≡ old.spent → Happens old [] new
  came flow key old new inside pushed spent =
      let turn : new.queue.turn ≡ old.queue.turn = ap (λ (queue : QueueState). queue.turn) pushed in
      let left : uncharged new ≡ uncharged old = λ i. cond (nat_eq (turn i) other) (spent i) 0 in
      record {
        events = comes flow key ∷ [];
        lead = (new.queue, (inside, pushed), refl);
        few = λ small all. (All-cons (CostsAtMost most) (comes flow key) [] tt (All-nil (CostsAtMost most)), subst (λ (n : ℕ). n ≤ most) (sym spent) small);
        given = refl;
        charged = omega (arith, left);
      }

  came_or_stayed : (old new : Waiting) → CameOrStayed old.queue new.queue → new.spent ≡ old.spent → Happens old [] new
  came_or_stayed old new happened spent =
      ⊎_elim (λ pushed. came pushed.0 pushed.1 old new pushed.2 pushed.3 spent) (λ same. nothing old new same spent) happened

  joined : (old mid new : Waiting) (xs ys : List OneServe) → Happens old xs mid → Happens mid ys new → Happens old (xs ++ ys) new
  joined old mid new xs ys one two =
      let events = charged_joined other one.events two.events old.queue mid.queue one.lead in
      let costs = cost_joined other xs ys in
      let many = serves_joined waiting xs ys in
      let gave = given_joined waiting one.events two.events in
      record {
        events = one.events ++ two.events;
        lead = lead_joined one.events two.events old.queue mid.queue new.queue one.lead two.lead;
        few = λ small all.
            let left = one.few small (all_left (CostsNoMore most) xs ys all) in
            let right = two.few left.1 (all_right (CostsNoMore most) xs ys all) in
            (All-append (CostsAtMost most) one.events two.events left.0 right.0, right.1);
        given = omega (arith, gave, many, one.given, two.given);
        charged = omega (arith, events, costs, one.charged, two.charged);
      }

  served : (until : Bool) (before after : Queued) (serve : OneServe) (next : ServesNext until before after) → next.turn.flow ≡ serve.flow → after.waiting.spent ≡ serve.cost →
      Happens before.waiting (serve ∷ []) after.waiting
  served until before after serve next flow cost =
      let turn = next.turn in
      let mid : Waiting = record next.taken { spent = after.waiting.spent } in
      let at : next.taken.queue.turn ≡ serve.flow = ap (λ (queue : QueueState). queue.turn) turn.given.taken ∙ flow in
      let left : uncharged mid ≡ cond (nat_eq serve.flow other) serve.cost 0 = λ i. cond (nat_eq (at i) other) (cost i) 0 in
      let many : counted turn.flow ≡ counted serve.flow = ap counted flow in
      let gave : Happens before.waiting (serve ∷ []) mid = record {
        events = gives turn.flow next.key before.waiting.spent ∷ [];
        lead = (next.taken.queue, (turn.between, turn.charged, turn.given), refl);
        few = λ small all. (
          All-cons (CostsAtMost most) (gives turn.flow next.key before.waiting.spent) [] small (All-nil (CostsAtMost most)),
          subst (λ (n : ℕ). n ≤ most) (sym cost) (All-head (CostsNoMore most) serve [] all),
        );
        given = omega (arith, many);
        charged = omega (arith, left);
      } in
      joined before.waiting mid after.waiting (serve ∷ []) [] gave
      (came_or_stayed mid after.waiting
      (waited_on next.waits.state _ next.key next.taken after.waiting (some_flows turn.between next.taken.queue turn.flow next.key turn.given) next.waits.waits) refl)

  serves_happen : (until : Bool) (before after : Queued) (serves : List OneServe) → ServesLead until before serves after → Happens before.waiting serves after.waiting
  serves_happen until before after [] lead =
      nothing before.waiting after.waiting (ap (λ (queued : Queued). queued.waiting.queue) lead) (ap (λ (queued : Queued). queued.waiting.spent) lead)
  serves_happen until before after (serve ∷ serves) lead =
      joined before.waiting lead.0.waiting after.waiting (serve ∷ []) serves (served until before lead.0 serve lead.1 lead.2 lead.3) (serves_happen until lead.0 after serves lead.4)

  event_happens : (connections : Connections) (event : Event) (old new : Waiting) → 0 < length old.queue.flows → NotesEvent connections event old new → Happens old [] new
  event_happens connections event old new some notes = ⊎_elim
      (λ waits. came_or_stayed old new (came_to_wait (tenant_at connections (event_token event).0) (event_token event).0 old new some waits.1.0) waits.2)
      (λ same. nothing old new (ap (λ (it : Waiting). it.queue) same.1) (ap (λ (it : Waiting). it.spent) same.1))
      notes

  events_happen : (connections : Connections) (first last : Waiting) (events : List Event) → 0 < length first.queue.flows → HaveCome connections first events last → Happens first [] last
  events_happen connections first _ _ some none_came = nothing first first refl refl
  events_happen connections first _ _ some (one_came earlier event between last come notes) =
      let one = events_happen connections first between earlier some come in
      let still = flows_stay one.events first.queue between.queue one.lead in
      joined first between last [] [] one (event_happens connections event between last (omega (arith, some, still)) notes)

  -- a round at whose end somebody waits ends as it was last served
  ended : (until : Bool) (events : List Event) (begun last : Queued) (round : MakesRound until events begun last) → ¬ (IsIdle last.waiting.queue) → last.waiting ≡ round.last.waiting
  ended until events begun last round somebody = ⊎_elim
      (λ (done : EndsRound round.last.waiting last.waiting). ⊎_elim (λ over. over.1) (λ none. absurd (somebody none.1)) done)
      (λ many. many.1)
      round.over

  round_happens : (until : Bool) (events : List Event) (begun last : Queued) (serves : List OneServe) → 0 < length begun.waiting.queue.flows →
      IsRoundOf until events begun serves last → ¬ (IsIdle last.waiting.queue) → Happens begun.waiting serves last.waiting
  round_happens until events begun last serves some it somebody =
      let round = it.round in
      let fresh : Queued = record begun { waiting = record round.noted { spent_in_round = 0 } } in
      let come = events_happen begun.standing.connections begun.waiting round.noted events some round.come in
      let noted = joined begun.waiting round.noted fresh.waiting [] [] come (nothing round.noted fresh.waiting refl refl) in
      let all = joined begun.waiting fresh.waiting round.last.waiting [] serves noted (serves_happen until fresh round.last serves it.leads) in
      subst (λ (now : Waiting). Happens begun.waiting serves now) (sym (ended until events begun last round somebody)) all

  rounds_happen : (until : Bool) (first last : Queued) (serves : List OneServe) → 0 < length first.waiting.queue.flows → RoundsLead until first serves last →
      Happens first.waiting serves last.waiting
  rounds_happen until first _ _ some no_round = nothing first.waiting first.waiting refl refl
  rounds_happen until first _ _ some (one_round serves more events between begun last earlier same it somebody) =
      let one = rounds_happen until first between serves some earlier in
      let still : length between.waiting.queue.flows ≡ length first.waiting.queue.flows = flows_stay one.events first.waiting.queue between.waiting.queue one.lead in
      let begins : length begun.waiting.queue.flows ≡ length between.waiting.queue.flows = ap (λ (now : Waiting). length now.queue.flows) same in
      let two = round_happens until events begun last more (omega (arith, some, still, begins)) it somebody in
      joined first.waiting between.waiting last.waiting serves more one (subst (λ (now : Waiting). Happens now more last.waiting) same two)

in_total : (before cost charged after bound most : ℕ) → before + cost ≡ charged + after → charged ≤ bound → after ≤ most → cost ≤ bound + most
in_total before cost charged after bound most same few last = omega (arith, same, few, last)

pub others_take_one_turn_per_connection : WaitsForOneQuantumPerKey → OthersTakeOneTurnPerConnection
others_take_one_turn_per_connection law until first last serves waiting other ahead most fair here behind there unlike lead small all few =
    let went = rounds_happen waiting other most until first last serves (omega (arith, here)) lead in
    let costs = went.few small all in
    let bound = law first.waiting.queue last.waiting.queue went.events waiting other ahead most fair here behind there unlike went.lead (subst (λ (n : ℕ). n ≤ ahead) (sym went.given) few) costs.0 in
    in_total _ _ _ _ _ most went.charged bound (cond_few (nat_eq last.waiting.queue.turn other) last.waiting.spent most costs.1)
