-- Who is noted as waiting stays in the queue, and nobody else is there, whatever comes and whoever is served.
use Rattle.std.proofs.Common.{◌≡◌, ◌≢◌, ◌⊎◌, ◌∙◌, ◌<◌, ◌≤◌, ◌-◌, ◌∷◌, ◌++◌, [], ℕ, zero, suc, Bool, List, Option, Some, None, length, replicate, slice_get, slice_set, get_or, set, ap, arith, false, inl, inr, refl, subst, sym}
use Rattle.std.proofs.lemmas.Bool.Decides.{eqb_tells}
use Rattle.std.proofs.lemmas.Bool.{cases_lt}
use Rattle.std.proofs.lemmas.List.{get_or-set_other, get_or-set_same, length-set}
use Rattle.std.proofs.lemmas.Option.{none-some, same_Some, slice_get_within}
use Rattle.fair_queue.specs.Turns.{Charges, FlowState, IsFair, IsIdle, QueueState, ends, flow_at, goes_on, idle, renewed, with_flow}
use Rattle.lists.proofs.Public.{at_longer, at_pushed, at_replicated, last_at, set_elsewhere, set_here}
use Rattle.mio.specs.Event.{event_token}
use Rattle.mio.specs.declared.event.event.Event.{Event}
use Rattle.mc_conn.specs.declared.conn.State.{State}
use Rattle.mc_conn.specs.declared.conn.State.TheVariants.{Busy, Closed, Full, Idle}
use Rattle.mc_connections.specs.InQueue.{WaitsOn}
use Rattle.mc_connections.specs.Round.{HaveCome, MakesRound, NotesEvent, Queued, ServeInTurn, ServesNext, none_came, none_served, one_came, one_served, short_of}
use Rattle.mc_connections.specs.Serving.{tenant_at}
use Rattle.mc_connections.specs.Waiting.{AreQueued, EndsRound, LetsWait, flow_of, short_at, short_with}
use Rattle.mc_connections.specs.declared.connections.Connections.{Connections}
use Rattle.mc_connections.specs.declared.waiting.Waiting.{Waiting}
use Rattle.mc_connections.proofs.Sharing.{some_flows}
use Rattle.mc_connections.proofs.StaysFair.{StaysFair, after_event as stays_fair_after_event, after_serve as stays_fair_after_serve, some}

-- what is noted, and what stands in the queue
abbrev Noted : List (Option Bool) → ℕ → Type 0
Noted items key = (short : Bool) × (slice_get items key ≡ Some (Some short))

abbrev At : QueueState → ℕ → ℕ → ℕ → Type 0
At queue flow place key = slice_get (flow_at queue flow).ready place ≡ Some key

record Line (queue : QueueState) (items : List (Option Bool)) : Type 0 where
  queued : (key : ℕ) → Noted items key → (flow : ℕ) × (place : ℕ) × At queue flow place key
  waits : (flow place key : ℕ) → At queue flow place key → Noted items key
  once : (flow place other behind key : ℕ) → At queue flow place key → At queue other behind key → (flow ≡ other) × (place ≡ behind)

to_line : (waiting : Waiting) → AreQueued waiting → Line waiting.queue waiting.waits.items
to_line waiting are = record { queued = are.queued; waits = are.waits; once = are.once }

from_line : (waiting : Waiting) → Line waiting.queue waiting.waits.items → AreQueued waiting
from_line waiting line = record { queued = line.queued; waits = line.waits; once = line.once }

-- a flow that is put in its place is there, and each other one is as it was
put_there : (queue : QueueState) (flow : ℕ) (put : FlowState) → flow < length queue.flows → flow_at (with_flow queue flow put) flow ≡ put
put_there queue flow put within = get_or-set_same queue.flows flow put idle within

put_elsewhere : (queue : QueueState) (flow number : ℕ) (put : FlowState) → number ≢ flow → flow_at (with_flow queue flow put) number ≡ flow_at queue number
put_elsewhere queue flow number put isnt = get_or-set_other queue.flows flow number put idle isnt

-- what is noted of another key stays
noted_on : (items changed : List (Option Bool)) (key other : ℕ) (noted : Option Bool) → changed ≡ slice_set items key noted → other ≢ key → Noted items other → Noted changed other
noted_on items changed key other noted is isnt had =
    (had.0, ap (λ (list : List (Option Bool)). slice_get list other) is ∙ (set_elsewhere items key other noted isnt ∙ had.1))

noted_before : (items changed : List (Option Bool)) (key other : ℕ) (noted : Option Bool) → changed ≡ slice_set items key noted → other ≢ key → Noted changed other → Noted items other
noted_before items changed key other noted is isnt has =
    (has.0, sym (set_elsewhere items key other noted isnt) ∙ (ap (λ (list : List (Option Bool)). slice_get list other) (sym is) ∙ has.1))

-- the same keys stand in each flow
same_ready : (old new : QueueState) (items : List (Option Bool)) → ((number : ℕ) → (flow_at new number).ready ≡ (flow_at old number).ready) → Line old items → Line new items
same_ready old new items same line = record {
  queued = λ key noted. let found = line.queued key noted in
      (found.0, found.1, ap (λ (ready : List ℕ). slice_get ready found.1) (same found.0) ∙ found.2);
  waits = λ flow place key at. line.waits flow place key (back flow place key at);
  once = λ flow place other behind key one two. line.once flow place other behind key (back flow place key one) (back other behind key two);
}
  where
    back : (flow place key : ℕ) → At new flow place key → At old flow place key
    back flow place key at = ap (λ (ready : List ℕ). slice_get ready place) (sym (same flow)) ∙ at

-- a charge moves no key
ready_kept : (flows : List FlowState) (place : ℕ) (put : FlowState) → put.ready ≡ (get_or flows place idle).ready → (number : ℕ) →
    (get_or (set flows place put) number idle).ready ≡ (get_or flows number idle).ready
ready_kept [] place put is number = refl
ready_kept (flow ∷ flows) zero put is zero = is
ready_kept (flow ∷ flows) zero put is (suc number) = refl
ready_kept (flow ∷ flows) (suc place) put is zero = refl
ready_kept (flow ∷ flows) (suc place) put is (suc number) = ready_kept flows place put is number

charged_ready : (spent : ℕ) (old new : QueueState) → Charges spent old new → (number : ℕ) → (flow_at new number).ready ≡ (flow_at old number).ready
charged_ready spent old new (goes_on flow is on then) number =
    subst (λ (state : QueueState). (flow_at state number).ready ≡ (flow_at old number).ready) (sym then)
    (ready_kept old.flows old.turn (record flow { credit = flow.credit - spent }) (ap (λ (it : FlowState). it.ready) is) number)
charged_ready spent old new (ends flow is over next follows then) number =
    subst (λ (state : QueueState). (flow_at state number).ready ≡ (flow_at old number).ready) (sym then)
    (ready_kept old.flows old.turn (record flow { credit = renewed old.quantum flow.credit spent }) (ap (λ (it : FlowState). it.ready) is) number)

-- a key that isn't noted comes into a flow, and is noted
module _ (old : QueueState) (items changed : List (Option Bool)) (flow key : ℕ) (short : Bool) (within : flow < length old.flows) where
  abbrev put : FlowState
  put = record (flow_at old flow) { ready = (flow_at old flow).ready ++ (key ∷ []) }

  came_from : (number place other : ℕ) → At (with_flow old flow put) number place other →
      At old number place other ⊎ ((number ≡ flow) × (place ≡ length (flow_at old flow).ready) × (key ≡ other))
  came_from number place other at = elim (eqb_tells number flow) [
    | inl is ↦
        let there : slice_get put.ready place ≡ Some other =
        subst (λ (it : FlowState). slice_get it.ready place ≡ Some other) (put_there old flow put within)
        (subst (λ (n : ℕ). At (with_flow old flow put) n place other) is.1 at) in
        elim (at_pushed (flow_at old flow).ready key other place there) [
          | inl before ↦ inl (subst (λ (n : ℕ). At old n place other) (sym is.1) before)
          | inr new ↦ inr (is.1, new.0, new.1)
        ]
    | inr isnt ↦ inl (subst (λ (it : FlowState). slice_get it.ready place ≡ Some other) (put_elsewhere old flow number put isnt.1) at)
  ]

  still_there : (number place other : ℕ) → At old number place other → At (with_flow old flow put) number place other
  still_there number place other at = elim (eqb_tells number flow) [
    | inl is ↦ subst (λ (n : ℕ). At (with_flow old flow put) n place other) (sym is.1)
        (subst (λ (it : FlowState). slice_get it.ready place ≡ Some other) (sym (put_there old flow put within))
        (at_longer (flow_at old flow).ready (key ∷ []) place other (subst (λ (n : ℕ). At old n place other) is.1 at)))
    | inr isnt ↦ subst (λ (it : FlowState). slice_get it.ready place ≡ Some other) (sym (put_elsewhere old flow number put isnt.1)) at
  ]

  last_there : At (with_flow old flow put) flow (length (flow_at old flow).ready) key
  last_there = subst (λ (it : FlowState). slice_get it.ready (length (flow_at old flow).ready) ≡ Some key) (sym (put_there old flow put within))
      (last_at (flow_at old flow).ready key)

  pushed : ¬ (Noted items key) → changed ≡ slice_set items key (Some short) → Noted changed key → Line old items → Line (with_flow old flow put) changed
  pushed out is here line = record {
    queued = λ other noted. elim (eqb_tells other key) [
      | inl same ↦ (flow, length (flow_at old flow).ready, subst (λ (n : ℕ). At (with_flow old flow put) flow (length (flow_at old flow).ready) n) (sym same.1) last_there)
      | inr isnt ↦
          let found = line.queued other (noted_before items changed key other (Some short) is isnt.1 noted) in
          (found.0, found.1, still_there found.0 found.1 other found.2)
    ];
    waits = λ number place other at. elim (came_from number place other at) [
      | inl before ↦ noted_on items changed key other (Some short) is (was_another number place other before) (line.waits number place other before)
      | inr new ↦ subst (λ (n : ℕ). Noted changed n) new.2 here
    ];
    once = λ number place second behind other one two. elim (came_from number place other one) [
      | inl first ↦ elim (came_from second behind other two) [
        | inl again ↦ line.once number place second behind other first again
        | inr new ↦ absurd (was_another number place other first (sym new.2))
      ]
      | inr new ↦ elim (came_from second behind other two) [
        | inl again ↦ absurd (was_another second behind other again (sym new.2))
        | inr also ↦ (new.0 ∙ sym also.0, new.1 ∙ sym also.1)
      ]
    ];
  }
    where
      was_another : (number place other : ℕ) → At old number place other → other ≢ key
      was_another number place other before same = out (subst (λ (n : ℕ). Noted items n) same (line.waits number place other before))

-- one that waits already stays where it is, and what is noted under no key is nothing
stayed : (queue : QueueState) (items changed : List (Option Bool)) (key : ℕ) (short : Bool) → Noted items key ⊎ (length items ≤ key) →
    changed ≡ slice_set items key (Some short) → Line queue items → Line queue changed
stayed queue items changed key short either is line = record {
  queued = λ other noted. line.queued other (before other noted);
  waits = λ flow place other at. after other (line.waits flow place other at);
  once = line.once;
}
  where
    long : length changed ≡ length items
    long = ap (λ (list : List (Option Bool)). length list) is ∙ length-set items key (Some short)

    before : (other : ℕ) → Noted changed other → Noted items other
    before other noted = elim (eqb_tells other key) [
      | inl same ↦ elim either [
        | inl waited ↦ subst (λ (n : ℕ). Noted items n) (sym same.1) waited
        | inr past ↦
            let inside = slice_get_within changed other (Some noted.0) noted.1 in
            absurd (omega (arith, inside, long, past, same.1))
      ]
      | inr isnt ↦ noted_before items changed key other (Some short) is isnt.1 noted
    ]

    after : (other : ℕ) → Noted items other → Noted changed other
    after other noted = elim (eqb_tells other key) [
      | inl same ↦
          let inside : key < length items = subst (λ (n : ℕ). n < length items) same.1 (slice_get_within items other (Some noted.0) noted.1) in
          subst (λ (n : ℕ). Noted changed n) (sym same.1)
          (short, ap (λ (list : List (Option Bool)). slice_get list key) is ∙ set_here items key (Some short) inside)
      | inr isnt ↦ noted_on items changed key other (Some short) is isnt.1 noted
    ]

-- the first key of a flow is taken out, and isn't noted any more
module _ (old : QueueState) (items changed : List (Option Bool)) (flow key : ℕ) (rest : List ℕ) (within : flow < length old.flows) (front : (flow_at old flow).ready ≡ key ∷ rest) where
  abbrev left : FlowState
  left = record (flow_at old flow) { ready = rest }

  first_there : At old flow 0 key
  first_there = ap (λ (ready : List ℕ). slice_get ready 0) front

  given_from : (number place other : ℕ) → At (with_flow old flow left) number place other →
      ((number ≡ flow) × At old flow (suc place) other) ⊎ ((number ≢ flow) × At old number place other)
  given_from number place other at = elim (eqb_tells number flow) [
    | inl is ↦
        let there : slice_get rest place ≡ Some other =
        subst (λ (it : FlowState). slice_get it.ready place ≡ Some other) (put_there old flow left within)
        (subst (λ (n : ℕ). At (with_flow old flow left) n place other) is.1 at) in
        inl (is.1, ap (λ (ready : List ℕ). slice_get ready (suc place)) front ∙ there)
    | inr isnt ↦ inr (isnt.1, subst (λ (it : FlowState). slice_get it.ready place ≡ Some other) (put_elsewhere old flow number left isnt.1) at)
  ]

  in_rest : (place other : ℕ) → slice_get (key ∷ rest) place ≡ Some other → other ≢ key → (behind : ℕ) × (slice_get rest behind ≡ Some other)
  in_rest zero other at isnt = absurd (isnt (sym (same_Some key other at)))
  in_rest (suc place) other at isnt = (place, at)

  still_behind : (number place other : ℕ) → At old number place other → other ≢ key → (behind : ℕ) × At (with_flow old flow left) number behind other
  still_behind number place other at isnt = elim (eqb_tells number flow) [
    | inl is ↦
        let there : slice_get (key ∷ rest) place ≡ Some other =
        ap (λ (ready : List ℕ). slice_get ready place) (sym front) ∙ subst (λ (n : ℕ). At old n place other) is.1 at in
        let found = in_rest place other there isnt in (
          found.0,
          subst (λ (n : ℕ). At (with_flow old flow left) n found.0 other) (sym is.1)
              (subst (λ (it : FlowState). slice_get it.ready found.0 ≡ Some other) (sym (put_there old flow left within)) found.1),
        )
    | inr apart ↦ (place, subst (λ (it : FlowState). slice_get it.ready place ≡ Some other) (sym (put_elsewhere old flow number left apart.1)) at)
  ]

  taken_out : changed ≡ slice_set items key None → ¬ (Noted changed key) → Line old items → Line (with_flow old flow left) changed
  taken_out is out line = record {
    queued = λ other noted.
        let isnt : other ≢ key = λ same. out (subst (λ (n : ℕ). Noted changed n) same noted) in
        let found = line.queued other (noted_before items changed key other None is isnt noted) in
        let now = still_behind found.0 found.1 other found.2 isnt in
        (found.0, now.0, now.1);
    waits = λ number place other at. elim (given_from number place other at) [
      | inl same ↦ noted_on items changed key other None is (λ equal.
          let twice = line.once flow (suc place) flow 0 key (subst (λ (n : ℕ). At old flow (suc place) n) equal same.1) first_there in
          omega (arith, twice.1)) (line.waits flow (suc place) other same.1)
      | inr apart ↦ noted_on items changed key other None is (λ equal.
          apart.0 (line.once number place flow 0 key (subst (λ (n : ℕ). At old number place n) equal apart.1) first_there).0)
          (line.waits number place other apart.1)
    ];
    once = λ number place second behind other one two. elim (given_from number place other one) [
      | inl same ↦ elim (given_from second behind other two) [
        | inl also ↦
            let twice = line.once flow (suc place) flow (suc behind) other same.1 also.1 in
            (same.0 ∙ sym also.0, omega (arith, twice.1))
        | inr apart ↦ absurd (apart.0 (sym (line.once flow (suc place) second behind other same.1 apart.1).0))
      ]
      | inr apart ↦ elim (given_from second behind other two) [
        | inl also ↦ absurd (apart.0 (line.once number place flow (suc behind) other apart.1 also.1).0)
        | inr also ↦ line.once number place second behind other apart.1 also.1
      ]
    ];
  }

lets_wait : (tenant : Option ℕ) (key : ℕ) (short : Bool) (old new : Waiting) → 0 < length old.queue.flows → LetsWait tenant key short old new →
    Line old.queue old.waits.items → Line new.queue new.waits.items
lets_wait tenant key short old new some lets line = elim lets.0 [
  | inl comes ↦
      let flow : ℕ = flow_of (length old.queue.flows) tenant in
      let within : flow < length old.queue.flows = omega (arith, some) in
      subst (λ (queue : QueueState). Line queue new.waits.items) (sym comes.2)
      (pushed old.queue old.waits.items new.waits.items flow key (short_with (short_at old key) short) within comes.0 lets.1 comes.1 line)
  | inr stays ↦
      subst (λ (queue : QueueState). Line queue new.waits.items) (sym stays.0)
      (stayed old.queue old.waits.items new.waits.items key (short_with (short_at old key) short) stays.1 lets.1 line)
]

-- nothing has changed of the queue, and of what is noted
as_before : (old new : Waiting) → new.queue ≡ old.queue → new.waits.items ≡ old.waits.items → Line old.queue old.waits.items → Line new.queue new.waits.items
as_before old new queue waits line =
    subst (λ (it : QueueState). Line it new.waits.items) (sym queue) (subst (λ (items : List (Option Bool)). Line old.queue items) (sym waits) line)

waited_on : (state : State) (tenant : Option ℕ) (key : ℕ) (old new : Waiting) → 0 < length old.queue.flows → WaitsOn state tenant key old new →
    Line old.queue old.waits.items → Line new.queue new.waits.items
waited_on Busy tenant key old new some waits line = lets_wait tenant key false old new some waits line
waited_on Full tenant key old new some waits line = lets_wait tenant key false old new some waits line
waited_on Idle tenant key old new some waits line = as_before old new waits.0 waits.1 line
waited_on Closed tenant key old new some waits line = as_before old new waits.0 waits.1 line

serve_on : (until : Bool) (before after : Queued) → ServesNext until before after → Line before.waiting.queue before.waiting.waits.items →
    Line after.waiting.queue after.waiting.waits.items
serve_on until before after next line =
    let turn = next.turn in
    let old : QueueState = before.waiting.queue in
    let charged : Line turn.between before.waiting.waits.items =
    same_ready old turn.between before.waiting.waits.items (charged_ready before.waiting.spent old turn.between turn.charged) line in
    let out = taken_out turn.between before.waiting.waits.items next.taken.waits.items turn.flow next.key turn.given.rest turn.given.next.comes.0 turn.given.front next.noted turn.taken charged in
    let taken : Line next.taken.queue next.taken.waits.items =
    subst (λ (queue : QueueState). Line queue next.taken.waits.items) (sym turn.given.taken)
    (same_ready (with_flow turn.between turn.flow (record (flow_at turn.between turn.flow) { ready = turn.given.rest })) _ next.taken.waits.items (λ number. refl) out) in
    waited_on next.waits.state (tenant_at after.standing.connections next.key) next.key next.taken after.waiting
    (some_flows turn.between next.taken.queue turn.flow next.key turn.given) next.waits.waits taken

pub after_serve : StaysFair → (until : Bool) (before after : Queued) → ServesNext until before after → IsFair before.waiting.queue → AreQueued before.waiting → AreQueued after.waiting
after_serve stays until before after next fair are = from_line after.waiting (serve_on until before after next (to_line before.waiting are))

-- what holds in a round
record Holds (waiting : Waiting) : Type 0 where
  fair : IsFair waiting.queue
  line : Line waiting.queue waiting.waits.items

after_event : StaysFair → (connections : Connections) (event : Event) (old new : Waiting) → NotesEvent connections event old new → Holds old → Holds new
after_event stays connections event old new notes holds = record {
  fair = stays_fair_after_event stays connections event old new notes holds.fair;
  line = elim notes [
    | inl comes ↦ lets_wait (tenant_at connections (event_token event).0) (event_token event).0 (short_of event) old new (some old.queue holds.fair) comes.1 holds.line
    | inr same ↦ subst (λ (it : Waiting). Line it.queue it.waits.items) (sym same.1) holds.line
  ];
}

after_events : StaysFair → (connections : Connections) (first last : Waiting) (events : List Event) → HaveCome connections first events last → Holds first → Holds last
after_events stays connections first _ _ none_came holds = holds
after_events stays connections first _ _ (one_came earlier event between last come notes) holds =
    after_event stays connections event between last notes (after_events stays connections first between earlier come holds)

after_serves : StaysFair → (until : Bool) (first last : Queued) (count : ℕ) → ServeInTurn until first count last → Holds first.waiting → Holds last.waiting
after_serves stays until first _ _ none_served holds = holds
after_serves stays until first _ _ (one_served fewer between last served next) holds =
    let earlier = after_serves stays until first between fewer served holds in
    record { fair = stays_fair_after_serve stays until between last next earlier.fair; line = serve_on until between last next earlier.line }

after_end : (old new : Waiting) → EndsRound old new → Line old.queue old.waits.items → Line new.queue new.waits.items
after_end old new closes line = elim closes [
  | inl over ↦ subst (λ (it : Waiting). Line it.queue it.waits.items) (sym over.1) line
  | inr idle ↦ subst (λ (items : List (Option Bool)). Line new.queue items) (sym idle.3)
      (same_ready old.queue new.queue old.waits.items (charged_ready old.spent old.queue new.queue idle.0) line)
]

pub after_round : StaysFair → (until : Bool) (events : List Event) (before after : Queued) → MakesRound until events before after → IsFair before.waiting.queue →
    AreQueued before.waiting → AreQueued after.waiting
after_round stays until events before after round fair are =
    let noted = after_events stays before.standing.connections before.waiting round.noted events round.come (record { fair = fair; line = to_line before.waiting are }) in
    let last = after_serves stays until _ round.last round.count round.served (record { fair = noted.fair; line = noted.line }) in
    from_line after.waiting (elim round.over [
      | inl closes ↦ after_end round.last.waiting after.waiting closes last.line
      | inr most ↦ subst (λ (it : Waiting). Line it.queue it.waits.items) (sym most.1) last.line
    ])

-- a queue in which nothing waits, and of which nothing is noted
past_end : (flows : List FlowState) (flow : ℕ) → length flows ≤ flow → (get_or flows flow idle).ready ≡ []
past_end [] flow out = refl
past_end (first ∷ flows) zero out = absurd (omega (arith, out))
past_end (first ∷ flows) (suc flow) out = past_end flows flow (omega (arith, out))

nobody : (queue : QueueState) → IsIdle queue → (flow : ℕ) → (flow_at queue flow).ready ≡ []
nobody queue none flow = elim (cases_lt flow (length queue.flows)) [ inl inside ↦ none flow inside | inr out ↦ past_end queue.flows flow out ]

pub when_new : (waiting : Waiting) (places : ℕ) → IsIdle waiting.queue → waiting.waits.items ≡ replicate places None → AreQueued waiting
when_new waiting places none is = record {
  queued = λ key noted.
      absurd (none-some noted.0 (at_replicated places key None (Some noted.0) (ap (λ (items : List (Option Bool)). slice_get items key) (sym is) ∙ noted.1)));
  waits = λ flow ahead key at. absurd (no flow ahead key at);
  once = λ flow ahead other behind key one two. absurd (no flow ahead key one);
}
  where
    no : (flow ahead key : ℕ) → At waiting.queue flow ahead key → ⊥
    no flow ahead key at = none-some key (ap (λ (ready : List ℕ). slice_get ready ahead) (sym (nobody waiting.queue none flow)) ∙ at)
