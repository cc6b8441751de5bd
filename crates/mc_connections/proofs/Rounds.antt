-- A round, one event and one connection at a time.
use Rattle.std.proofs.Common.{◌≡◌, ◌≢◌, ◌⊎◌, ◌∙◌, ◌+◌, ◌-◌, ◌^◌, ◌<◌, ◌≤◌, ◌||◌, ◌∷◌, ◌++◌, ℕ, Bool, List, [], Some, true, false, ap, append_assoc, arith, inl, inr, length, refl, subst, sym}
use Rattle.std.specs.List.{list_any}
use Rattle.std.proofs.Math.Bool.{or-false, or-true}
use Rattle.std.proofs.lemmas.Bool.{eq-eqb, ne_eqb}
use Rattle.std.proofs.lemmas.List.Folds.{list_any-append}
use Rattle.lists.proofs.Public.{all_taken}
use Rattle.mio.specs.Event.{event_token}
use Rattle.mio.specs.declared.event.event.Event.{Event}
use Rattle.mc_connections.specs.Round.{HaveCome, MakesRound, NotesEvent, Queued, ServeInTurn, ServesNext, is_wake, none_came, none_served, one_came, one_served, queued_at, short_of}
use Rattle.mc_connections.specs.Serving.{tenant_at}
use Rattle.mc_connections.specs.Waiting.{ComesToWait, EndsRound, IsNoted, short_at, short_with}
use Rattle.mc_connections.specs.declared.closing.TheConstants.{FIRST_TOKEN}
use Rattle.mc_connections.specs.declared.connections.Connections.{Connections}
use Rattle.mc_connections.specs.declared.connections.TheConstants.{MOST_OF_ALL}
use Rattle.mc_connections.specs.declared.ready_queue.ReadyQueue.{ReadyQueue}
use Rattle.mc_connections.specs.declared.waiting.Waiting.{Waiting}
use Rattle.uc_worker.specs.declared.worker.Worker.{Worker}

-- of the events some were noted, and these are left; whether the worker was woken by one so far
pub record Notes (connections : Connections) (events left : List Event) (first now : Waiting) (woken : Bool) : Type 0 where
  pub earlier : List Event
  pub come : HaveCome connections first earlier now
  pub all : earlier ++ left ≡ events
  pub any : woken ≡ list_any is_wake earlier

pub noted_none : (connections : Connections) (events left : List Event) (first : Waiting) → left ≡ events → Notes connections events left first first false
noted_none connections events left first all = record { earlier = []; come = none_came; all = all; any = refl }

-- the worker was woken, by the waker's event
pub wakes : (event : Event) (token : ℕ) (was : Bool) → token ≡ (event_token event).0 → token ≡ 2 ^ 64 - 1 → true ≡ (was || is_wake event)
wakes event token was is waker = sym (ap (λ one. was || one) (eq-eqb (event_token event).0 (2 ^ 64 - 1) (sym is ∙ waker)) ∙ or-true was)

-- and by no other
pub wakes_not : (event : Event) (token : ℕ) (was : Bool) → token ≡ (event_token event).0 → token ≢ 2 ^ 64 - 1 → was ≡ (was || is_wake event)
wakes_not event token was is other = sym (ap (λ one. was || one) (ne_eqb (event_token event).0 (2 ^ 64 - 1) (λ same. other (is ∙ same))) ∙ or-false was)

pub noted_more : (connections : Connections) (events left rest : List Event) (event : Event) (first between last : Waiting) (was woken : Bool) → left ≡ event ∷ rest →
    Notes connections events left first between was → NotesEvent connections event between last → woken ≡ (was || is_wake event) → Notes connections events rest first last woken
noted_more connections events left rest event first between last was woken next notes step wakes = record {
  earlier = notes.earlier ++ event ∷ [];
  come = one_came notes.earlier event between last notes.come step;
  all = append_assoc notes.earlier (event ∷ []) rest ∙ subst (λ (left : List Event). notes.earlier ++ left ≡ events) next notes.all;
  any =
      wakes
      ∙ (ap (λ any. any || is_wake event) notes.any
      ∙ (ap (λ one. list_any is_wake notes.earlier || one) (sym (or-false (is_wake event))) ∙ sym (list_any-append is_wake notes.earlier (event ∷ []))));
}

pub noted_all : (connections : Connections) (events left : List Event) (first last : Waiting) (woken : Bool) → length left ≡ 0 → Notes connections events left first last woken →
    HaveCome connections first events last × (woken ≡ list_any is_wake events)
noted_all connections events left first last woken none notes =
    let all = all_taken notes.earlier left events notes.all none in
    (subst (λ (events : List Event). HaveCome connections first events last) all notes.come, notes.any ∙ ap (list_any is_wake) all)

-- the event isn't a connection's, and nothing has changed
pub noted_other : (connections : Connections) (event : Event) (token : ℕ) (now : Waiting) → token ≡ (event_token event).0 → FIRST_TOKEN ≤ token → NotesEvent connections event now now
noted_other connections event token now is past = inr (λ of. let no : ⊥ = omega (arith, is, past, of) in no, refl)

-- the event is a connection's, which came to wait
pub noted_one : (connections same : Connections) (event : Event) (token : ℕ) (short : Bool) (old new : Waiting) → same ≡ connections → token ≡ (event_token event).0 → short ≡ short_of event →
    token < FIRST_TOKEN → ComesToWait (tenant_at same token) token old new → IsNoted token (Some (short_with (short_at old token) short)) old new → new.spent ≡ old.spent → new.spent_in_round ≡ old.spent_in_round → NotesEvent connections event old new
noted_one connections same event token short old new kept is says key waits noted spent round =
    let comes : ComesToWait (tenant_at connections token) token old new = subst (λ (connections : Connections). ComesToWait (tenant_at connections token) token old new) kept waits in
    let notes : IsNoted token (Some (short_with (short_at old token) (short_of event))) old new = subst (λ (short : Bool). IsNoted token (Some (short_with (short_at old token) short)) old new) says noted in
    inl (
      subst (λ token. token < FIRST_TOKEN) is key,
      (
        subst (λ token. ComesToWait (tenant_at connections token) token old new) is comes,
        subst (λ (token : ℕ). IsNoted token (Some (short_with (short_at old token) (short_of event))) old new) is notes,
      ),
      spent,
      round,
    )

-- The round goes on: the events were noted, and this many connections were served.
pub record GoesOn (until : Bool) (events : List Event) (before : Queued) (count : ℕ) (now : Queued) : Type 0 where
  pub noted : Waiting
  pub come : HaveCome before.standing.connections before.waiting events noted
  pub served : ServeInTurn until (record before { waiting = record noted { spent_in_round = 0 } }) count now

pub round_begins : (until : Bool) (events : List Event) (worker : Worker) (before after : ReadyQueue) (now : Waiting) → after.connections ≡ before.connections → after.tallies ≡ before.tallies →
    HaveCome before.connections before.waiting events after.waiting → now ≡ record after.waiting { spent_in_round = 0 } →
    GoesOn until events (queued_at worker before) 0 (queued_at worker (record after { waiting = now }))
round_begins until events worker before after now same tallies come begun = record {
  noted = after.waiting;
  come = come;
  served =
      let first : Queued = record (queued_at worker before) { waiting = record after.waiting { spent_in_round = 0 } } in
      let is : first ≡ queued_at worker (record after { waiting = now }) = cc in
      subst (ServeInTurn until first 0) is none_served;
}

pub round_goes_on : (until : Bool) (events : List Event) (before : Queued) (count : ℕ) (between last : Queued) → GoesOn until events before count between → ServesNext until between last →
    GoesOn until events before (count + 1) last
round_goes_on until events before count between last round step = record {
  noted = round.noted;
  come = round.come;
  served = one_served count between last round.served step;
}

pub round_ends : (until : Bool) (events : List Event) (before : Queued) (count : ℕ) (last : Queued) (now : Waiting) → GoesOn until events before count last → count ≤ MOST_OF_ALL →
    EndsRound last.waiting now ⊎ (count ≡ MOST_OF_ALL) × (now ≡ last.waiting) → MakesRound until events before (record last { waiting = now })
round_ends until events before count last now round most over = record {
  noted = round.noted;
  come = round.come;
  count = count;
  last = last;
  served = round.served;
  most = most;
  over = over;
  same = (refl, refl);
}
