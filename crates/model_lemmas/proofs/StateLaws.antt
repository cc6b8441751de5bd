-- What every step of the shown log keeps, without a word on helping: the decided places are a legal
-- list of announced tickets that is no longer than the log, each worker knows a beginning of it,
-- and its phase says how many of its commands stand there.
use Rattle.std.proofs.Common.{◌≡◌, ◌≢◌, ◌⊎◌, ℕ, ◌+◌, ◌-◌, ◌<◌, ◌≤◌, ◌==◌, ◌&&◌, Bool, true, false, if◌then◌else◌, true≢false, List, [], ◌∷◌, ◌++◌, length, length-append, length-set, take, take_all, ltb, ltb-true, sym, refl, ap, ◌∙◌, subst, inl, inr, ⊎_elim, arith, eq-eqb, eqb-true, le_refl, lt_of_lt_of_le, slice_get, slice_set, unwrap_or, Option, Some, None}
use Rattle.std.proofs.Math.Decide.{ℕ_discrete, dec_le}
use Rattle.std.proofs.Math.Logic.{dite}
use Rattle.std.proofs.lemmas.List.{length-replicate}
use Rattle.std.proofs.lemmas.Option.{none-some, slice_get_within}
use Rattle.std.specs.Option.{option_map_or}
use Rattle.mc_model.specs.declared.id.Ticket.{Ticket}
use Rattle.mc_model.specs.declared.shown.LogSize.{LogSize}
use Rattle.mc_model.specs.declared.shown.Phase.{Phase}
use Rattle.mc_model.specs.declared.shown.Phase.TheVariants.{Idle, Pending, Looked}
use Rattle.mc_model.specs.declared.shown.ShownState.{ShownState}
use Rattle.mc_model.specs.declared.shown.WorkerState.{WorkerState}
use Rattle.lists.specs.Lists.{BeginsWith}
use Rattle.mc_model.specs.Lawful.{HasRoom, IsWorker, Leads, ShownEvent, Step, announced_by, announces, decided_with, looks, next, proposes, reads, stops, turn, with_worker}
use Rattle.mc_model.specs.Legal.{IsLegal, count, ticket_of}
use Rattle.mc_model.specs.Shown.{announce, is_latest, learn, look, new_log, new_worker, proposal, propose, read, stop}
use Rattle.lists.proofs.Public.{at_pushed, at_replicated, at_set, begins_longer, begins_self, begins_through, front_is_taken, next_begins, nothing_next, set_elsewhere, set_here}
use Rattle.model_lemmas.proofs.Tickets.{count_other, count_own, legal_push, stands}

-- what is known of a worker: the law of workers but for its proposals
pub record IsSoundWorker (size : LogSize) (state : ShownState) (number : ℕ) (worker : WorkerState) : Type 0 where
  pub begins : BeginsWith state.decided worker.learned
  pub idle : worker.phase ≡ Idle → count number worker.learned ≡ worker.announced
  pub pending : worker.phase ≡ Pending → count number worker.learned + 1 ≡ worker.announced
  pub looked : worker.phase ≡ Looked → (count number worker.learned + 1 ≡ worker.announced) × HasRoom size worker × (worker.mark ≢ None)
  pub looks : (ticket : Ticket) → worker.phase ≡ Looked → worker.look ≡ Some ticket →
      (ticket.number < announced_by state ticket.worker) × (count ticket.worker worker.learned ≡ ticket.number)

-- what is known of a state
pub record IsSound (size : LogSize) (state : ShownState) : Type 0 where
  pub many : length state.workers ≡ size.workers
  pub few : length state.decided ≤ size.places
  pub legal : IsLegal state.decided
  pub announced : (place : ℕ) (ticket : Ticket) → slice_get state.decided place ≡ Some ticket → ticket.number < announced_by state ticket.worker
  pub each : (number : ℕ) (worker : WorkerState) → IsWorker state number worker → IsSoundWorker size state number worker

-- the state after an event of one worker, which may decide a place
abbrev pub after : ShownState → List Ticket → ℕ → WorkerState → ShownState
after state decided number worker = record { decided = decided; workers = slice_set state.workers number worker }

-- how many commands it has announced, once it is known what is shown of the worker
abbrev announced_in : Option WorkerState → ℕ
announced_in found = option_map_or (λ (worker : WorkerState). worker.announced) found 0

pub announced_is : (state : ShownState) (number : ℕ) (worker : WorkerState) → IsWorker state number worker → announced_by state number ≡ worker.announced
announced_is state number worker is = ap announced_in is

pub announced_after : (state : ShownState) (decided : List Ticket) (number : ℕ) (old new : WorkerState) → IsWorker state number old →
    announced_by (after state decided number new) number ≡ new.announced
announced_after state decided number old new is = ap announced_in (set_here state.workers number new (slice_get_within state.workers number old is))

-- no worker has announced fewer after an event of one that hasn't
pub rises : (state : ShownState) (decided : List Ticket) (number : ℕ) (old new : WorkerState) → IsWorker state number old → old.announced ≤ new.announced →
    (other : ℕ) → announced_by state other ≤ announced_by (after state decided number new) other
rises state decided number old new is more other = dite (ℕ_discrete other number)
    (λ same. let before : announced_by state other ≡ old.announced = ap (announced_by state) same ∙ announced_is state number old is in
    let now : announced_by (after state decided number new) other ≡ new.announced =
    ap (announced_by (after state decided number new)) same ∙ announced_after state decided number old new is in omega arith)
    (λ apart. let same : announced_by (after state decided number new) other ≡ announced_by state other =
    ap announced_in (set_elsewhere state.workers number other new apart) in omega arith)

module _ (size : LogSize) where
  -- what is known of a worker stays so where the log grows and no worker has announced fewer
  pub stays_sound : (old new : ShownState) (number : ℕ) (worker : WorkerState) → BeginsWith new.decided old.decided →
      ((other : ℕ) → announced_by old other ≤ announced_by new other) → IsSoundWorker size old number worker → IsSoundWorker size new number worker
  stays_sound old new number worker longer up sound = record {
    begins = begins_through new.decided old.decided worker.learned longer sound.begins;
    idle = sound.idle;
    pending = sound.pending;
    looked = sound.looked;
    looks = λ ticket at found. let was = sound.looks ticket at found in (lt_of_lt_of_le was.0 (up ticket.worker), was.1);
  }

  -- one worker's event keeps all that is known of a state, where it is known of the new log and of
  -- that worker
  pub after_sound : (state : ShownState) (decided : List Ticket) (number : ℕ) (old new : WorkerState) → IsSound size state → IsWorker state number old →
      old.announced ≤ new.announced → BeginsWith decided state.decided → length decided ≤ size.places → IsLegal decided →
      ((place : ℕ) (ticket : Ticket) → slice_get decided place ≡ Some ticket → ticket.number < announced_by (after state decided number new) ticket.worker) →
      IsSoundWorker size (after state decided number new) number new → IsSound size (after state decided number new)
  after_sound state decided number old new sound is more longer few legal announced own = record {
    many = length-set state.workers number new ∙ sound.many;
    few = few;
    legal = legal;
    announced = announced;
    each = λ other worker there. ⊎_elim
        (λ (here : (other ≡ number) × (new ≡ worker)).
        subst (λ (z : ℕ × WorkerState). IsSoundWorker size (after state decided number new) z.0 z.1) (λ i. (sym here.0 i, here.1 i)) own)
        (λ (apart : (other ≢ number) × IsWorker state other worker).
        stays_sound state (after state decided number new) other worker longer (rises state decided number old new is more) (sound.each other worker apart.1))
        (at_set state.workers number other new worker there);
  }

  -- an event that decides no place
  pub worker_sound : (state : ShownState) (number : ℕ) (old new : WorkerState) → IsSound size state → IsWorker state number old → old.announced ≤ new.announced →
      IsSoundWorker size (with_worker state number new) number new → IsSound size (with_worker state number new)
  worker_sound state number old new sound is more own =
      after_sound state state.decided number old new sound is more (begins_self state.decided) sound.few sound.legal
      (λ place ticket at. lt_of_lt_of_le (sound.announced place ticket at) (rises state state.decided number old new is more ticket.worker)) own

-- a worker is idle or pending, and all its commands but the pending one stand in what it has
-- learned
abbrev pub Rests : Phase → ℕ → ℕ → Type 0
Rests phase tickets announced = ((phase ≡ Idle) × (tickets ≡ announced)) ⊎ ((phase ≡ Pending) × (tickets + 1 ≡ announced))

rests_sound : (size : LogSize) (state : ShownState) (number : ℕ) (worker : WorkerState) → BeginsWith state.decided worker.learned →
    Rests worker.phase (count number worker.learned) worker.announced → IsSoundWorker size state number worker
rests_sound size state number worker begins rests = record {
  begins = begins;
  idle = λ at. ⊎_elim (λ (idle : (worker.phase ≡ Idle) × (count number worker.learned ≡ worker.announced)). idle.1)
      (λ (pending : (worker.phase ≡ Pending) × (count number worker.learned + 1 ≡ worker.announced)). absurd (let same = sym at ∙ pending.0 in cc)) rests;
  pending = λ at. ⊎_elim (λ (idle : (worker.phase ≡ Idle) × (count number worker.learned ≡ worker.announced)). absurd (let same = sym at ∙ idle.0 in cc))
      (λ (pending : (worker.phase ≡ Pending) × (count number worker.learned + 1 ≡ worker.announced)). pending.1) rests;
  looked = λ at. absurd (not_looked at rests);
  looks = λ ticket at found. absurd (not_looked at rests);
}
  where
    not_looked : worker.phase ≡ Looked → Rests worker.phase (count number worker.learned) worker.announced → ⊥
    not_looked at (inl idle) = let same = sym at ∙ idle.0 in cc
    not_looked at (inr pending) = let same = sym at ∙ pending.0 in cc

-- whether a ticket is the latest, as a test and as equations
latest_is : (number : ℕ) (worker : WorkerState) (ticket : Ticket) → is_latest number worker ticket ≡ true →
    (ticket.worker ≡ number) × (ticket.number + 1 ≡ worker.announced)
latest_is number worker ticket latest = both (ticket.worker == number) (ticket.number + 1 == worker.announced) refl refl latest
  where
    both : (own last : Bool) → (ticket.worker == number) ≡ own → (ticket.number + 1 == worker.announced) ≡ last → (own && last) ≡ true →
        (ticket.worker ≡ number) × (ticket.number + 1 ≡ worker.announced)
    both true true own last _ = (eqb-true ticket.worker number own, eqb-true (ticket.number + 1) worker.announced last)
    both true false own last is = absurd (true≢false (sym is))
    both false _ own last is = absurd (true≢false (sym is))

not_latest : (number : ℕ) (worker : WorkerState) (ticket : Ticket) → is_latest number worker ticket ≡ false → ticket.worker ≡ number →
    ticket.number + 1 ≢ worker.announced
not_latest number worker ticket other own last = true≢false (both ∙ other)
  where
    both : true ≡ is_latest number worker ticket
    both i = sym (eq-eqb ticket.worker number own) i && sym (eq-eqb (ticket.number + 1) worker.announced last) i

-- a worker that rests learns a ticket that is legal there, and rests again
rests_on : (number : ℕ) (worker : WorkerState) (phase : Phase) (ticket : Ticket) → count ticket.worker worker.learned ≡ ticket.number →
    (ticket.worker ≡ number → ticket.number < worker.announced) → Rests phase (count number worker.learned) worker.announced →
    Rests (if is_latest number worker ticket then Idle else phase) (count number (worker.learned ++ ticket ∷ [])) worker.announced
rests_on number worker phase ticket legal below rests = by_latest (is_latest number worker ticket) refl rests
  where
    own_number : ticket.worker ≡ number → count number worker.learned ≡ ticket.number
    own_number own = ap (λ (some : ℕ). count some worker.learned) (sym own) ∙ legal

    more : ℕ
    more = count number (worker.learned ++ ticket ∷ [])

    -- its own ticket that isn't its latest can't come next: there is no such one where it is idle,
    -- and that is the latest where it is pending
    idle_still : count number worker.learned ≡ worker.announced → more ≡ worker.announced
    idle_still all = dite (ℕ_discrete ticket.worker number)
        (λ own. let number_is = own_number own in let few = below own in absurd (omega arith))
        (λ other. let same = count_other number worker.learned ticket other in omega arith)

    pending_still : is_latest number worker ticket ≡ false → count number worker.learned + 1 ≡ worker.announced → more + 1 ≡ worker.announced
    pending_still is but_one = dite (ℕ_discrete ticket.worker number)
        (λ own. let number_is = own_number own in absurd (not_latest number worker ticket is own (omega arith)))
        (λ other. let same = count_other number worker.learned ticket other in omega arith)

    by_latest : (latest : Bool) → is_latest number worker ticket ≡ latest → Rests phase (count number worker.learned) worker.announced →
        Rests (if latest then Idle else phase) more worker.announced
    by_latest true is _ = let own = latest_is number worker ticket is in let last = own.1 in
        let number_is = own_number own.0 in let grown = count_own number worker.learned ticket own.0 in inl (refl, omega arith)
    by_latest false is (inl idle) = inl (idle.0, idle_still idle.1)
    by_latest false is (inr pending) = inr (pending.0, pending_still is pending.1)

module _ (size : LogSize) where
  -- a worker has learned no more than is decided, and that is a front of it
  pub learned_few : (state : ShownState) (number : ℕ) (worker : WorkerState) → IsSound size state → IsWorker state number worker →
      length worker.learned ≤ length state.decided
  learned_few state number worker sound is = begins_longer state.decided worker.learned (sound.each number worker is).begins

  pub learned_is : (state : ShownState) (number : ℕ) (worker : WorkerState) → IsSound size state → IsWorker state number worker →
      worker.learned ≡ take (length worker.learned) state.decided
  learned_is state number worker sound is = front_is_taken state.decided worker.learned (sound.each number worker is).begins

  -- the log has no more tickets of a worker than it has announced
  pub count_announced : (state : ShownState) (number : ℕ) → IsSound size state → count number state.decided ≤ announced_by state number
  count_announced state number sound = by_size (dec_le (count number state.decided) (announced_by state number))
    where
      by_size : Dec (count number state.decided ≤ announced_by state number) → count number state.decided ≤ announced_by state number
      by_size (yes few) = few
      by_size (no more) =
          let all = ap (count number) (take_all (length state.decided) state.decided (le_refl (length state.decided))) in
          let found = stands state.decided number (announced_by state number) (length state.decided) sound.legal (omega arith) in
          let below = sound.announced found.0 (ticket_of number (announced_by state number)) found.2 in absurd (omega arith)

  -- the worker of a decided ticket exists, and has announced it
  pub decided_worker : (state : ShownState) (place : ℕ) (ticket : Ticket) → IsSound size state → slice_get state.decided place ≡ Some ticket →
      (worker : WorkerState) × IsWorker state ticket.worker worker × (ticket.number < worker.announced)
  decided_worker state place ticket sound at = by_worker (slice_get state.workers ticket.worker) refl (sound.announced place ticket at)
    where
      by_worker : (found : Option WorkerState) → slice_get state.workers ticket.worker ≡ found → ticket.number < announced_by state ticket.worker →
          (worker : WorkerState) × IsWorker state ticket.worker worker × (ticket.number < worker.announced)
      by_worker None is below = let none : announced_by state ticket.worker ≡ 0 = ap announced_in is in absurd (omega arith)
      by_worker (Some worker) is below = let same = announced_is state ticket.worker worker is in (worker, is, omega arith)

  -- what stands at a worker's next place is legal there, and announced
  pub next_legal : (state : ShownState) (number : ℕ) (worker : WorkerState) (ticket : Ticket) → IsSound size state → IsWorker state number worker →
      next state worker ≡ Some ticket →
      (count ticket.worker worker.learned ≡ ticket.number) × (ticket.number < announced_by state ticket.worker)
      × BeginsWith state.decided (worker.learned ++ ticket ∷ [])
  next_legal state number worker ticket sound is at = (
    ap (count ticket.worker) (learned_is state number worker sound is) ∙ sound.legal (length worker.learned) ticket at,
    sound.announced (length worker.learned) ticket at,
    next_begins state.decided worker.learned ticket (sound.each number worker is).begins at,
  )

-- one worker of a state of which all this is known
module _ (size : LogSize) (state : ShownState) (number : ℕ) (worker : WorkerState) (sound : IsSound size state) (is : IsWorker state number worker) where
  own_law : IsSoundWorker size state number worker
  own_law = sound.each number worker is

  -- what it proposes once it has looked would be legal at its next place, and is announced
  pub proposal_legal : worker.phase ≡ Looked → let ticket : Ticket = proposal number worker in
      (count ticket.worker worker.learned ≡ ticket.number) × (ticket.number < announced_by state ticket.worker)
  proposal_legal at = by_look worker.look refl
    where
      by_look : (found : Option Ticket) → worker.look ≡ found → let ticket : Ticket = unwrap_or found (ticket_of number (worker.announced - 1)) in
          (count ticket.worker worker.learned ≡ ticket.number) × (ticket.number < announced_by state ticket.worker)
      by_look (Some ticket) found = let both = own_law.looks ticket at found in (both.1, both.0)
      by_look None found = let but_one = (own_law.looked at).0 in let same = announced_is state number worker is in (omega arith, omega arith)

  -- it learns a ticket that is legal at its next place
  learns_sound : (decided : List Ticket) (phase : Phase) (ticket : Ticket) (found : Option Ticket) (proposals : ℕ) →
      let new : WorkerState = record (learn number phase ticket worker) { look = found; proposals = proposals } in
      BeginsWith decided (worker.learned ++ ticket ∷ []) → count ticket.worker worker.learned ≡ ticket.number →
      ticket.number < announced_by state ticket.worker → Rests phase (count number worker.learned) worker.announced →
      IsSoundWorker size (after state decided number new) number new
  learns_sound decided phase ticket found proposals begins legal below rests =
      let new : WorkerState = record (learn number phase ticket worker) { look = found; proposals = proposals } in
      let same = announced_is state number worker is in
      rests_sound size (after state decided number new) number new begins
      (rests_on number worker phase ticket legal
      (λ own. let few = subst (λ (some : ℕ). ticket.number < announced_by state some) own below in omega arith) rests)

  -- an event after which it has announced no more, and no place more is decided
  same_sound : (new : WorkerState) → new.announced ≡ worker.announced → IsSoundWorker size (with_worker state number new) number new →
      IsSound size (with_worker state number new)
  same_sound new same own = worker_sound size state number worker new sound is (omega arith) own

  announces_sound : worker.phase ≡ Idle → IsSound size (with_worker state number (announce worker))
  announces_sound at =
      let one_more = ap (λ (some : ℕ). some + 1) (own_law.idle at) in
      worker_sound size state number worker (announce worker) sound is (omega arith)
      (rests_sound size (with_worker state number (announce worker)) number (announce worker) own_law.begins (inr (refl, one_more)))

  reads_sound : (worker.phase ≡ Idle) ⊎ (worker.phase ≡ Pending) → IsSound size (with_worker state number (read number (next state worker) worker))
  reads_sound at = by_next (next state worker) refl
    where
      rests : (worker.phase ≡ Idle) ⊎ (worker.phase ≡ Pending) → Rests worker.phase (count number worker.learned) worker.announced
      rests (inl idle) = inl (idle, own_law.idle idle)
      rests (inr pending) = inr (pending, own_law.pending pending)

      by_next : (found : Option Ticket) → next state worker ≡ found → IsSound size (with_worker state number (read number found worker))
      by_next None empty = let new = read number None worker in
          same_sound new refl (rests_sound size (with_worker state number new) number new own_law.begins (rests at))
      by_next (Some ticket) there = let legal = next_legal size state number worker ticket sound is there in
          same_sound (read number (Some ticket) worker) refl
          (learns_sound state.decided worker.phase ticket worker.look worker.proposals legal.2 legal.0 legal.1 (rests at))

  -- what a look finds is the first ticket that isn't learned, where its worker has announced that
  look_finds : (helped first announced : ℕ) (below : Bool) (ticket : Ticket) → ltb first announced ≡ below →
      (if below then Some (ticket_of helped first) else None) ≡ Some ticket → (ticket ≡ ticket_of helped first) × (first < announced)
  look_finds helped first announced true ticket below found = (cc, ltb-true first announced below)
  look_finds helped first announced false ticket below found = absurd (none-some ticket found)

  looks_sound : worker.phase ≡ Pending → HasRoom size worker → worker.mark ≢ None →
      IsSound size (with_worker state number (look (turn size worker) (announced_by state (turn size worker)) worker))
  looks_sound at room mark = same_sound new refl record {
    begins = own_law.begins;
    idle = λ same. absurd (cc);
    pending = λ same. absurd (cc);
    looked = λ _. (own_law.pending at, room, mark);
    looks = λ ticket same found.
        let first = look_finds helped (count helped worker.learned) announced (ltb (count helped worker.learned) announced) ticket refl found in
        subst (λ (some : Ticket). (some.number < announced_by (with_worker state number new) some.worker) × (count some.worker worker.learned ≡ some.number))
        (sym first.0) (lt_of_lt_of_le first.1 (rises state state.decided number worker new is (le_refl worker.announced) helped), refl);
  }
    where
      helped : ℕ
      helped = turn size worker

      announced : ℕ
      announced = announced_by state helped

      new : WorkerState
      new = look helped announced worker

  -- a proposal that decides the next place
  decides_sound : worker.phase ≡ Looked → next state worker ≡ None →
      IsSound size (after state (state.decided ++ proposal number worker ∷ []) number (propose number None worker))
  decides_sound at empty =
      let all : state.decided ≡ worker.learned = nothing_next state.decided worker.learned own_law.begins empty in
      let legal = proposal_legal at in let looked = own_law.looked at in let room = looked.1 in
      let long = length-append state.decided (ticket ∷ []) in let same = ap length all in
      after_sound size state decided number worker new sound is (le_refl worker.announced) (ticket ∷ [], refl) (omega arith)
      (legal_push state.decided ticket sound.legal (ap (count ticket.worker) all ∙ legal.0)) (all_announced legal.1)
      (learns_sound decided Pending ticket None (worker.proposals + 1)
      (subst (λ (front : List Ticket). BeginsWith decided (front ++ ticket ∷ [])) all (begins_self decided)) legal.0 legal.1 (inr (refl, looked.0)))
    where
      ticket : Ticket
      ticket = proposal number worker

      decided : List Ticket
      decided = state.decided ++ ticket ∷ []

      new : WorkerState
      new = propose number None worker

      all_announced : ticket.number < announced_by state ticket.worker → (place : ℕ) (some : Ticket) → slice_get decided place ≡ Some some →
          some.number < announced_by (after state decided number new) some.worker
      all_announced below place some there = let up = rises state decided number worker new is (le_refl worker.announced) in ⊎_elim
          (λ (before : slice_get state.decided place ≡ Some some). lt_of_lt_of_le (sound.announced place some before) (up some.worker))
          (λ (last : (place ≡ length state.decided) × (ticket ≡ some)).
          subst (λ (z : Ticket). z.number < announced_by (after state decided number new) z.worker) last.1 (lt_of_lt_of_le below (up ticket.worker)))
          (at_pushed state.decided ticket some place there)

  proposes_sound : worker.phase ≡ Looked →
      IsSound size (after state (decided_with (proposal number worker) state.decided (next state worker)) number (propose number (next state worker) worker))
  proposes_sound at = by_next (next state worker) refl
    where
      by_next : (found : Option Ticket) → next state worker ≡ found →
          IsSound size (after state (decided_with (proposal number worker) state.decided found) number (propose number found worker))
      by_next None empty = decides_sound at empty
      by_next (Some ticket) there = let legal = next_legal size state number worker ticket sound is there in
          same_sound (propose number (Some ticket) worker) refl
          (learns_sound state.decided Pending ticket None (worker.proposals + 1) legal.2 legal.0 legal.1 (inr (refl, (own_law.looked at).0)))

  stops_sound : IsSound size (with_worker state number (stop worker))
  stops_sound = same_sound (stop worker) refl record {
    begins = own_law.begins;
    idle = λ same. absurd (cc);
    pending = λ same. absurd (cc);
    looked = λ same. absurd (cc);
    looks = λ ticket same found. absurd (cc);
  }

module _ (size : LogSize) where
  -- every step keeps it
  pub keeps : (old new : ShownState) (event : ShownEvent) → IsSound size old → Step size old event new → IsSound size new
  keeps old new (announces number) sound step = subst (IsSound size) (sym step.4) (announces_sound size old number step.0 sound step.1 step.2)
  keeps old new (reads number) sound step = subst (IsSound size) (sym step.4) (reads_sound size old number step.0 sound step.1 step.2)
  keeps old new (looks number) sound step = subst (IsSound size) (sym step.5) (looks_sound size old number step.0 sound step.1 step.2 step.3 step.4)
  keeps old new (proposes number) sound step = subst (IsSound size) (sym step.3) (proposes_sound size old number step.0 sound step.1 step.2)
  keeps old new (stops number) sound step = subst (IsSound size) (sym step.3) (stops_sound size old number step.0 sound step.1)

  -- a log before any event
  pub opens : IsSound size (new_log size)
  opens = record {
    many = length-replicate size.workers new_worker;
    few = omega arith;
    legal = λ place ticket at. absurd (none-some ticket at);
    announced = λ place ticket at. absurd (none-some ticket at);
    each = λ number worker is. subst (IsSoundWorker size (new_log size) number) (at_replicated size.workers number new_worker worker is)
        (rests_sound size (new_log size) number new_worker ([], refl) (inl (refl, refl)));
  }

  -- every state that events lead to
  pub is_sound : (events : List ShownEvent) (state : ShownState) → Leads size events state → IsSound size state
  is_sound [] state is = subst (IsSound size) (sym is) opens
  is_sound (event ∷ events) state leads = keeps leads.0 state event (is_sound events leads.0 leads.1) leads.2
