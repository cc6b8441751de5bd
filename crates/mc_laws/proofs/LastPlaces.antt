-- No command that was announced finds the log full, where each announcement leaves places. Of n
-- workers, the tickets at the last n places are the latest of their workers: who announces another
-- knows all places where its own stand, and leaves those n. So they are of distinct workers, none
-- of whom has an undecided command; while somebody has one, they are fewer than n.
use Rattle.std.proofs.Common.{◌≡◌, ◌≢◌, ◌⊎◌, ℕ, zero, suc, ◌+◌, ◌-◌, ◌<◌, ◌≤◌, List, [], ◌∷◌, ◌++◌, All, AllPairs, length, length-drop, take, take_all, take-take, drop, map, replicate, get_or, get_or-drop, sym, refl, ap, ◌∙◌, subst, inl, inr, ⊎_elim, arith, le_refl, slice_get, Option, Some, None}
use Rattle.std.proofs.Math.Decide.{ℕ_discrete, dec_le}
use Rattle.std.proofs.Math.Logic.{dite}
use Rattle.std.proofs.lemmas.List.{get_or-map, length-map}
use Rattle.std.proofs.lemmas.List.Kept.{AllPairs-cons}
use Rattle.std.proofs.lemmas.Option.{none-some, slice_get-get_or, slice_get_within}
use Rattle.std.specs.Option.{option_map_or}
use Rattle.lists.proofs.Public.{at_pushed, at_replicated, nothing_next, set_elsewhere, take_more}
use Rattle.mc_model.specs.declared.id.Ticket.{Ticket}
use Rattle.mc_model.specs.declared.shown.LogSize.{LogSize}
use Rattle.mc_model.specs.declared.shown.Phase.TheVariants.{Idle, Looked}
use Rattle.mc_model.specs.declared.shown.ShownState.{ShownState}
use Rattle.mc_model.specs.declared.shown.WorkerState.{WorkerState}
use Rattle.mc_model.specs.Helping.{Waits}
use Rattle.mc_model.specs.Lawful.{HasRoom, IsWorker, Leads, ShownEvent, Step, announced_by, announces, decided_with, looks, next, proposes, reads, stops, turn, with_worker}
use Rattle.mc_model.specs.Legal.{IsLegal, count, ticket_of}
use Rattle.mc_model.specs.Shown.{announce, look, new_log, new_worker, proposal, propose, read, stop}
use Rattle.model_lemmas.proofs.StateLaws.{IsSound, after, announced_after, announced_is, decided_worker, is_sound, learned_few, learned_is, proposal_legal}
use Rattle.model_lemmas.proofs.Tickets.{count_begins, count_front, count_own}
use Rattle.mc_laws.proofs.Pigeons.{few_distinct}
use Rattle.mc_laws.specs.Places.{IsReachedLeavingPlaces, LeadLeavingPlaces, LeavesPlaces}

-- a longer front has no fewer of a worker's tickets, and one that ends with a worker's ticket has
-- as many as that ticket's number says
count_shorter : (worker first second : ℕ) (tickets : List Ticket) → first ≤ second → count worker (take first tickets) ≤ count worker (take second tickets)
count_shorter worker first second tickets fewer =
    let least = count_front worker first (take second tickets) in let same = ap (count worker) (take-take first second tickets fewer) in omega arith

count_through : (tickets : List Ticket) (place : ℕ) (ticket : Ticket) → IsLegal tickets → slice_get tickets place ≡ Some ticket →
    count ticket.worker (take (suc place) tickets) ≡ ticket.number + 1
count_through tickets place ticket legal at =
    ap (count ticket.worker) (take_more tickets place ticket at)
    ∙ (count_own ticket.worker (take place tickets) ticket refl ∙ ap (λ (some : ℕ). some + 1) (legal place ticket at))

-- how many commands a worker has announced, once it is known what is shown of it
abbrev announced_in : Option WorkerState → ℕ
announced_in found = option_map_or (λ (worker : WorkerState). worker.announced) found 0

-- after an event, the other workers have announced as many as before, and all of them have where
-- the event announces none
others_announced : (state : ShownState) (decided : List Ticket) (number : ℕ) (new : WorkerState) (other : ℕ) → other ≢ number →
    announced_by (after state decided number new) other ≡ announced_by state other
others_announced state decided number new other apart =
    ap announced_in (set_elsewhere state.workers number other new apart)

all_announced : (state : ShownState) (decided : List Ticket) (number : ℕ) (old new : WorkerState) → IsWorker state number old → new.announced ≡ old.announced →
    (other : ℕ) → announced_by (after state decided number new) other ≡ announced_by state other
all_announced state decided number old new is none other = dite (ℕ_discrete other number)
    (λ own. ap (announced_by (after state decided number new)) own
    ∙ (announced_after state decided number old new is ∙ (none ∙ (sym (announced_is state number old is) ∙ sym (ap (announced_by state) own)))))
    (λ apart. others_announced state decided number new other apart)

-- what is known of a state that is reached leaving places: the tickets at the last places are the
-- latest of their workers, no worker has two undecided commands, and where a command was announced
-- there are no fewer places than workers
record IsSpared (size : LogSize) (state : ShownState) : Type 0 where
  latest : (place : ℕ) (ticket : Ticket) → slice_get state.decided place ≡ Some ticket → size.places ≤ place + size.workers →
      ticket.number + 1 ≡ announced_by state ticket.worker
  one : (number : ℕ) → announced_by state number ≤ count number state.decided + 1
  room : (number : ℕ) → 0 < announced_by state number → size.workers ≤ size.places

module _ (size : LogSize) where
  -- a log before any event
  opens_spared : IsSpared size (new_log size)
  opens_spared = record {
    latest = λ place ticket at _. absurd (none-some ticket at);
    one = λ number. let none = announced_none number in omega arith;
    room = λ number some. let none = announced_none number in absurd (omega arith);
  }
    where
      by_found : (number : ℕ) (found : Option WorkerState) → slice_get (replicate size.workers new_worker) number ≡ found →
          announced_in found ≡ 0
      by_found number None is = refl
      by_found number (Some worker) is = ap (λ (some : WorkerState). some.announced) (sym (at_replicated size.workers number new_worker worker is))

      announced_none : (number : ℕ) → announced_by (new_log size) number ≡ 0
      announced_none number = by_found number (slice_get (replicate size.workers new_worker) number) refl

  -- an event that announces nothing, and decides no place or one for its worker's latest ticket
  stays_spared : (state : ShownState) (decided : List Ticket) (number : ℕ) (old new : WorkerState) → IsSpared size state → IsWorker state number old →
      new.announced ≡ old.announced → ((other : ℕ) → count other state.decided ≤ count other decided) →
      ((place : ℕ) (ticket : Ticket) → slice_get decided place ≡ Some ticket →
      (slice_get state.decided place ≡ Some ticket) ⊎ (ticket.number + 1 ≡ announced_by state ticket.worker)) →
      IsSpared size (after state decided number new)
  stays_spared state decided number old new spared is none more stood =
      let same = all_announced state decided number old new is none in record {
        latest = λ place ticket at late. ⊎_elim
            (λ (before : slice_get state.decided place ≡ Some ticket). spared.latest place ticket before late ∙ sym (same ticket.worker))
            (λ (last : ticket.number + 1 ≡ announced_by state ticket.worker). last ∙ sym (same ticket.worker))
            (stood place ticket at);
        one = λ other. let was = spared.one other in let grown = more other in let now = same other in omega arith;
        room = λ other some. let now = same other in spared.room other (omega arith);
      }

  -- an event that decides no place either
  quiet_spared : (state : ShownState) (number : ℕ) (old new : WorkerState) → IsSpared size state → IsWorker state number old → new.announced ≡ old.announced →
      IsSpared size (with_worker state number new)
  quiet_spared state number old new spared is none =
      stays_spared state state.decided number old new spared is none (λ other. le_refl (count other state.decided)) (λ place ticket at. inl at)

-- one worker of a state of which all this is known
module _ (size : LogSize) (state : ShownState) (number : ℕ) (worker : WorkerState) (sound : IsSound size state) (spared : IsSpared size state)
    (is : IsWorker state number worker) where
  -- an idle worker knows all its own tickets, so where it leaves places, none of them is at the last
  -- ones
  none_last : worker.phase ≡ Idle → length worker.learned + size.workers ≤ size.places → (place : ℕ) (ticket : Ticket) →
      slice_get state.decided place ≡ Some ticket → size.places ≤ place + size.workers → ticket.worker ≢ number
  none_last idle leaves place ticket at late own =
      let all = (sound.each number worker is).idle idle in
      let last = spared.latest place ticket at late in
      let mine : announced_by state ticket.worker ≡ worker.announced = ap (announced_by state) own ∙ announced_is state number worker is in
      let legal : count number (take place state.decided) ≡ ticket.number =
      ap (λ (some : ℕ). count some (take place state.decided)) (sym own) ∙ sound.legal place ticket at in
      let known = ap (count number) (learned_is size state number worker sound is) in
      let fewer = count_shorter number (length worker.learned) place state.decided (omega arith) in omega arith

  announces_spared : worker.phase ≡ Idle → length worker.learned + size.workers ≤ size.places → IsSpared size (with_worker state number (announce worker))
  announces_spared idle leaves = record {
    latest = λ place ticket at late.
        spared.latest place ticket at late
        ∙ sym (others_announced state state.decided number (announce worker) ticket.worker (none_last idle leaves place ticket at late));
    one = λ other. dite (ℕ_discrete other number)
        (λ own. let own_law = sound.each number worker is in let all = own_law.idle idle in
        let least = count_begins number state.decided worker.learned own_law.begins in
        let now : announced_by new other ≡ worker.announced + 1 = ap (announced_by new) own ∙ announced_after state state.decided number worker (announce worker) is in
        let same : count other state.decided ≡ count number state.decided = ap (λ (some : ℕ). count some state.decided) own in omega arith)
        (λ apart. let was = spared.one other in let now = others_announced state state.decided number (announce worker) other apart in omega arith);
    room = λ other _. omega arith;
  }
    where
      new : ShownState
      new = with_worker state number (announce worker)

  reads_spared : IsSpared size (with_worker state number (read number (next state worker) worker))
  reads_spared = quiet_spared size state number worker (read number (next state worker) worker) spared is (announces_none (next state worker))
    where
      announces_none : (found : Option Ticket) → (read number found worker).announced ≡ worker.announced
      announces_none None = refl
      announces_none (Some ticket) = refl

  -- what is proposed at an empty place is its worker's latest
  proposal_latest : worker.phase ≡ Looked → next state worker ≡ None → let ticket : Ticket = proposal number worker in
      ticket.number + 1 ≡ announced_by state ticket.worker
  proposal_latest at empty =
      let ticket : Ticket = proposal number worker in
      let legal = proposal_legal size state number worker sound is at in let next_of_it = legal.0 in let announced = legal.1 in
      let known = ap (count ticket.worker) (nothing_next state.decided worker.learned (sound.each number worker is).begins empty) in
      let most = spared.one ticket.worker in omega arith

  proposes_spared : worker.phase ≡ Looked →
      IsSpared size (after state (decided_with (proposal number worker) state.decided (next state worker)) number (propose number (next state worker) worker))
  proposes_spared at = by_next (next state worker) refl
    where
      ticket : Ticket
      ticket = proposal number worker

      by_next : (found : Option Ticket) → next state worker ≡ found →
          IsSpared size (after state (decided_with ticket state.decided found) number (propose number found worker))
      by_next (Some found) there = quiet_spared size state number worker (propose number (Some found) worker) spared is refl
      by_next None empty =
          stays_spared size state (state.decided ++ ticket ∷ []) number worker (propose number None worker) spared is refl
          (λ other. count_begins other (state.decided ++ ticket ∷ []) state.decided (ticket ∷ [], refl))
          (λ place found there. ⊎_elim inl
          (λ (last : (place ≡ length state.decided) × (ticket ≡ found)).
          inr (subst (λ (some : Ticket). some.number + 1 ≡ announced_by state some.worker) last.1 (proposal_latest at empty)))
          (at_pushed state.decided ticket found place there))

module _ (size : LogSize) where
  -- every step that leaves places keeps it
  spared_keeps : (old new : ShownState) (event : ShownEvent) → IsSound size old → IsSpared size old → Step size old event new → LeavesPlaces size old event →
      IsSpared size new
  spared_keeps old new (announces number) sound spared step leaves =
      subst (IsSpared size) (sym step.4) (announces_spared size old number step.0 sound spared step.1 step.2 (leaves step.0 step.1))
  spared_keeps old new (reads number) sound spared step leaves = subst (IsSpared size) (sym step.4) (reads_spared size old number step.0 sound spared step.1)
  spared_keeps old new (looks number) sound spared step leaves =
      let worker = step.0 in
      subst (IsSpared size) (sym step.5)
      (quiet_spared size old number worker (look (turn size worker) (announced_by old (turn size worker)) worker) spared step.1 refl)
  spared_keeps old new (proposes number) sound spared step leaves =
      subst (IsSpared size) (sym step.3) (proposes_spared size old number step.0 sound spared step.1 step.2)
  spared_keeps old new (stops number) sound spared step leaves =
      subst (IsSpared size) (sym step.3) (quiet_spared size old number step.0 (stop step.0) spared step.1 refl)

  -- such events are events, and keep it
  leads : (events : List ShownEvent) (state : ShownState) → LeadLeavingPlaces size events state → Leads size events state
  leads [] state is = is
  leads (event ∷ events) state run = (run.0, leads events run.0 run.1, run.2)

  is_spared : (events : List ShownEvent) (state : ShownState) → LeadLeavingPlaces size events state → IsSpared size state
  is_spared [] state is = subst (IsSpared size) (sym is) (opens_spared size)
  is_spared (event ∷ events) state run =
      spared_keeps run.0 state event (is_sound size events run.0 (leads events run.0 run.1)) (is_spared events run.0 run.1) run.2 run.3

-- the workers whose tickets are at the last places
abbrev last_workers : LogSize → List Ticket → List ℕ
last_workers size decided = map (λ (ticket : Ticket). ticket.worker) (drop (size.places - size.workers) decided)

-- a state of which all this is known, and a worker with an undecided command
module _ (size : LogSize) (state : ShownState) (sound : IsSound size state) (spared : IsSpared size state)
    (number : ℕ) (undecided : count number state.decided < announced_by state number) where
  -- where there are no fewer places than workers
  enough : size.workers ≤ size.places
  enough = spared.room number (omega arith)

  -- none of the last places is that worker's
  not_last : (place : ℕ) (ticket : Ticket) → slice_get state.decided place ≡ Some ticket → size.places ≤ place + size.workers → number ≢ ticket.worker
  not_last place ticket at late own =
      let last = spared.latest place ticket at late in let through = count_through state.decided place ticket sound.legal at in
      let front = count_front ticket.worker (suc place) state.decided in
      let same = ap (announced_by state) own in let as_many = ap (λ (some : ℕ). count some state.decided) own in omega arith

  -- and no two of them are one worker's
  not_twice : (first second : ℕ) (one other : Ticket) → first < second → slice_get state.decided first ≡ Some one →
      slice_get state.decided second ≡ Some other → size.places ≤ first + size.workers → one.worker ≢ other.worker
  not_twice first second one other above at at_other late own =
      let last = spared.latest first one at late in let last_other = spared.latest second other at_other (omega arith) in
      let same = ap (announced_by state) own in
      let through = count_through state.decided first one sound.legal at in
      let before : count one.worker (take second state.decided) ≡ other.number =
      ap (λ (some : ℕ). count some (take second state.decided)) own ∙ sound.legal second other at_other in
      let fewer = count_shorter one.worker (suc first) second state.decided above in omega arith

  -- each of the last workers has one of the last tickets
  at_last : (k d : ℕ) → k < length (last_workers size state.decided) →
      (ticket : Ticket) × (slice_get state.decided (size.places - size.workers + k) ≡ Some ticket)
      × (get_or (last_workers size state.decided) k d ≡ ticket.worker)
  at_last k d inside =
      let from : ℕ = size.places - size.workers in let ticket : Ticket = get_or state.decided (from + k) (ticket_of 0 0) in
      let long = length-map (drop from state.decided) (λ (some : Ticket). some.worker) in let left = length-drop from state.decided in (
        ticket,
        slice_get-get_or state.decided (from + k) (ticket_of 0 0) (omega arith),
        get_or-map (λ (some : Ticket). some.worker) (drop from state.decided) k (ticket_of 0 0) d (omega arith)
            ∙ ap (λ (some : Ticket). some.worker) (get_or-drop from state.decided k (ticket_of 0 0)),
      )

  -- so that worker and the last ones are distinct numbers below the number of workers
  apart : AllPairs (λ x y. x ≢ y) (number ∷ last_workers size state.decided)
  apart = AllPairs-cons (λ x y. x ≢ y) number (last_workers size state.decided)
      (λ k d inside own. let there = at_last k d inside in let fits = enough in
      not_last (size.places - size.workers + k) there.0 there.1 (omega arith) (own ∙ there.2))
      (λ first second d above inside own. let fits = enough in
      let one = at_last first d (omega arith) in let other = at_last second d inside in
      not_twice (size.places - size.workers + first) (size.places - size.workers + second) one.0 other.0 (omega arith) one.1 other.1 (omega arith)
      (sym one.2 ∙ (own ∙ other.2)))

  -- who has announced a command is a worker
  is_worker : (found : Option WorkerState) → slice_get state.workers number ≡ found → number < size.workers
  is_worker None is = let none : announced_by state number ≡ 0 = ap announced_in is in absurd (omega arith)
  is_worker (Some worker) is = let inside = slice_get_within state.workers number worker is in let many = sound.many in omega arith

  workers : All (λ x. x < size.workers) (number ∷ last_workers size state.decided)
  workers zero d inside = is_worker (slice_get state.workers number) refl
  workers (suc k) d inside =
      let there = at_last k d (omega arith) in let some = decided_worker size state (size.places - size.workers + k) there.0 sound there.1 in
      let within = slice_get_within state.workers there.0.worker some.0 some.1 in let many = sound.many in let own = there.2 in omega arith

  -- which in a full log would be too many
  place_left : length state.decided < size.places
  place_left = by_size (dec_le (suc (length state.decided)) size.places)
    where
      by_size : Dec (suc (length state.decided) ≤ size.places) → length state.decided < size.places
      by_size (yes left) = left
      by_size (no full) =
          let few = few_distinct (number ∷ last_workers size state.decided) size.workers apart workers in
          let long = length-map (drop (size.places - size.workers) state.decided) (λ (some : Ticket). some.worker) in
          let left = length-drop (size.places - size.workers) state.decided in let fits = enough in absurd (omega arith)

-- the two clauses
pub place_is_left : (size : LogSize) (state : ShownState) (number : ℕ) → IsReachedLeavingPlaces size state →
    count number state.decided < announced_by state number → length state.decided < size.places
place_is_left size state number reached undecided =
    place_left size state (is_sound size reached.0 state (leads size reached.0 state reached.1)) (is_spared size reached.0 state reached.1) number undecided

pub has_room : (size : LogSize) (state : ShownState) (number : ℕ) (worker : WorkerState) → IsReachedLeavingPlaces size state → IsWorker state number worker →
    Waits number worker → HasRoom size worker
has_room size state number worker reached is waits = by_size (dec_le (suc (length worker.learned)) size.places)
  where
    by_size : Dec (suc (length worker.learned) ≤ size.places) → HasRoom size worker
    by_size (yes left) = left
    by_size (no full) =
        let sound = is_sound size reached.0 state (leads size reached.0 state reached.1) in let few = sound.few in
        let learned = learned_few size state number worker sound is in
        let known = ap (count number) (learned_is size state number worker sound is ∙ take_all (length worker.learned) state.decided (omega arith)) in
        let same = announced_is state number worker is in
        let left = place_is_left size state number reached (omega arith) in absurd (omega arith)
