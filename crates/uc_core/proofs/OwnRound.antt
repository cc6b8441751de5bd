-- A command that isn't decided among as many places as there are workers, if these are two or more.
-- At the first place, which is the first worker's turn, the second has looked for a command to help
-- when the first announces one; until the first worker's next turn it decides its own commands.
use Rattle.std.proofs.Common.{◌≡◌, ℕ, zero, suc, ◌+◌, ◌-◌, ◌%◌, ◌<◌, ◌≤◌, ◌==◌, ◌∙◌, if◌then◌else◌, Bool, true, List, [], ◌∷◌, ◌++◌, length, length-append, replicate, slice_get, Option, Some, None, unwrap_or, inr, ⊎_elim, refl, sym, ap, subst, arith, eq-eqb, le-ltb, lt-ltb}
use Rattle.std.proofs.Math.Nat.{mod-eq_of_lt}
use Rattle.std.specs.Option.{option_map_or}
use Rattle.mc_model.specs.declared.id.Ticket.{Ticket}
use Rattle.mc_model.specs.declared.shown.LogSize.{LogSize}
use Rattle.mc_model.specs.declared.shown.Phase.TheVariants.{Idle, Pending, Looked}
use Rattle.mc_model.specs.declared.shown.ShownState.{ShownState}
use Rattle.mc_model.specs.declared.shown.WorkerState.{WorkerState}
use Rattle.mc_model.specs.Helping.{IsSoonDecided}
use Rattle.mc_model.specs.Lawful.{IsReached, LeadOn, ShownEvent, Step, announced_by, announces, decided_with, looks, next, proposes, reads, turn}
use Rattle.mc_model.specs.Legal.{count, ticket_of}
use Rattle.mc_model.specs.Shown.{announce, is_latest, look, new_log, new_worker, proposal, propose, read}
use Rattle.lists.proofs.Public.{at_end, at_pushed}
use Rattle.std.proofs.lemmas.Option.{none-some}
use Rattle.model_lemmas.proofs.Tickets.{count_own}

-- the second worker's first commands
abbrev own : ℕ → List Ticket
own zero = []
own (suc many) = own many ++ ticket_of 1 many ∷ []

own_many : (many : ℕ) → length (own many) ≡ many
own_many zero = refl
own_many (suc many) = let before = own_many many in let both = length-append (own many) (ticket_of 1 many ∷ []) in omega arith

own_count : (many : ℕ) → count 1 (own many) ≡ many
own_count zero = refl
own_count (suc many) = let before = own_count many in let more = count_own 1 (own many) (ticket_of 1 many) refl in omega arith

-- none of them is the first worker's
not_of_first : (many place number : ℕ) → slice_get (own many) place ≡ Some (ticket_of 0 number) → ⊥
not_of_first zero place number at = none-some (ticket_of 0 number) at
not_of_first (suc many) place number at = ⊎_elim (not_of_first many place number)
    (λ (last : (place ≡ length (own many)) × (ticket_of 1 many ≡ ticket_of 0 number)). let wrong : 1 ≡ 0 = ap (λ (it : Ticket). it.worker) last.1 in omega (arith, wrong))
    (at_pushed (own many) (ticket_of 1 many) (ticket_of 0 number) place at)

-- the second worker once it has learned this many commands of its own: idle, having announced one
-- more, having marked the place, and having looked
abbrev idle : ℕ → Option ℕ → ℕ → WorkerState
idle many mark proposals = record { phase = Idle; announced = many; learned = own many; mark = mark; look = None; proposals = proposals }

abbrev marks : ℕ → WorkerState
marks many = record { phase = Pending; announced = many + 1; learned = own many; mark = Some (length (own many)); look = None; proposals = 0 }

abbrev looked : ℕ → Option Ticket → WorkerState
looked many found = record { phase = Looked; announced = many + 1; learned = own many; mark = Some (length (own many)); look = found; proposals = 0 }

-- what it proposes is its own command, and having proposed it is idle again
abbrev proposed : ℕ → Option Ticket → Ticket → WorkerState
proposed many found ticket = record {
  phase = if is_latest 1 (looked many found) ticket then Idle else Pending;
  announced = many + 1;
  learned = own many ++ ticket ∷ [];
  mark = Some (length (own many));
  look = None;
  proposals = 1;
}

idle_again : (many : ℕ) (found : Option Ticket) → proposed many found (ticket_of 1 many) ≡ idle (suc many) (Some (length (own many))) 1
idle_again many found =
    let is : (many + 1 == many + 1) ≡ true = eq-eqb (many + 1) (many + 1) refl in
    let one_more : many + 1 ≡ suc many = omega arith in
    λ i. record {
      phase = if is i then Idle else Pending;
      announced = one_more i;
      learned = own (suc many);
      mark = Some (length (own many));
      look = None;
      proposals = 1;
    }

-- a run of the shown log with one of the first worker's announcements in it, which is announced
-- before any place is decided, and doesn't stand among as many as there are workers
pub record Late (size : LogSize) : Type 0 where
  pub first_events : List ShownEvent
  pub later_events : List ShownEvent
  pub old : ShownState
  pub announced : ShownState
  pub new : ShownState
  pub leads : LeadOn size (new_log size) first_events old
  pub announcing : Step size old (announces 0) announced
  pub goes_on : LeadOn size announced later_events new
  pub none : old.decided ≡ []
  pub many : length new.decided ≡ size.workers
  pub without : (place number : ℕ) → slice_get new.decided place ≡ Some (ticket_of 0 number) → ⊥

-- of two workers and more, in a log of this many places
module _ (others places : ℕ) (room : suc (suc others) ≤ places) where
  abbrev size : LogSize
  size = record { workers = suc (suc others); places = places }

  -- what is shown once this many commands of the second worker are decided
  abbrev state : ℕ → WorkerState → WorkerState → ShownState
  state many first second = record { decided = own many; workers = first ∷ second ∷ replicate others new_worker }

  fits : (many : ℕ) → many < suc (suc others) → length (own many) < places
  fits many below = let long = own_many many in omega (arith, below, room)

  -- it announces a command, marks the place, and looks
  announced : (many : ℕ) (first : WorkerState) (mark : Option ℕ) (proposals : ℕ) → many < suc (suc others) →
      Step size (state many first (idle many mark proposals)) (announces 1) (state many first (announce (idle many mark proposals)))
  announced many first mark proposals below = (idle many mark proposals, refl, refl, fits many below, refl)

  marked : (many : ℕ) (first : WorkerState) (mark : Option ℕ) (proposals : ℕ) → many < suc (suc others) →
      Step size (state many first (announce (idle many mark proposals))) (reads 1) (state many first (marks many))
  marked many first mark proposals below = (
    announce (idle many mark proposals),
    refl,
    inr refl,
    fits many below,
    sym (ap (λ (there : Option Ticket). state many first (read 1 there (announce (idle many mark proposals)))) (at_end (own many))),
  )

  -- whom it helps, and what it finds
  abbrev helped : ℕ → ℕ
  helped many = turn size (marks many)

  abbrev finds : ℕ → WorkerState → Option Ticket
  finds many first = (look (helped many) (announced_by (state many first (marks many)) (helped many)) (marks many)).look

  looks_up : (many : ℕ) (first : WorkerState) → many < suc (suc others) →
      Step size (state many first (marks many)) (looks 1) (state many first (looked many (finds many first)))
  looks_up many first below = (marks many, refl, refl, fits many below, (λ same. cc), refl)

  -- where what it proposes is its own command, that is decided
  decides : (many : ℕ) (first : WorkerState) (found : Option Ticket) → proposal 1 (looked many found) ≡ ticket_of 1 many →
      Step size (state many first (looked many found)) (proposes 1) (state (suc many) first (idle (suc many) (Some (length (own many))) 1))
  decides many first found own_is = (
    looked many found,
    refl,
    refl,
    sym (ap (λ (there : Option Ticket). record {
      decided = decided_with (proposal 1 (looked many found)) (own many) there;
      workers = first ∷ propose 1 there (looked many found) ∷ replicate others new_worker;
    }) (at_end (own many))
        ∙ (ap (λ (ticket : Ticket). record {
          decided = own many ++ ticket ∷ [];
          workers = first ∷ proposed many found ticket ∷ replicate others new_worker;
        }) own_is
        ∙ ap (state (suc many) first) (idle_again many found))),
  )

  -- the workers after the second announce nothing
  none_of_new : (many place : ℕ) → option_map_or (λ (worker : WorkerState). worker.announced) (slice_get (replicate many new_worker) place) 0 ≡ 0
  none_of_new zero place = refl
  none_of_new (suc many) zero = refl
  none_of_new (suc many) (suc place) = none_of_new many place

  -- what it proposes where whom it helps has announced nothing, and where it has its own turn
  abbrev proposes_for : ℕ → ℕ → ℕ → Ticket
  proposes_for many helped announced = proposal 1 (look helped announced (marks many))

  -- by whether it finds one of that worker's commands
  abbrev proposes_if : ℕ → ℕ → Bool → Ticket
  proposes_if many helped there =
      unwrap_or (if there then Some (ticket_of helped (count helped (own many))) else None) (ticket_of 1 (many + 1 - 1))

  of_none : (many helped : ℕ) → proposes_for many helped 0 ≡ ticket_of 1 many
  of_none many helped =
      ap (proposes_if many helped) (le-ltb (count helped (own many)) 0 (omega arith)) ∙ ap (ticket_of 1) (omega arith)

  of_own : (many : ℕ) → proposes_for many 1 (many + 1) ≡ ticket_of 1 many
  of_own many =
      let all = own_count many in
      ap (proposes_if many 1) (lt-ltb (count 1 (own many)) (many + 1) (omega arith)) ∙ ap (ticket_of 1) all

  -- it helps the worker of the place's number
  in_turn : (many : ℕ) → many < suc (suc others) → helped many ≡ many
  in_turn many below = ap (λ (long : ℕ). long % suc (suc others)) (own_many many) ∙ mod-eq_of_lt below

  -- and that worker has no other command: the first one hasn't announced yet at the first place, and at a later one it isn't its turn
  abbrev asks : ℕ → WorkerState → ℕ → Ticket
  asks many first helped = proposes_for many helped (announced_by (state many first (marks many)) helped)

  own_first : asks 0 new_worker (helped 0) ≡ ticket_of 1 0
  own_first = ap (asks 0 new_worker) (in_turn 0 (omega arith)) ∙ of_none 0 0

  own_later : (many : ℕ) (first : WorkerState) → suc many < suc (suc others) → asks (suc many) first (helped (suc many)) ≡ ticket_of 1 (suc many)
  own_later zero first below = ap (asks 1 first) (in_turn 1 below) ∙ of_own 1
  own_later (suc many) first below = ap (asks (suc (suc many)) first) (in_turn (suc (suc many)) below)
      ∙ (ap (proposes_for (suc (suc many)) (suc (suc many))) (none_of_new others many) ∙ of_none (suc (suc many)) (suc (suc many)))

  -- so from a place to the end of the round it decides its own
  abbrev again : ℕ → List ShownEvent
  again zero = []
  again (suc more) = announces 1 ∷ reads 1 ∷ looks 1 ∷ proposes 1 ∷ again more

  goes_on : (more many : ℕ) (first : WorkerState) (mark : Option ℕ) (proposals : ℕ) → more + suc many ≡ suc (suc others) →
      (second : WorkerState) × LeadOn size (state (suc many) first (idle (suc many) mark proposals)) (again more) (state (suc (suc others)) first second)
  goes_on zero many first mark proposals last =
      let all : suc (suc others) ≡ suc many = omega (arith, last) in
      (idle (suc many) mark proposals, ap (λ (decided : ℕ). state decided first (idle (suc many) mark proposals)) all)
  goes_on (suc more) many first mark proposals last =
      let below : suc many < suc (suc others) = omega (arith, last) in
      let rest = goes_on more (suc many) first (Some (length (own (suc many)))) 1 (omega (arith, last)) in (
        rest.0,
        (
          state (suc many) first (announce (idle (suc many) mark proposals)),
          announced (suc many) first mark proposals below,
          (
            state (suc many) first (marks (suc many)),
            marked (suc many) first mark proposals below,
            (
              state (suc many) first (looked (suc many) (finds (suc many) first)),
              looks_up (suc many) first below,
              (
                state (suc (suc many)) first (idle (suc (suc many)) (Some (length (own (suc many)))) 1),
                decides (suc many) first (finds (suc many) first) (own_later many first below),
                rest.1,
              ),
            ),
          ),
        ),
      )

  -- the second worker has looked at the first place when the first announces
  abbrev has_looked : WorkerState
  has_looked = looked 0 (finds 0 new_worker)

  looks_first : LeadOn size (new_log size) (announces 1 ∷ reads 1 ∷ looks 1 ∷ []) (state 0 new_worker has_looked)
  looks_first = (
    state 0 new_worker (announce (idle 0 None 0)),
    announced 0 new_worker None 0 (omega arith),
    (
      state 0 new_worker (marks 0),
      marked 0 new_worker None 0 (omega arith),
      (state 0 new_worker has_looked, looks_up 0 new_worker (omega arith), refl),
    ),
  )

  is_late : Late size
  is_late =
      let rest = goes_on (suc others) 0 (announce new_worker) (Some 0) 1 (omega arith) in
      record {
        first_events = announces 1 ∷ reads 1 ∷ looks 1 ∷ [];
        later_events = proposes 1 ∷ again (suc others);
        old = state 0 new_worker has_looked;
        announced = state 0 (announce new_worker) has_looked;
        new = state (suc (suc others)) (announce new_worker) rest.0;
        leads = looks_first;
        announcing = (new_worker, refl, refl, fits 0 (omega arith), refl);
        goes_on = (
          state 1 (announce new_worker) (idle 1 (Some 0) 1),
          decides 0 (announce new_worker) (finds 0 new_worker) own_first,
          rest.1,
        );
        none = refl;
        many = own_many (suc (suc others));
        without = not_of_first (suc (suc others));
      }

-- in every log of two workers and more that has no fewer places
pub late : (size : LogSize) → 1 < size.workers → size.workers ≤ size.places → Late size
late size two room = of_many size.workers size.places two room
  where
    of_many : (workers places : ℕ) → 1 < workers → workers ≤ places → Late (record { workers = workers; places = places })
    of_many zero places two room = absurd (omega (arith, two))
    of_many (suc zero) places two room = absurd (omega (arith, two))
    of_many (suc (suc others)) places two room = is_late others places room

-- events lead on to states that are reachable too
reached_on : (size : LogSize) (events : List ShownEvent) (old new : ShownState) → IsReached size old → LeadOn size old events new → IsReached size new
reached_on size [] old new reached on = subst (IsReached size) (sym on) reached
reached_on size (event ∷ events) old new reached (next, step, on) = reached_on size events next new (event ∷ reached.0, (old, reached.1, step)) on

pub sharp_of_events : (size : LogSize) → 1 < size.workers → size.workers ≤ size.places → IsSoonDecided size.workers size → ⊥
sharp_of_events size two room soon =
    let it = late size two room in
    let none : length it.old.decided ≡ 0 = ap length it.none in
    let many = it.many in
    let soon_after = soon it.old it.announced it.new 0 it.later_events (reached_on size it.first_events (new_log size) it.old ([], refl) it.leads) it.announcing it.goes_on (omega arith) in
    it.without soon_after.0 (announced_by it.old 0) soon_after.2
