-- The numbers of a seat follow what it knows.
use Rattle.std.proofs.Common.{◌≡◌, ◌≢◌, ◌⊎◌, ℕ, zero, suc, ◌+◌, ◌-◌, ◌<◌, ◌≤◌, ◌==◌, ◌&&◌, Bool, true, false, ltb, if◌then◌else◌, List, [], ◌∷◌, ◌++◌, get_or, set, length, sym, refl, ap, ◌∙◌, subst, ⊎_elim, arith, unwrap_or, Option, Some, None, length-append, length-set, get_or-set_same, get_or-set_other}
use Rattle.std.proofs.lemmas.List.Sums.{count_by-le-length}
use Rattle.std.proofs.Math.Decide.{ℕ_discrete}
use Rattle.std.proofs.Math.Logic.{dite}
use Rattle.atomic_table.specs.Seated.{TableId}
use Rattle.mc_model.specs.declared.id.TheConstants.{WORKERS}
use Rattle.mc_model.specs.declared.id.Ticket.{Ticket}
use Rattle.mc_model.specs.declared.shown.LogSize.{LogSize}
use Rattle.mc_model.specs.declared.shown.Phase.{Phase}
use Rattle.mc_model.specs.declared.shown.Phase.TheVariants.{Idle, Pending, Looked}
use Rattle.mc_model.specs.declared.shown.ShownState.{ShownState}
use Rattle.mc_model.specs.declared.shown.WorkerState.{WorkerState}
use Rattle.mc_model.specs.Lawful.{reads, turn}
use Rattle.mc_model.specs.Legal.{count, ticket_of}
use Rattle.mc_model.specs.Shown.{is_latest, learn, look, proposal, propose, read}
use Rattle.lists.proofs.Public.{at_seam}
use Rattle.model_lemmas.proofs.Tickets.{count_other, count_own}
use Rattle.uc_places.specs.declared.desk.Desk.{Desk}
use Rattle.uc_places.specs.declared.desk.Numbers.{Numbers}
use Rattle.uc_places.specs.declared.view.Call.{Call}
use Rattle.uc_places.specs.declared.view.Call.TheVariants.{Look, Propose, Read}
use Rattle.uc_places.specs.declared.view.View.{View}
use Rattle.uc_places.specs.declared.view.Witnessed.{Witnessed}
use Rattle.uc_places.specs.Calls.{Makes, known, last_of, state_of, worker_of}
use Rattle.uc_places.specs.Desk.{Mirrors, learned_one, owns, ticket_for}
use Rattle.uc_places.specs.SeatLaw.{SeatLaw}
use Rattle.uc_places.specs.Told.{Happens, IsTicketOf, ReadTells, SeatState, TableStep, keeping, moved_on, told_list}
use Rattle.uc_places.specs.Words.{found_in, said_ticket, said_word}
use Rattle.uc_places.proofs.Wording.{decoded}

-- a table of the same name has as many words
pub words_of : (z z' : TableId) (n : ℕ) → z ≡ z' → z.words ≡ n → z'.words ≡ n
words_of z z' n e h = ap (λ (t : TableId). t.words) (sym e) ∙ h

-- a word that isn't 0 encodes its ticket
pub found_some : (found : ℕ) (ticket : Ticket) → found ≢ 0 → ticket ≡ said_ticket found → found_in found ≡ Some ticket
found_some zero ticket ne e = absurd (ne refl)
found_some (suc n) ticket ne e = ap (λ (y : Ticket). Some y) (sym e)

-- the test on numbers is the definition's
pub owns_is : (view : View) (numbers : Numbers) (ticket : Ticket) → Mirrors view numbers →
    owns numbers ticket ≡ is_latest view.worker view.state ticket
owns_is view numbers ticket m = λ i. (ticket.worker == sym m.worker i) && (ticket.number + 1 == sym m.announced i)

-- one more ticket is learned, by a read or a proposal
pub mirrors_learned : (call : Call) (last : ShownState) (view : View) (state : WorkerState) (numbers : Numbers) (ticket : Ticket) (proposals : ℕ) →
    (phase : Phase) → Mirrors view numbers → phase ≢ Looked →
    state.learned ≡ (learn view.worker phase ticket view.state).learned → state.phase ≡ (learn view.worker phase ticket view.state).phase →
    state.announced ≡ view.state.announced → state.mark ≡ view.state.mark → state.proposals ≡ proposals →
    ticket.worker < WORKERS → numbers.learned < view.size.places → proposals ≤ numbers.learned + 1 → proposals ≤ numbers.workers + 1 →
    Mirrors (moved_on view call state last) (record (learned_one numbers ticket phase) { proposals = proposals })
mirrors_learned call last view state numbers ticket proposals phase m rests learns phased announces marks proposes few room low helped = record {
  seated = m.seated;
  small = m.small;
  workers = m.workers;
  places = m.places;
  worker = m.worker;
  inside = m.inside;
  learned = ap length learns ∙ (length-append view.state.learned (ticket ∷ []) ∙ ap (λ (k : ℕ). k + 1) m.learned);
  few = omega arith;
  announced = announces ∙ m.announced;
  announced_few = m.announced_few;
  proposals = proposes;
  proposals_few = low;
  proposals_helped = helped;
  mark = marks ∙ m.mark;
  phase = phased ∙ ap (λ (own : Bool). if own then Idle else phase) (sym (owns_is view numbers ticket m));
  word = λ looked. absurd (not_looked looked);
  proposes = λ looked. absurd (not_looked looked);
  room = λ looked. absurd (not_looked looked);
  wide = length-set numbers.counts ticket.worker (get_or numbers.counts ticket.worker 0 + 1) ∙ m.wide;
  counts = λ worker inside. counted worker inside ∙ sym (ap (count worker) learns);
}
  where
    unlooked : (own : Bool) → (if own then Idle else phase) ≢ Looked
    unlooked true same = cc
    unlooked false same = rests same

    not_looked : state.phase ≢ Looked
    not_looked looked = unlooked (is_latest view.worker view.state ticket) (sym phased ∙ looked)

    -- how many tickets of each worker are learned
    counted : (worker : ℕ) → worker < 16 → get_or (learned_one numbers ticket phase).counts worker 0 ≡ count worker (view.state.learned ++ ticket ∷ [])
    counted worker inside = let many : ℕ = get_or numbers.counts ticket.worker 0 + 1 in dite (ℕ_discrete worker ticket.worker)
        (λ here. let wide = m.wide in ap (λ (i : ℕ). get_or (set numbers.counts ticket.worker many) i 0) here
        ∙ (get_or-set_same numbers.counts ticket.worker many 0 (omega arith)
        ∙ (ap (λ (k : ℕ). k + 1) (ap (λ (i : ℕ). get_or numbers.counts i 0) (sym here) ∙ m.counts worker inside)
        ∙ sym (count_own worker view.state.learned ticket (sym here)))))
        (λ apart. get_or-set_other numbers.counts ticket.worker worker many 0 apart ∙ (m.counts worker inside
        ∙ sym (count_other worker view.state.learned ticket (λ same. apart (sym same)))))

-- a seat has learned no more tickets of a worker than places
pub count_few : (view : View) (numbers : Numbers) (worker : ℕ) → Mirrors view numbers → worker < 16 → get_or numbers.counts worker 0 ≤ numbers.learned
count_few view numbers worker m inside = let same = m.counts worker inside in
    let few = count_by-le-length (λ (some : Ticket). some.worker == worker) view.state.learned in let long = m.learned in omega arith

-- a read has made its event
pub made_read : (old new : Desk) (at : TableStep) (found : ℕ) (stands : Option Ticket) → found_in found ≡ stands →
    new.seat.table_id ≡ old.seat.table_id → new.seat.id ≡ old.seat.id →
    ReadTells at old.seat.me found new.seat.me → Makes old new Read (read (worker_of old) stands (state_of old))
made_read old new at found stands e table id tells = (
  table,
  id,
  ap (λ (m : SeatState). m.0) tells.0 ∙ ap (λ (z : Option Ticket). moved_on (known old) Read (read (worker_of old) z (state_of old)) (last_of new)) e,
  subst (λ (z : Option Ticket). Happens (known old).size (reads (worker_of old)) (known old) (read (worker_of old) z (state_of old))
      (last_of new)) e tells.4,
)

-- a word that was found in a place is a small ticket's
pub small_ticket : (size : LogSize) (found : ℕ) (ticket : Ticket) → IsTicketOf size found → found ≢ 0 → ticket ≡ said_ticket found →
    (ticket.worker < WORKERS) × (ticket.number < size.places)
small_ticket size found ticket is ne e = let t = is ne in let a = t.0 in let b = t.3 in let c = t.1 in
    subst (λ (y : Ticket). (y.worker < WORKERS) × (y.number < size.places)) (sym e) (omega arith, t.1)

-- the ticket to propose after looking, from the numbers
pub proposed_is : (view : View) (numbers : Numbers) (helped found : ℕ) → Mirrors view numbers → helped < 16 → helped ≡ turn view.size view.state →
    ticket_for numbers helped found ≡ proposal view.worker (look (turn view.size view.state) found view.state)
proposed_is view numbers helped found m small e = both ∙ ap (λ (i : ℕ). proposal view.worker (look i found view.state)) e
  where
    known_count : ℕ
    known_count = count helped view.state.learned

    own : Ticket
    own = ticket_of view.worker (view.state.announced - 1)

    picked : (b : Bool) → (if b then ticket_of helped known_count else own) ≡ unwrap_or (if b then Some (ticket_of helped known_count) else None) own
    picked true = refl
    picked false = refl

    both : ticket_for numbers helped found ≡ proposal view.worker (look helped found view.state)
    both = (λ i. if ltb (m.counts helped small i) found then ticket_of helped (m.counts helped small i) else ticket_of (sym m.worker i)
        (sym m.announced i - 1)) ∙ picked (ltb known_count found)

pub proposed_small : (view : View) (numbers : Numbers) (helped found : ℕ) → Mirrors view numbers → helped < 16 →
    numbers.learned < view.size.places → (ticket_for numbers helped found).number < 1048576
proposed_small view numbers helped found m small room = by_test (ltb (get_or numbers.counts helped 0) found)
  where
    by_test : (b : Bool) → (if b then ticket_of helped (get_or numbers.counts helped 0) else ticket_of numbers.worker (numbers.announced - 1)).number < 1048576
    by_test true = let few = count_few view numbers helped m small in let s = m.small in let places = s.2 in omega arith
    by_test false = let few = m.announced_few in omega arith

-- the worker of the ticket to propose is below the bound on workers
proposed_worker : (view : View) (numbers : Numbers) (helped found : ℕ) → Mirrors view numbers → helped < 16 → (ticket_for numbers helped found).worker < WORKERS
proposed_worker view numbers helped found m small = by_test (ltb (get_or numbers.counts helped 0) found)
  where
    by_test : (b : Bool) → (if b then ticket_of helped (get_or numbers.counts helped 0) else ticket_of numbers.worker (numbers.announced - 1)).worker < WORKERS
    by_test true = small
    by_test false = let inside = m.inside in let few = m.small.1 in let same = m.workers in omega arith

-- looking is kept as the word of the ticket that the worker proposes next
pub mirrors_looked : (last : ShownState) (view : View) (numbers : Numbers) (helped found word : ℕ) → Mirrors view numbers → helped < 16 →
    helped ≡ turn view.size view.state → numbers.learned < view.size.places → word ≡ said_word (ticket_for numbers helped found) →
    Mirrors (moved_on view Look (look (turn view.size view.state) found view.state) last) (record numbers { proposal = word; phase = Looked })
mirrors_looked last view numbers helped found word m small at room is = let same = proposed_is view numbers helped found m small at in record {
  seated = m.seated;
  small = m.small;
  workers = m.workers;
  places = m.places;
  worker = m.worker;
  inside = m.inside;
  learned = m.learned;
  few = m.few;
  announced = m.announced;
  announced_few = m.announced_few;
  proposals = m.proposals;
  proposals_few = m.proposals_few;
  proposals_helped = m.proposals_helped;
  mark = m.mark;
  phase = refl;
  word = λ looked. is ∙ ap said_word same;
  proposes = λ looked. subst (λ (ticket : Ticket). ticket.worker < WORKERS) same (proposed_worker view numbers helped found m small);
  room = λ looked. room;
  wide = m.wide;
  counts = m.counts;
}

-- what stands after a proposal: what stood there, or the proposal
pub stood : (found word stands : ℕ) (proposed ticket : Ticket) → word ≡ said_word proposed → proposed.worker < WORKERS →
    ((found ≡ 0) × (stands ≡ word)) ⊎ ((found ≢ 0) × (stands ≡ found)) → ticket ≡ said_ticket stands → ticket ≡ unwrap_or (found_in found) proposed
stood zero word stands proposed ticket is small which said = ⊎_elim
    (λ (here : (zero ≡ 0) × (stands ≡ word)). said ∙ (ap said_ticket (here.1 ∙ is) ∙ decoded proposed (omega arith)))
    (λ (there : (zero ≢ 0) × (stands ≡ zero)). absurd (there.0 refl)) which
stood (suc found) word stands proposed ticket is small which said = ⊎_elim
    (λ (here : (suc found ≡ 0) × (stands ≡ word)). absurd (omega (arith, here.0)))
    (λ (there : (suc found ≢ 0) × (stands ≡ suc found)). said ∙ ap said_ticket there.1) which

-- a proposal is kept as one more learned ticket
pub mirrors_proposed : (last : ShownState) (view : View) (numbers : Numbers) (ticket : Ticket) (found : Option Ticket) → Mirrors view numbers →
    view.state.phase ≡ Looked → ticket ≡ unwrap_or found (proposal view.worker view.state) → ticket.worker < WORKERS →
    (propose view.worker found view.state).proposals ≤ view.size.workers + 1 →
    Mirrors (moved_on view Propose (propose view.worker found view.state) last) (record (learned_one numbers ticket Pending) { proposals = numbers.proposals + 1 })
mirrors_proposed last view numbers ticket found m looked same small helped = let few = m.proposals_few in let workers = m.workers in let made = m.proposals in
    mirrors_learned Propose last view (propose view.worker found view.state) numbers ticket (numbers.proposals + 1) Pending m (λ (other : Pending ≡ Looked). cc)
    (ap (λ (t : Ticket). (learn view.worker Pending t view.state).learned) (sym same))
    (ap (λ (t : Ticket). (learn view.worker Pending t view.state).phase) (sym same)) refl refl (ap (λ (k : ℕ). k + 1) m.proposals) small (m.room looked)
    (omega arith) (omega arith)

-- the ticket that was learned by a proposal is one of the log
pub proposed_inside : (view : View) (ticket : Ticket) (found : Option Ticket) → SeatLaw view.size view.worker (propose view.worker found view.state) →
    ticket ≡ unwrap_or found (proposal view.worker view.state) → (ticket.worker < view.size.workers) × (ticket.number < view.size.places)
proposed_inside view ticket found law same = law.inside (length view.state.learned) ticket
    (at_seam view.state.learned (unwrap_or found (proposal view.worker view.state)) [] ∙ ap (λ (t : Ticket). Some t) (sym same))

-- a list that is shared with a seat is no number of it
pub mirrors_told : (view : View) (list : List Ticket) (numbers : Numbers) → Mirrors view numbers → Mirrors (told_list view list) numbers
mirrors_told view list numbers m = record {
  seated = m.seated;
  small = m.small;
  workers = m.workers;
  places = m.places;
  worker = m.worker;
  inside = m.inside;
  learned = m.learned;
  few = m.few;
  announced = m.announced;
  announced_few = m.announced_few;
  proposals = m.proposals;
  proposals_few = m.proposals_few;
  proposals_helped = m.proposals_helped;
  mark = m.mark;
  phase = m.phase;
  word = m.word;
  proposes = m.proposes;
  room = m.room;
  wide = m.wide;
  counts = m.counts;
}

-- a run that the seat keeps is none either
pub mirrors_keeping : (view : View) (events : List Witnessed) (numbers : Numbers) → Mirrors view numbers → Mirrors (keeping view events) numbers
mirrors_keeping view events numbers m = record {
  seated = m.seated;
  small = m.small;
  workers = m.workers;
  places = m.places;
  worker = m.worker;
  inside = m.inside;
  learned = m.learned;
  few = m.few;
  announced = m.announced;
  announced_few = m.announced_few;
  proposals = m.proposals;
  proposals_few = m.proposals_few;
  proposals_helped = m.proposals_helped;
  mark = m.mark;
  phase = m.phase;
  word = m.word;
  proposes = m.proposes;
  room = m.room;
  wide = m.wide;
  counts = m.counts;
}
