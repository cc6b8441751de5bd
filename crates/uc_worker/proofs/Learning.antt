-- How a worker's steps change what its seat knows.
use Rattle.std.proofs.Common.{◌≡◌, ◌≢◌, ℕ, ◌+◌, ◌-◌, ◌==◌, ◌&&◌, Bool, true, false, if◌then◌else◌, [], ◌∷◌, length, length-append, slice_get, Option, Some, None, sym, refl, ap, ◌∙◌, subst, arith, eqb-true, true≢false}
use Rattle.mc_model.specs.declared.id.Ticket.{Ticket}
use Rattle.mc_model.specs.declared.shown.Phase.{Phase}
use Rattle.mc_model.specs.declared.shown.Phase.TheVariants.{Idle, Pending, Looked}
use Rattle.mc_model.specs.declared.shown.ShownState.{ShownState}
use Rattle.mc_model.specs.declared.shown.WorkerState.{WorkerState}
use Rattle.mc_model.specs.Legal.{ticket_of}
use Rattle.mc_model.specs.Shown.{announce, is_latest, look, marked, propose, read}
use Rattle.uc_places.specs.declared.desk.Desk.{Desk}
use Rattle.uc_places.specs.declared.view.Call.{Call}
use Rattle.uc_places.specs.declared.view.Call.TheVariants.{Announce, Look, Propose, Read}
use Rattle.uc_places.specs.declared.view.View.{View}
use Rattle.uc_places.specs.Calls.{Makes, known, state_of, worker_of}
use Rattle.uc_places.specs.Told.{moved_on}
use Rattle.uc_worker.specs.Steps.{Decided, IsSame, Later}
use Rattle.uc_worker.proofs.Steps.{Announced, Learns}
use Rattle.lists.proofs.Public.{begins_longer, begins_same, begins_self, begins_through, last_at}

both_true : (p q : Bool) → (p && q) ≡ true → (p ≡ true) × (q ≡ true)
both_true true true is = (refl, refl)
both_true true false is = absurd (true≢false (sym is))
both_true false q is = absurd (true≢false (sym is))

-- a ticket by which a worker that wasn't idle becomes idle is the worker's latest
module _ (number : ℕ) (worker : WorkerState) (ticket : Ticket) (at : Phase) where
  abbrev after : Bool → Phase
  after own = if own then Idle else at

  own_of : at ≢ Idle → after (is_latest number worker ticket) ≡ Idle → ticket ≡ ticket_of number (worker.announced - 1)
  own_of busy idle = by_test (is_latest number worker ticket) refl
    where
      by_test : (own : Bool) → is_latest number worker ticket ≡ own → ticket ≡ ticket_of number (worker.announced - 1)
      by_test true is = let both = both_true (ticket.worker == number) (ticket.number + 1 == worker.announced) is in
          let mine = eqb-true ticket.worker number both.0 in let latest = eqb-true (ticket.number + 1) worker.announced both.1 in
          let last : ticket.number ≡ worker.announced - 1 = omega arith in λ i. ticket_of (mine i) (last i)
      by_test false is = absurd (busy (sym (ap after is) ∙ idle))

  stays_of : after (is_latest number worker ticket) ≢ Idle → after (is_latest number worker ticket) ≡ at
  stays_of other = by_test (is_latest number worker ticket) refl
    where
      by_test : (own : Bool) → is_latest number worker ticket ≡ own → after (is_latest number worker ticket) ≡ at
      by_test true is = absurd (other (ap after is))
      by_test false is = ap after is

-- what a call makes of a seat, if the worker's state is known
module _ (old new : View) (call : Call) (state : WorkerState) (last : ShownState) (is : new ≡ moved_on old call state last) where
  same_of : IsSame old new
  same_of = (ap (λ (v : View). v.size) is, ap (λ (v : View). v.worker) is)

  told_of : new.told ≡ old.told
  told_of = ap (λ (v : View). v.told) is

  pub state_is : new.state ≡ state
  state_is = ap (λ (v : View). v.state) is

pub later_self : (view : View) → Later view view
later_self view = record { same = (refl, refl); told = refl; announced = refl; learned = begins_self view.state.learned }

pub later_through : (one two three : View) → Later one two → Later two three → Later one three
later_through one two three first second = record {
  same = (second.same.0 ∙ first.same.0, second.same.1 ∙ first.same.1);
  told = second.told ∙ first.told;
  announced = second.announced ∙ first.announced;
  learned = begins_through _ _ _ second.learned first.learned;
}

pub learns_later : (old new : View) (ticket : Ticket) → Learns old new ticket → Later old new
learns_later old new ticket learns = record { same = learns.same; told = learns.told; announced = learns.announced; learned = (ticket ∷ [], learns.learned) }

pub learns_more : (old new : View) (ticket : Ticket) → Learns old new ticket → length new.state.learned ≡ length old.state.learned + 1
learns_more old new ticket learns = ap length learns.learned ∙ length-append old.state.learned (ticket ∷ [])

-- a read that finds a ticket, and a proposal
pub learns_read : (old new : Desk) (found : Option Ticket) (ticket : Ticket) → found ≡ Some ticket →
    Makes old new Read (read (worker_of old) found (state_of old)) → Learns (known old) (known new) ticket
learns_read old new found ticket is made = let state = state_is (known old) (known new) _ _ _ made.2 ∙ ap (λ (f : Option Ticket). read (worker_of old) f (state_of old)) is in record {
  same = same_of (known old) (known new) _ _ _ made.2;
  told = told_of (known old) (known new) _ _ _ made.2;
  announced = ap (λ (s : WorkerState). s.announced) state;
  mark = ap (λ (s : WorkerState). s.mark) state;
  learned = ap (λ (s : WorkerState). s.learned) state;
}

pub learns_proposed : (old new : Desk) (ticket : Ticket) → Makes old new Propose (propose (worker_of old) (Some ticket) (state_of old)) →
    Learns (known old) (known new) ticket
learns_proposed old new ticket made = let state = state_is (known old) (known new) _ _ _ made.2 in record {
  same = same_of (known old) (known new) _ _ _ made.2;
  told = told_of (known old) (known new) _ _ _ made.2;
  announced = ap (λ (s : WorkerState). s.announced) state;
  mark = ap (λ (s : WorkerState). s.mark) state;
  learned = ap (λ (s : WorkerState). s.learned) state;
}

-- its own ticket is learned
decides : (one two three : View) (ticket : Ticket) → Later one two → Learns two three ticket → three.state.phase ≡ Idle →
    ticket ≡ ticket_of two.worker (two.state.announced - 1) → Decided one three
decides one two three ticket later learns idle own =
    let more = learns_more two three ticket learns in let long = begins_longer _ _ later.learned in
    let here : length three.state.learned - 1 ≡ length two.state.learned = omega arith in record {
      idle = idle;
      more = omega arith;
      last = (λ i. slice_get (learns.learned i) (here i)) ∙ (last_at two.state.learned ticket
          ∙ ap (λ (t : Ticket). Some t) (own ∙ (λ i. ticket_of (later.same.1 i) (later.announced i - 1))));
    }

pub decides_read : (one : View) (old new : Desk) (found : Option Ticket) (ticket : Ticket) → Later one (known old) → (state_of old).phase ≡ Pending →
    found ≡ Some ticket → Makes old new Read (read (worker_of old) found (state_of old)) → (state_of new).phase ≡ Idle → Decided one (known new)
decides_read one old new found ticket later pending is made idle =
    let state = state_is (known old) (known new) _ _ _ made.2 ∙ ap (λ (f : Option Ticket). read (worker_of old) f (state_of old)) is in
    decides one (known old) (known new) ticket later (learns_read old new found ticket is made) idle
    (own_of (worker_of old) (state_of old) ticket (state_of old).phase (λ same. (let e = sym pending ∙ same in cc))
    (sym (ap (λ (s : WorkerState). s.phase) state) ∙ idle))

pub decides_proposed : (one : View) (old new : Desk) (ticket : Ticket) → Later one (known old) →
    Makes old new Propose (propose (worker_of old) (Some ticket) (state_of old)) → (state_of new).phase ≡ Idle → Decided one (known new)
decides_proposed one old new ticket later made idle =
    decides one (known old) (known new) ticket later (learns_proposed old new ticket made) idle
    (own_of (worker_of old) (state_of old) ticket Pending (λ (same : Pending ≡ Idle). cc)
    (sym (ap (λ (s : WorkerState). s.phase) (state_is (known old) (known new) _ _ _ made.2)) ∙ idle))

-- a pending worker that isn't idle after a step is still pending
pub waits_read : (old new : Desk) (found : Option Ticket) → (state_of old).phase ≡ Pending →
    Makes old new Read (read (worker_of old) found (state_of old)) → (state_of new).phase ≢ Idle → (state_of new).phase ≡ Pending
waits_read old new None pending made other = ap (λ (s : WorkerState). s.phase) (state_is (known old) (known new) _ _ _ made.2) ∙ pending
waits_read old new (Some ticket) pending made other = let phase = ap (λ (s : WorkerState). s.phase) (state_is (known old) (known new) _ _ _ made.2) in
    phase ∙ (stays_of (worker_of old) (state_of old) ticket (state_of old).phase (λ idle. other (phase ∙ idle)) ∙ pending)

pub waits_proposed : (old new : Desk) (ticket : Ticket) →
    Makes old new Propose (propose (worker_of old) (Some ticket) (state_of old)) → (state_of new).phase ≢ Idle → (state_of new).phase ≡ Pending
waits_proposed old new ticket made other = let phase = ap (λ (s : WorkerState). s.phase) (state_is (known old) (known new) _ _ _ made.2) in
    phase ∙ stays_of (worker_of old) (state_of old) ticket Pending (λ idle. other (phase ∙ idle))

is_marked : (mark : Option ℕ) (place : ℕ) → marked Pending mark place ≢ None
is_marked None place = λ same. cc
is_marked (Some mark) place = λ same. cc

-- an empty place was read
pub marks_empty : (old new : Desk) (found : Option Ticket) → found ≡ None → (state_of old).phase ≡ Pending →
    Makes old new Read (read (worker_of old) found (state_of old)) →
    Later (known old) (known new) × ((state_of new).phase ≡ Pending) × ((state_of new).mark ≢ None)
marks_empty old new found is pending made =
    let state = state_is (known old) (known new) _ _ _ made.2 ∙ ap (λ (f : Option Ticket). read (worker_of old) f (state_of old)) is in (
      record {
        same = same_of (known old) (known new) _ _ _ made.2;
        told = told_of (known old) (known new) _ _ _ made.2;
        announced = ap (λ (s : WorkerState). s.announced) state;
        learned = begins_same _ _ (ap (λ (s : WorkerState). s.learned) state);
      },
      ap (λ (s : WorkerState). s.phase) state ∙ pending,
      subst (λ (mark : Option ℕ). mark ≢ None) (sym (ap (λ (s : WorkerState). s.mark) state
          ∙ ap (λ (p : Phase). marked p (state_of old).mark (length (state_of old).learned)) pending))
          (is_marked (state_of old).mark (length (state_of old).learned)),
    )

-- a worker looks
pub looks_later : (old new : Desk) (helped found : ℕ) → Makes old new Look (look helped found (state_of old)) →
    Later (known old) (known new) × ((state_of new).phase ≡ Looked) × ((state_of new).mark ≡ (state_of old).mark) × ((state_of new).learned ≡ (state_of old).learned)
looks_later old new helped found made = let state = state_is (known old) (known new) _ _ _ made.2 in (
  record {
    same = same_of (known old) (known new) _ _ _ made.2;
    told = told_of (known old) (known new) _ _ _ made.2;
    announced = ap (λ (s : WorkerState). s.announced) state;
    learned = begins_same _ _ (ap (λ (s : WorkerState). s.learned) state);
  },
  ap (λ (s : WorkerState). s.phase) state,
  ap (λ (s : WorkerState). s.mark) state,
  ap (λ (s : WorkerState). s.learned) state,
)

-- a worker announces
pub announced_of : (old new : Desk) → Makes old new Announce (announce (state_of old)) → Announced (known old) (known new)
announced_of old new made = let state = state_is (known old) (known new) _ _ _ made.2 in record {
  same = same_of (known old) (known new) _ _ _ made.2;
  announced = ap (λ (s : WorkerState). s.announced) state;
  learned = ap (λ (s : WorkerState). s.learned) state;
  phase = ap (λ (s : WorkerState). s.phase) state;
}
