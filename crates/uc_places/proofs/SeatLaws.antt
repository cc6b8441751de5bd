-- The law of a seat's own list, at the opening and after each event.
use Rattle.std.proofs.Common.{◌≡◌, ◌⊎◌, ℕ, zero, suc, ◌≤◌, ◌<◌, Bool, true, false, if◌then◌else◌, List, [], ◌∷◌, ◌++◌, length, replicate, take, sym, refl, ap, ◌∙◌, subst, inl, inr, arith, slice_get, unwrap_or, Option, Some, None}
use Rattle.std.proofs.lemmas.Option.{none-some}
use Rattle.mc_model.specs.declared.id.Ticket.{Ticket}
use Rattle.mc_model.specs.declared.shown.LogSize.{LogSize}
use Rattle.mc_model.specs.declared.shown.Phase.{Phase}
use Rattle.mc_model.specs.declared.shown.Phase.TheVariants.{Idle, Pending}
use Rattle.mc_model.specs.declared.shown.ShownState.{ShownState}
use Rattle.mc_model.specs.declared.shown.WorkerState.{WorkerState}
use Rattle.mc_model.specs.Helping.{LogLaw, WorkerLaw}
use Rattle.mc_model.specs.Lawful.{IsReached, IsWorker, ShownEvent, announced_by}
use Rattle.mc_model.specs.Legal.{IsLegal, count}
use Rattle.mc_model.specs.Shown.{is_latest, new_worker, proposal, propose, read}
use Rattle.lists.proofs.Public.{begins_longer, take_longer}
use Rattle.model_lemmas.proofs.Waiting.{is_lawful}
use Rattle.uc_places.specs.declared.view.Call.{Call}
use Rattle.uc_places.specs.declared.view.View.{View}
use Rattle.uc_places.specs.declared.view.Witnessed.{Witnessed}
use Rattle.uc_places.specs.Reached.{LastIsReached}
use Rattle.uc_places.specs.SeatLaw.{SeatLaw}
use Rattle.uc_places.specs.Told.{Happens, keeping, moved_on, new_seat, told_list}
use Rattle.uc_places.proofs.Wording.{announced_in, ticket_small}

-- an element of the front of a list is an element of the list
in_longer : {X : Type 0} (list front : List X) (rest : List X) (place : ℕ) (x : X) → list ≡ front ++ rest → slice_get front place ≡ Some x → slice_get list place ≡ Some x
in_longer {X} list front rest place x is at = ap (λ (l : List X). slice_get l place) is ∙ stands front place at
  where
    stands : (front : List X) (place : ℕ) → slice_get front place ≡ Some x → slice_get (front ++ rest) place ≡ Some x
    stands [] place at = absurd (none-some x at)
    stands (y ∷ front) zero at = at
    stands (y ∷ front) (suc place) at = stands front place at

-- in a reachable state
pub seat_law : (size : LogSize) (log : ShownState) (number : ℕ) (worker : WorkerState) → IsReached size log → IsWorker log number worker →
    SeatLaw size number worker
seat_law size log number worker reached at = record {
  legal = legal;
  few = begins_few;
  inside = λ place ticket stands. ticket_small size log law place ticket (up place ticket stands);
  own = λ place ticket stands same. let less = law.announced place ticket (up place ticket stands) in
      let mine : announced_by log ticket.worker ≡ worker.announced = ap (announced_by log) same ∙ ap announced_in at in omega arith;
  idle = each.idle;
  pending = each.pending;
  looked = λ looked. (each.looked looked).0;
}
  where
    law : LogLaw size log
    law = is_lawful size log reached

    each : WorkerLaw size log number worker
    each = law.each number worker at

    rest : List Ticket
    rest = each.begins.0

    up : (place : ℕ) (ticket : Ticket) → slice_get worker.learned place ≡ Some ticket → slice_get log.decided place ≡ Some ticket
    up place ticket stands = in_longer log.decided worker.learned rest place ticket each.begins.1 stands

    legal : IsLegal worker.learned
    legal place ticket stands = sym (ap (count ticket.worker) (ap (take place) each.begins.1 ∙ take_longer worker.learned place ticket rest stands))
        ∙ law.legal place ticket (up place ticket stands)

    begins_few : length worker.learned ≤ size.places
    begins_few = let longer = begins_longer log.decided worker.learned each.begins in let few = law.few in omega arith

-- after an event
pub law_after : (view new : View) (event : ShownEvent) (call : Call) (state : WorkerState) → new ≡ moved_on view call state new.last →
    Happens view.size event view state new.last → SeatLaw new.size new.worker new.state
law_after view new event call state is happens =
    subst (λ (v : View). SeatLaw v.size v.worker v.state) (sym is) (seat_law view.size new.last view.worker state happens.4 happens.6)

-- before the first
pub law_of_new : (size : LogSize) (number : ℕ) → SeatLaw size number new_worker
law_of_new size number = record {
  legal = λ place ticket stands. absurd (none-some ticket stands);
  few = omega arith;
  inside = λ place ticket stands. absurd (none-some ticket stands);
  own = λ place ticket stands same. absurd (none-some ticket stands);
  idle = λ _. refl;
  pending = λ is. cc;
  looked = λ is. cc;
}

-- the last state of a seat after an event, before the first, and of a seat with which a list is
-- shared
pub last_after : (view new : View) (event : ShownEvent) (call : Call) (state : WorkerState) → new ≡ moved_on view call state new.last →
    Happens view.size event view state new.last → LastIsReached new
last_after view new event call state is happens =
    subst LastIsReached (sym is) (record {
      reached = ∣ happens.4 ∣₁;
      shown = happens.6;
      decided = λ place ticket stands. let begins = ((is_lawful view.size new.last happens.4).each view.worker state happens.6).begins in
          in_longer new.last.decided state.learned begins.0 place ticket begins.1 stands;
    })

pub last_of_new : (size : LogSize) (number : ℕ) → number < size.workers → LastIsReached (new_seat size number)
last_of_new size number inside = record {
  reached = ∣ ([], refl) ∣₁;
  shown = all_new size.workers number inside;
  decided = λ place ticket stands. absurd (none-some ticket stands);
}
  where
    all_new : (workers number : ℕ) → number < workers → slice_get (replicate workers new_worker) number ≡ Some new_worker
    all_new zero number inside = absurd (omega arith)
    all_new (suc workers) zero inside = refl
    all_new (suc workers) (suc number) inside = all_new workers number (omega arith)

pub last_told : (view : View) (list : List Ticket) → LastIsReached view → LastIsReached (told_list view list)
last_told view list last = record { reached = last.reached; shown = last.shown; decided = last.decided }

pub last_keeping : (view : View) (events : List Witnessed) → LastIsReached view → LastIsReached (keeping view events)
last_keeping view events last = record { reached = last.reached; shown = last.shown; decided = last.decided }

-- between two steps a worker is idle or pending
rests_if : (own : Bool) (phase : Phase) → phase ≡ Pending → ((if own then Idle else phase) ≡ Idle) ⊎ ((if own then Idle else phase) ≡ Pending)
rests_if true phase pending = inl refl
rests_if false phase pending = inr pending

pub rests_after_read : (number : ℕ) (found : Option Ticket) (worker : WorkerState) → worker.phase ≡ Pending →
    ((read number found worker).phase ≡ Idle) ⊎ ((read number found worker).phase ≡ Pending)
rests_after_read number None worker pending = inr pending
rests_after_read number (Some ticket) worker pending = rests_if (is_latest number worker ticket) worker.phase pending

pub rests_after_propose : (number : ℕ) (found : Option Ticket) (worker : WorkerState) →
    ((propose number found worker).phase ≡ Idle) ⊎ ((propose number found worker).phase ≡ Pending)
rests_after_propose number found worker = rests_if (is_latest number worker (unwrap_or found (proposal number worker))) Pending refl
