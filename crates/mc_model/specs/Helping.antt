-- What holds in every reachable state: the log is well-formed, each worker knows a prefix of it,
-- and a pending command is helped round-robin (Herlihy, Wait-Free Synchronization, TOPLAS 1991: at
-- each place the worker whose number is the place modulo the number of workers is helped first).
-- `Lawful` says which states are reachable; these are statements about them.
use Rattle.std.specs.Prelude.{◌≡◌, ◌≢◌, ◌⊎◌, ℕ, ◌+◌, ◌-◌, ◌%◌, ◌<◌, ◌≤◌, List, length, slice_get, Some, None}
use Rattle.lists.specs.Lists.{BeginsWith}
use Rattle.mc_model.specs.declared.id.Ticket.{Ticket}
use Rattle.mc_model.specs.declared.shown.LogSize.{LogSize}
use Rattle.mc_model.specs.declared.shown.Phase.TheVariants.{Idle, Pending, Looked}
use Rattle.mc_model.specs.declared.shown.ShownState.{ShownState}
use Rattle.mc_model.specs.declared.shown.WorkerState.{WorkerState}
use Rattle.mc_model.specs.Lawful.{HasRoom, IsReached, IsWorker, LeadOn, ShownEvent, Step, announced_by, announces, proposes}
use Rattle.mc_model.specs.Legal.{IsLegal, StandsBefore, count, ticket_of}

-- a worker knows the first places, all its commands but the pending one stand there, and the ticket
-- it looked up is the next one of that ticket's worker
pub record WorkerLaw (size : LogSize) (state : ShownState) (number : ℕ)
    (worker : WorkerState) : Type 0 where
  pub begins : BeginsWith state.decided worker.learned
  pub idle : worker.phase ≡ Idle → count number worker.learned ≡ worker.announced
  pub pending : worker.phase ≡ Pending → count number worker.learned + 1 ≡ worker.announced
  pub looked : worker.phase ≡ Looked →
      (count number worker.learned + 1 ≡ worker.announced) × HasRoom size worker
      × (worker.mark ≢ None)
  pub looks : (ticket : Ticket) → worker.phase ≡ Looked → worker.look ≡ Some ticket →
      (ticket.number < announced_by state ticket.worker)
      × (count ticket.worker worker.learned ≡ ticket.number)
  pub proposals : worker.proposals ≤ size.workers + 1

-- the decided places are a well-formed log of announced tickets, and each worker keeps to its law
pub record LogLaw (size : LogSize) (state : ShownState) : Type 0 where
  pub many : length state.workers ≡ size.workers
  pub few : length state.decided ≤ size.places
  pub legal : IsLegal state.decided
  pub announced : (place : ℕ) (ticket : Ticket) → slice_get state.decided place ≡ Some ticket →
      ticket.number < announced_by state ticket.worker
  pub each : (number : ℕ) (worker : WorkerState) → IsWorker state number worker →
      WorkerLaw size state number worker

-- a worker's ticket is helped after a place: at each later place whose turn is that worker's, the
-- ticket stands there or before, and whoever has looked at such a place has looked it up, or it
-- stands before
pub record IsHelped (size : LogSize) (state : ShownState) (ticket : Ticket)
    (from : ℕ) : Type 0 where
  pub decided : (place : ℕ) → from < place → place < length state.decided →
      place % size.workers ≡ ticket.worker → StandsBefore (place + 1) ticket state.decided
  pub looks : (number : ℕ) (worker : WorkerState) →
      IsWorker state number worker → worker.phase ≡ Looked →
      from < length worker.learned → length worker.learned % size.workers ≡ ticket.worker →
      (worker.look ≡ Some ticket) ⊎ StandsBefore (length worker.learned) ticket state.decided

-- a worker has announced a command that it hasn't yet learned at a place
abbrev pub Waits : ℕ → WorkerState → Type 0
Waits number worker = count number worker.learned < worker.announced

-- the helping law: a pending command is helped after its worker's mark, and the worker has proposed
-- at most once at each place since
abbrev pub HelpingLaw : LogSize → ShownState → Type 0
HelpingLaw size state =
    (number : ℕ) (worker : WorkerState) → IsWorker state number worker → Waits number worker →
    (worker.mark ≡ None → worker.proposals ≡ 0)
    × ((mark : ℕ) → worker.mark ≡ Some mark →
    IsHelped size state (ticket_of number (worker.announced - 1)) mark
    × (worker.proposals + mark ≤ length worker.learned))

-- a mark stays where it is until its worker announces again
abbrev pub MarksStay : LogSize → Type 0
MarksStay size =
    (old new : ShownState) (event : ShownEvent) (number mark : ℕ) (before after : WorkerState) →
    Step size old event new → event ≢ announces number → IsWorker old number before →
    IsWorker new number after → before.mark ≡ Some mark → after.mark ≡ Some mark

-- a look is used by one proposal
abbrev pub LooksAreUsed : LogSize → Type 0
LooksAreUsed size = (old new : ShownState) (number : ℕ) (after : WorkerState) →
    Step size old (proposes number) new → IsWorker new number after → after.look ≡ None

-- a command that is announced while d places are decided stands among the first d + `more` places
-- once that many are decided, whatever happens in between and whichever workers stop
abbrev pub IsSoonDecided : ℕ → LogSize → Type 0
IsSoonDecided more size =
    (old announced new : ShownState) (number : ℕ) (events : List ShownEvent) →
    IsReached size old → Step size old (announces number) announced →
    LeadOn size announced events new → length old.decided + more ≤ length new.decided →
    StandsBefore (length old.decided + more) (ticket_of number (announced_by old number))
    new.decided
