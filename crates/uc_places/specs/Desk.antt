-- What a seat knows, as the numbers that code keeps, and what words encode; this project's profile.
use Rattle.std.specs.Prelude.{◌≡◌, ◌≢◌, ℕ, ◌+◌, ◌-◌, ◌<◌, ◌≤◌, ◌==◌, ◌&&◌, Bool, List, length, slice_get, slice_index, slice_set, ltb, if◌then◌else◌, Some}
use Rattle.mc_model.specs.declared.id.TheConstants.{WORKERS}
use Rattle.mc_model.specs.declared.id.Ticket.{Ticket}
use Rattle.mc_model.specs.declared.shown.Phase.{Phase}
use Rattle.mc_model.specs.declared.shown.Phase.TheVariants.{Idle, Looked}
use Rattle.mc_model.specs.Legal.{count, ticket_of}
use Rattle.mc_model.specs.Shown.{marked, proposal}
use Rattle.uc_places.specs.declared.desk.Numbers.{Numbers}
use Rattle.uc_places.specs.declared.view.Kind.TheVariants.{Seated}
use Rattle.uc_places.specs.declared.view.View.{View}
use Rattle.uc_places.specs.Rule.{IsSmall}
use Rattle.uc_places.specs.Words.{place_word, said_ticket, said_word}

-- the numbers are those of the seat's view
pub record Mirrors (view : View) (numbers : Numbers) : Type 0 where
  pub seated : view.kind ≡ Seated
  pub small : IsSmall view.size
  pub workers : view.size.workers ≡ numbers.workers
  pub places : view.size.places ≡ numbers.places
  pub worker : view.worker ≡ numbers.worker
  pub inside : numbers.worker < numbers.workers
  pub learned : length view.state.learned ≡ numbers.learned
  pub few : numbers.learned ≤ view.size.places
  pub announced : view.state.announced ≡ numbers.announced
  pub announced_few : numbers.announced ≤ 1048576
  pub proposals : view.state.proposals ≡ numbers.proposals
  pub proposals_few : numbers.proposals ≤ numbers.learned
  pub proposals_helped : numbers.proposals ≤ numbers.workers + 1
  pub mark : view.state.mark ≡ numbers.mark
  pub phase : view.state.phase ≡ numbers.phase
  pub word : view.state.phase ≡ Looked →
      numbers.proposal ≡ said_word (proposal view.worker view.state)
  pub proposes : view.state.phase ≡ Looked → (proposal view.worker view.state).worker < WORKERS
  pub room : view.state.phase ≡ Looked → numbers.learned < view.size.places
  pub wide : length numbers.counts ≡ 16
  pub counts : (worker : ℕ) → worker < 16 →
      slice_index numbers.counts worker ≡ count worker view.state.learned

-- the next place becomes the mark of a pending worker that has none
abbrev pub marked_here : Numbers → Numbers
marked_here numbers = record numbers { mark = marked numbers.phase numbers.mark numbers.learned }

-- the ticket is that of the command that the worker announced last
abbrev pub owns : Numbers → Ticket → Bool
owns numbers ticket =
    ticket.worker == numbers.worker && ticket.number + 1 == numbers.announced

-- one more ticket is learned: the worker becomes idle if the ticket is its own, and otherwise takes
-- the given phase
abbrev pub learned_one : Numbers → Ticket → Phase → Numbers
learned_one numbers ticket phase = record numbers {
  learned = numbers.learned + 1;
  phase = if owns numbers ticket then Idle else phase;
  counts = slice_set numbers.counts ticket.worker (slice_index numbers.counts ticket.worker + 1);
}

-- the ticket to propose where this many commands were found of the worker whose turn it is
abbrev pub ticket_for : Numbers → ℕ → ℕ → Ticket
ticket_for numbers turn found =
    if ltb (slice_index numbers.counts turn) found
    then ticket_of turn (slice_index numbers.counts turn)
    else ticket_of numbers.worker (numbers.announced - 1)

-- the words at the opening
pub record IsBlank (words : List ℕ) (workers places : ℕ) : Type 0 where
  pub wide : length words ≡ 1 + workers + places
  pub first : slice_index words 0 ≡ workers
  pub blank : (i : ℕ) → 0 < i → i < length words → slice_index words i ≡ 0

-- the words of the places encode this list, and those after it are 0
pub record Spells (words : List ℕ) (first places : ℕ) (tickets : List Ticket) : Type 0 where
  pub few : length tickets ≤ places
  pub at : (place : ℕ) → place < places →
      slice_index words (first + place) ≡ place_word (slice_get tickets place)
  pub small : (place : ℕ) (ticket : Ticket) → slice_get tickets place ≡ Some ticket →
      ticket.worker < WORKERS

-- each word of a decided place encodes some worker's ticket
abbrev pub AreTickets : List ℕ → ℕ → ℕ → Type 0
AreTickets words first places =
    (place : ℕ) → place < places → slice_index words (first + place) ≢ 0 →
    (said_ticket (slice_index words (first + place))).worker < WORKERS
