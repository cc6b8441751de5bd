-- The words that the threads share. Word 0 is the number of workers n and never changes; words 1 to
-- n are how many commands each worker has announced; word n + 1 + p is that of place p: 0 while the
-- place is empty, and then the word of its ticket. Words 1 to n stand for the announce array, and
-- those of places for the consensus objects, of Herlihy's universal construction (Wait-Free
-- Synchronization, TOPLAS 1991); their form is this project's profile.
use Rattle.std.specs.Prelude.{◌≡◌, ℕ, zero, suc, ◌+◌, ◌-◌, ◌*◌, ◌/◌, ◌%◌, ◌<◌, List, length, slice_get, slice_index, Option, Some, None}
use Rattle.mc_model.specs.declared.id.Ticket.{Ticket}
use Rattle.mc_model.specs.declared.shown.LogSize.{LogSize}
use Rattle.mc_model.specs.declared.shown.ShownState.{ShownState}
use Rattle.mc_model.specs.Lawful.{announced_by}
use Rattle.mc_model.specs.Legal.{ticket_of}

-- the word of a ticket, and the ticket of a word
abbrev pub said_word : Ticket → ℕ
said_word ticket = ticket.number * 256 + ticket.worker + 1

abbrev pub said_ticket : ℕ → Ticket
said_ticket word = ticket_of ((word - 1) % 256) ((word - 1) / 256)

-- the word of a place, by what stands there, and what stands at a place, by its word
abbrev pub place_word : Option Ticket → ℕ
place_word None = 0
place_word (Some ticket) = said_word ticket

abbrev pub found_in : ℕ → Option Ticket
found_in zero = None
found_in (suc word) = Some (said_ticket (suc word))

-- the words show this state of the log
pub record Shows (size : LogSize) (words : List ℕ) (log : ShownState) : Type 0 where
  pub wide : length words ≡ 1 + size.workers + size.places
  pub first : slice_index words 0 ≡ size.workers
  pub counts : (number : ℕ) → number < size.workers →
      slice_index words (1 + number) ≡ announced_by log number
  pub places : (place : ℕ) → place < size.places →
      slice_index words (1 + size.workers + place) ≡ place_word (slice_get log.decided place)
