-- Tickets, and the lists of them that a log can have. A ticket names a command by the worker that
-- announced it and by how many commands that worker had announced before: the cell that a process
-- threads onto the list (Herlihy, Wait-Free Synchronization, TOPLAS 1991, the universal
-- construction).
use Rattle.std.specs.Prelude.{◌≡◌, ℕ, ◌<◌, ◌==◌, List, take, Some, slice_get}
use Rattle.std.specs.List.{count_by}
use Rattle.mc_model.specs.declared.id.Ticket.{Ticket}

-- the worker's command of this number, from 0
abbrev pub ticket_of : ℕ → ℕ → Ticket
ticket_of worker number = record { worker = worker; number = number }

-- the number of the worker's tickets in the list
abbrev pub count : ℕ → List Ticket → ℕ
count worker tickets = count_by (λ (ticket : Ticket). ticket.worker == worker) tickets

-- the list is well-formed: each worker's tickets stand in the order of their numbers, none left
-- out, so that exactly k of a worker's tickets stand before its number k, and no ticket stands
-- twice
abbrev pub IsLegal : List Ticket → Type 0
IsLegal tickets = (place : ℕ) (ticket : Ticket) → slice_get tickets place ≡ Some ticket →
    count ticket.worker (take place tickets) ≡ ticket.number

-- the ticket stands before this place
abbrev pub StandsBefore : ℕ → Ticket → List Ticket → Type 0
StandsBefore end ticket tickets =
    (place : ℕ) × (place < end) × (slice_get tickets place ≡ Some ticket)
