-- What was seen of a command's cell. In Herlihy's universal construction (Wait-Free
-- Synchronization, TOPLAS 1991) a command's contents are written before it is announced, and read
-- by whoever replays it; that each has a cell which is set once is this project's profile.
use Rattle.std.specs.Prelude.{ℕ, List, map, Option, refl}
use Rattle.std.specs.Coded.{Coded, code_by, coded×, coded_ℕ, coded_option}
use Rattle.std.specs.Option.{option_and_then}
use Rattle.mc_model.specs.contracts.id.Ticket as ticket_row
use Rattle.mc_model.specs.contracts.request.Entry as entry_row
use Rattle.mc_model.specs.declared.id.Ticket.{Ticket}
use Rattle.mc_model.specs.declared.request.Entry.{Entry}
use Rattle.mc_model.specs.Log.{entry_for}

-- the ticket, the entry that counts for it, and the name of the row that has its cell
pub record Sighting : Type 0 where
  pub ticket : Ticket
  pub entry : Option Entry
  pub row : ℕ

abbrev pub sighting : Ticket → Option Entry → ℕ → Sighting
sighting ticket entry row = record { ticket = ticket; entry = entry; row = row }

-- how a sighting is stored as a model's value
abbrev pub coded_sighting : Coded Sighting
coded_sighting =
    code_by (Ticket × (Option Entry × ℕ))
    (coded× ticket_row.the_row.coded (coded× (coded_option entry_row.the_row.coded) coded_ℕ))
    (λ s. (s.ticket, (s.entry, s.row)))
    (λ p. record { ticket = p.0; entry = p.1.0; row = p.1.1 }) (λ _. refl)

-- what a cell's value counts as for a ticket: an entry of another ticket counts as absent
abbrev pub counted : Ticket → Option Entry → Option Entry
counted ticket value = option_and_then (entry_for ticket) value

-- what is known of a cell's value counts as the value does
abbrev pub known_for : Ticket → Option (Option Entry) → Option Entry
known_for ticket found = option_and_then (counted ticket) found

-- the entries that were seen, one after another
abbrev pub entries : List Sighting → List (Option Entry)
entries history = map (λ seen. seen.entry) history
