-- Whose commands a log holds. The log is that of Herlihy's universal construction (Wait-Free
-- Synchronization, TOPLAS 1991): one list of the commands of all. That each command belongs to a
-- tenant is this project's profile.
use Rattle.std.specs.List.{filter_map}
use Rattle.std.specs.Option.{option_and_then}
use Rattle.std.specs.Prelude.{ℕ, Bool, ◌&&◌, ◌==◌, if◌then◌else◌, List, map, Option, Some, None}
use Rattle.mc_model.specs.declared.command.Command.{Command}
use Rattle.mc_model.specs.declared.id.Ticket.{Ticket}
use Rattle.mc_model.specs.declared.request.Entry.{Entry}

-- What was seen at a place of the log: the ticket that stands there, and the entry that was found
-- for it, if any.
pub record PlaceSighting : Type 0 where
  pub ticket : Ticket
  pub entry : Option Entry

abbrev pub is_ticket : Ticket → Ticket → Bool
is_ticket ticket other = ticket.worker == other.worker && ticket.number == other.number

-- an entry counts only for its own ticket
abbrev pub entry_for : Ticket → Entry → Option Entry
entry_for ticket entry = if is_ticket entry.ticket ticket then Some entry else None

-- the entry of a place as it was seen; an entry of another ticket counts as absent
abbrev pub entry_seen : PlaceSighting → Option Entry
entry_seen seen = option_and_then (entry_for seen.ticket) seen.entry

-- the entries of all places that were seen
abbrev pub entries_seen : List PlaceSighting → List (Option Entry)
entries_seen history = map entry_seen history

-- the command at a place, if its entry is there and is the tenant's
abbrev pub own_command : ℕ → Option Entry → Option Command
own_command tenant None = None
own_command tenant (Some entry) = if entry.tenant == tenant then Some entry.command else None

-- the tenant's own commands, in log order; a place without an entry belongs to nobody
abbrev pub own : ℕ → List (Option Entry) → List Command
own tenant log = filter_map (own_command tenant) log
