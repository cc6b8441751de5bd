-- What was read so far is the beginning of whatever list the words encode.
use Rattle.std.proofs.Common.{◌≡◌, List, take}
use Rattle.core.specs.Mem.Slots.{slots_items}
use Rattle.mc_model.specs.declared.id.Ticket.{Ticket}
use Rattle.uc_places.specs.Desk.{Spells}
use Rattle.uc_places.proofs.whole.decided.Given as goal

abbrev pub invariant-loop-place : goal.invariant-loop-place
invariant-loop-place l = (tickets : List Ticket) → Spells (slots_items l.closed.words) l.first l.places tickets → l.log.items ≡ take l.place tickets
