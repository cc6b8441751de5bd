-- A ticket stands in a history or nowhere there, so what is settled stands there.
use Rattle.std.proofs.Common.{◌≡◌, ◌≢◌, ◌⊎◌, ◌≤◌, ◌∙◌, ℕ, zero, suc, List, [], ◌∷◌, Some, slice_get, inl, inr, ⊎_elim, ap, refl, arith}
use Rattle.std.proofs.Math.Decide.{dec_le}
use Rattle.std.proofs.lemmas.Option.{none-some, same_Some}
use Rattle.mc_model.specs.declared.id.Ticket.{Ticket}
use Rattle.mc_model.specs.Legal.{ticket_of}
use Rattle.uc_cells.specs.Sighting.{Sighting}
use Rattle.uc_refinement.specs.Refinement.{SettledCommandsAreReplayed}
use Rattle.uc_worker.specs.Worker.{history_of, seat_of}

same_number : (one other : ℕ) → (one ≡ other) ⊎ (one ≢ other)
same_number one other = by_order (dec_le one other) (dec_le other one)
  where
    by_order : Dec (one ≤ other) → Dec (other ≤ one) → (one ≡ other) ⊎ (one ≢ other)
    by_order (yes below) (yes above) = inl (omega (arith, below, above))
    by_order (yes below) (no above) = inr (λ same. above (omega (arith, same)))
    by_order (no below) above = inr (λ same. below (omega (arith, same)))

same_ticket : (one other : Ticket) → (one ≡ other) ⊎ (one ≢ other)
same_ticket one other = ⊎_elim
    (λ worker. ⊎_elim
    (λ number. inl (λ i. record { worker = worker i; number = number i }))
    (λ apart. inr (λ same. apart (ap (λ (ticket : Ticket). ticket.number) same)))
    (same_number one.number other.number))
    (λ apart. inr (λ same. apart (ap (λ (ticket : Ticket). ticket.worker) same)))
    (same_number one.worker other.worker)

abbrev Stands : Ticket → List Sighting → Type 0
Stands ticket history = (place : ℕ) × (seen : Sighting) × (slice_get history place ≡ Some seen) × (seen.ticket ≡ ticket)

abbrev IsAbsent : Ticket → List Sighting → Type 0
IsAbsent ticket history = (place : ℕ) (seen : Sighting) → slice_get history place ≡ Some seen → seen.ticket ≢ ticket

find : (ticket : Ticket) (history : List Sighting) → Stands ticket history ⊎ IsAbsent ticket history
find ticket [] = inr (λ place seen at same. none-some seen at)
find ticket (x ∷ history) = ⊎_elim
    (λ same. inl (0, x, refl, same))
    (λ apart. ⊎_elim
    (λ found. inl (suc found.0, found.1, found.2, found.3))
    (λ absent. inr (nowhere apart absent))
    (find ticket history))
    (same_ticket x.ticket ticket)
  where
    nowhere : x.ticket ≢ ticket → IsAbsent ticket history → IsAbsent ticket (x ∷ history)
    nowhere apart absent zero seen at = λ same. apart (ap (λ (it : Sighting). it.ticket) (same_Some x seen at) ∙ same)
    nowhere apart absent (suc place) seen at = absent place seen at

pub settled_commands_are_replayed : SettledCommandsAreReplayed
settled_commands_are_replayed worker number settled announced = ⊎_elim
    (λ stands. stands)
    (λ absent. absurd (settled (ticket_of (seat_of worker).worker number) (record { own = refl; announced = announced; absent = absent })))
    (find (ticket_of (seat_of worker).worker number) (history_of worker))
