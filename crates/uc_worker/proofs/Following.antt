-- Histories follow the learned lists.
use Rattle.std.proofs.Common.{◌≡◌, ◌⊎◌, ◌≤◌, ◌<◌, ℕ, ◌+◌, List, [], ◌∷◌, ◌++◌, length, length-append, slice_get, Some, Result, Ok, Err, OnOk, OnErr, sym, ap, ◌∙◌, subst, ⊎_elim, arith}
use Rattle.std.proofs.lemmas.Option.{same_Some}
use Rattle.mc_model.specs.declared.id.Ticket.{Ticket}
use Rattle.lists.specs.Lists.{BeginsWith}
use Rattle.mc_replica.specs.Replica.{SameCells}
use Rattle.uc_cells.specs.Sighting.{Sighting}
use Rattle.uc_log.specs.declared.log.Log.{Log}
use Rattle.uc_log.specs.Passes.{row_of}
use Rattle.uc_worker.specs.Histories.{Follows}
use Rattle.lists.proofs.Public.{at_longer, at_pushed}

-- one more place is replayed
pub follows_pushed : (log : Log) (history new : List Sighting) (learned : List Ticket) (seen : Sighting) (place : ℕ) → new ≡ history ++ seen ∷ [] →
    Follows log history learned → length history ≡ place → slice_get learned place ≡ Some seen.ticket → seen.row ≡ row_of log seen.ticket → Follows log new learned
follows_pushed log history new learned seen place pushed follows here ticket row = record {
  tickets = λ p s at. ⊎_elim (follows.tickets p s) (λ (end : (p ≡ length history) × (seen ≡ s)). ap (slice_get learned) (end.0 ∙ here)
      ∙ (ticket ∙ ap (λ (x : Sighting). Some x.ticket) end.1)) (by_end p s at);
  rows = λ p s at. ⊎_elim (follows.rows p s) (λ (end : (p ≡ length history) × (seen ≡ s)). subst (λ (x : Sighting). x.row ≡ row_of log x.ticket) end.1 row) (by_end p s at);
}
  where
    by_end : (p : ℕ) (s : Sighting) → slice_get new p ≡ Some s → (slice_get history p ≡ Some s) ⊎ ((p ≡ length history) × (seen ≡ s))
    by_end p s at = at_pushed history seen s p (ap (λ (list : List Sighting). slice_get list p) (sym pushed) ∙ at)

-- more is learned
pub follows_longer : (log : Log) (history : List Sighting) (learned more : List Ticket) → BeginsWith more learned → Follows log history learned → Follows log history more
follows_longer log history learned more begins follows = record {
  tickets = λ p s at. ap (λ (list : List Ticket). slice_get list p) begins.1 ∙ at_longer learned begins.0 p s.ticket (follows.tickets p s at);
  rows = follows.rows;
}

-- two histories that follow one learned list saw the same cells
pub same_cells : (log : Log) (ones others : List Sighting) (learned same_learned : List Ticket) → learned ≡ same_learned →
    Follows log ones learned → Follows log others same_learned → SameCells ones others
same_cells log ones others learned same_learned is first second place one other at there =
    let same : one.ticket ≡ other.ticket = same_Some one.ticket other.ticket (sym (first.tickets place one at)
    ∙ (ap (λ (list : List Ticket). slice_get list place) is ∙ second.tickets place other there)) in
    (same, first.rows place one at ∙ (ap (row_of log) same ∙ sym (second.rows place other there)))

pub one_longer : (history new : List Sighting) (seen : Sighting) (place : ℕ) → new ≡ history ++ seen ∷ [] → length history ≡ place → length new ≡ place + 1
one_longer history new seen place pushed here = ap length pushed ∙ (length-append history (seen ∷ []) ∙ ap (λ (n : ℕ). n + 1) here)

-- a place is replayed, or memory ran out and nothing has changed
pub follows_replayed : {T E R : Type 0} (result : Result T E) (log : Log) (history new : List Sighting) (learned : List Ticket) (seen : Sighting) (place : ℕ) →
    OnOk result (new ≡ history ++ seen ∷ []) → OnErr result R → (R → new ≡ history) →
    Follows log history learned → length history ≡ place → slice_get learned place ≡ Some seen.ticket → seen.row ≡ row_of log seen.ticket → Follows log new learned
follows_replayed (Ok done) log history new learned seen place pushed same as_old follows here ticket row =
    follows_pushed log history new learned seen place pushed follows here ticket row
follows_replayed (Err fault) log history new learned seen place pushed same as_old follows here ticket row =
    subst (λ (list : List Sighting). Follows log list learned) (sym (as_old same)) follows

pub short_replayed : {T E R : Type 0} (result : Result T E) (history new : List Sighting) (seen : Sighting) (place bound : ℕ) →
    OnOk result (new ≡ history ++ seen ∷ []) → OnErr result R → (R → new ≡ history) → length history ≡ place → place < bound → length new ≤ bound
short_replayed (Ok done) history new seen place bound pushed same as_old here below = let longer = one_longer history new seen place pushed here in omega (arith, longer, below)
short_replayed (Err fault) history new seen place bound pushed same as_old here below = let still = ap length (as_old same) in omega (arith, still, here, below)
