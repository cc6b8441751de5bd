-- How many of a worker's tickets stand in a list, in its fronts and in longer lists, and legal
-- lists that grow.
use Rattle.std.proofs.Common.{◌≡◌, ◌≢◌, ℕ, zero, suc, ◌+◌, ◌<◌, ◌≤◌, ◌==◌, Bool, cond, List, [], ◌∷◌, ◌++◌, length, take, take_all, sym, refl, ap, ◌∙◌, subst, ⊎_elim, arith, eq-eqb, ne_eqb, slice_get, Option, Some, None}
use Rattle.std.proofs.lemmas.List.{take-append-le}
use Rattle.std.proofs.lemmas.List.Sums.{sum_by_push, sum_by-append, sum_by-take-le}
use Rattle.std.proofs.Math.Decide.{ℕ_discrete, dec_le}
use Rattle.std.proofs.Math.Logic.{dite}
use Rattle.mc_model.specs.declared.id.Ticket.{Ticket}
use Rattle.lists.specs.Lists.{BeginsWith}
use Rattle.mc_model.specs.Legal.{IsLegal, StandsBefore, count, ticket_of}
use Rattle.lists.proofs.Public.{at_pushed, beyond, take_front, take_longer, take_more}

-- what a ticket adds to its worker's count
abbrev adds : ℕ → Ticket → ℕ
adds worker ticket = cond (ticket.worker == worker) 1 0

-- one more ticket: of the worker, and of another
pub count_own : (worker : ℕ) (tickets : List Ticket) (ticket : Ticket) → ticket.worker ≡ worker →
    count worker (tickets ++ ticket ∷ []) ≡ count worker tickets + 1
count_own worker tickets ticket own = sum_by_push (adds worker) tickets ticket
    ∙ ap (λ (b : Bool). count worker tickets + cond b 1 0) (eq-eqb ticket.worker worker own)

pub count_other : (worker : ℕ) (tickets : List Ticket) (ticket : Ticket) → ticket.worker ≢ worker →
    count worker (tickets ++ ticket ∷ []) ≡ count worker tickets
count_other worker tickets ticket other =
    let pushed : count worker (tickets ++ ticket ∷ []) ≡ count worker tickets + 0 = sum_by_push (adds worker) tickets ticket
    ∙ ap (λ (b : Bool). count worker tickets + cond b 1 0) (ne_eqb ticket.worker worker other) in
    omega arith

-- a front has no more than the list
pub count_front : (worker end : ℕ) (tickets : List Ticket) → count worker (take end tickets) ≤ count worker tickets
count_front worker end tickets = sum_by-take-le (adds worker) tickets end

pub count_begins : (worker : ℕ) (tickets front : List Ticket) → BeginsWith tickets front → count worker front ≤ count worker tickets
count_begins worker tickets front begins =
    let both : count worker (front ++ begins.0) ≡ count worker front + count worker begins.0 = sum_by-append (adds worker) front begins.0 in
    let same = ap (count worker) begins.1 in omega arith

-- who knows the places before an end knows the tickets there
pub count_known : (worker end : ℕ) (tickets front : List Ticket) → BeginsWith tickets front → end ≤ length front →
    count worker (take end tickets) ≤ count worker front
count_known worker end tickets front begins far =
    let same = ap (λ (some : List Ticket). count worker (take end some)) begins.1 in
    let left = ap (count worker) (take-append-le end front begins.0 far) in let least = count_front worker end front in omega arith

-- a legal list stays legal with the ticket that comes next of its worker
pub legal_push : (tickets : List Ticket) (ticket : Ticket) → IsLegal tickets → count ticket.worker tickets ≡ ticket.number → IsLegal (tickets ++ ticket ∷ [])
legal_push tickets ticket legal next place found at = ⊎_elim
    (λ (before : slice_get tickets place ≡ Some found). ap (count found.worker) (take_longer tickets place found (ticket ∷ []) before) ∙ legal place found before)
    (λ (last : (place ≡ length tickets) × (ticket ≡ found)).
    subst (λ (z : ℕ × Ticket). count z.1.worker (take z.0 (tickets ++ ticket ∷ [])) ≡ z.1.number) (λ i. (sym last.0 i, last.1 i))
    (ap (count ticket.worker) (take_front tickets (ticket ∷ [])) ∙ next))
    (at_pushed tickets ticket found place at)

-- where a worker has more than k tickets in a front of a legal list, its ticket k stands there
pub stands : (tickets : List Ticket) (worker number end : ℕ) → IsLegal tickets → number < count worker (take end tickets) →
    StandsBefore end (ticket_of worker number) tickets
stands tickets worker number zero legal more = absurd (let none : count worker (take zero tickets) ≡ 0 = none_before tickets in omega arith)
  where
    none_before : (some : List Ticket) → count worker (take zero some) ≡ 0
    none_before [] = refl
    none_before (ticket ∷ some) = refl
stands tickets worker number (suc end) legal more = by_last (stands tickets worker number end legal) (slice_get tickets end) refl
  where
    later : StandsBefore end (ticket_of worker number) tickets → StandsBefore (suc end) (ticket_of worker number) tickets
    later before = let below = before.1 in (before.0, omega arith, before.2)

    at_last : (number < count worker (take end tickets) → StandsBefore end (ticket_of worker number) tickets) →
        (ticket : Ticket) → slice_get tickets end ≡ Some ticket →
        Dec (suc number ≤ count worker (take end tickets)) → StandsBefore (suc end) (ticket_of worker number) tickets
    at_last before ticket at (yes enough) = later (before enough)
    at_last before ticket at (no few) = let one_more = ap (count worker) (take_more tickets end ticket at) in dite (ℕ_discrete ticket.worker worker)
        (λ own. let grown = count_own worker (take end tickets) ticket own in
        let own_number : count worker (take end tickets) ≡ ticket.number =
        ap (λ (some : ℕ). count some (take end tickets)) (sym own) ∙ legal end ticket at in
        let same : ticket.number ≡ number = omega arith in
        (end, omega arith, at ∙ (λ i. Some (ticket_of (own i) (same i)))))
        (λ other. let stays = count_other worker (take end tickets) ticket other in absurd (omega arith))

    by_last : (number < count worker (take end tickets) → StandsBefore end (ticket_of worker number) tickets) →
        (found : Option Ticket) → slice_get tickets end ≡ found → StandsBefore (suc end) (ticket_of worker number) tickets
    by_last before None empty =
        let out = beyond tickets end empty in
        let same : count worker (take (suc end) tickets) ≡ count worker (take end tickets) =
        ap (count worker) (take_all (suc end) tickets (omega arith) ∙ sym (take_all end tickets out)) in
        later (before (omega arith))
    by_last before (Some ticket) at = at_last before ticket at (dec_le (suc number) (count worker (take end tickets)))
