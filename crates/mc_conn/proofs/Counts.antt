-- A worker's tickets that stand in a list, and how many they are.
use Rattle.std.proofs.Common.{◌≡◌, ℕ, ◌+◌, ◌<◌, suc, List, take, slice_get, Some, ap, ◌∙◌, subst, arith}
use Rattle.mc_model.specs.declared.id.Ticket.{Ticket}
use Rattle.mc_model.specs.Legal.{IsLegal, count}
use Rattle.lists.proofs.Public.{take_more}
use Rattle.model_lemmas.proofs.Tickets.{count_front, count_own}

-- in a legal list a worker's tickets have numbers below how many they are
pub number_below : (tickets : List Ticket) (worker place : ℕ) (ticket : Ticket) → IsLegal tickets → slice_get tickets place ≡ Some ticket → ticket.worker ≡ worker →
    ticket.number < count worker tickets
number_below tickets worker place ticket legal at own =
    let before : count worker (take place tickets) ≡ ticket.number = subst (λ w. count w (take place tickets) ≡ ticket.number) own (legal place ticket at) in
    let through : count worker (take (suc place) tickets) ≡ count worker (take place tickets) + 1 =
    ap (count worker) (take_more tickets place ticket at) ∙ count_own worker (take place tickets) ticket own in
    let front = count_front worker (suc place) tickets in
    omega arith
