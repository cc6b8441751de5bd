-- A worker's commands stand in the order of their numbers.
use Rattle.std.proofs.Common.{◌≡◌, ◌<◌, ◌≤◌, ℕ, List, Bool, Some, length, length-append, slice_get, take, ap, arith, sym, ◌∙◌, ⊎_elim}
use Rattle.std.proofs.lemmas.Bool.{cases_lt}
use Rattle.std.proofs.lemmas.List.{take-take}
use Rattle.lists.proofs.Public.{at_longer}
use Rattle.lists.specs.Lists.{BeginsWith}
use Rattle.mc_conn.specs.Onward.{own_sighting}
use Rattle.mc_model.specs.declared.command.Command.{Command}
use Rattle.mc_model.specs.Legal.{IsLegal, count, ticket_of}
use Rattle.mc_model.specs.declared.id.Ticket.{Ticket}
use Rattle.model_lemmas.proofs.Tickets.{count_front}
use Rattle.mc_connections.specs.Working.{Standing, Works}
use Rattle.mc_server.specs.CoreRuns.{AnnouncesInServedOrder, StandsAt}
use Rattle.uc_worker.specs.Cited.{Sighting}
use Rattle.uc_worker.specs.Going.{Continues}
use Rattle.uc_worker.specs.Worker.{announced_of, history_of}
use Rattle.uc_worker.specs.declared.worker.Worker.{Worker}

-- as many of a worker's tickets stand before each as its number says
pub legal_order : (tickets : List Ticket) → IsLegal tickets → (number first second place later : ℕ) → first < second →
    slice_get tickets place ≡ Some (ticket_of number first) → slice_get tickets later ≡ Some (ticket_of number second) → place < later
legal_order tickets legal number first second place later less one other =
    ⊎_elim
    (λ (before : place < later). before)
    (λ (behind : later ≤ place).
    let fewer = count_front number later (take place tickets) in
    let same = ap (count number) (take-take later place tickets behind) in
    let early = legal place (ticket_of number first) one in
    let late = legal later (ticket_of number second) other in
    let no : ⊥ = omega (arith, fewer, same, early, late, less) in absurd no)
    (cases_lt place later)

pub served_in_order : ((until : Bool) (a b : Standing) → Works until a b → Continues a.worker b.worker) → AnnouncesInServedOrder
served_in_order onward until early late first second works below above =
    let more : BeginsWith (announced_of late.worker) (announced_of early.worker) = (onward until early late works).announced in
    let long = ap (λ (list : List Sighting). length list) more.1 in
    let both = length-append (announced_of early.worker) more.0 in
    omega (arith, long, both, below, above)

-- what a worker has replayed stands in a run's log in which that worker, later on, is decided
pub stands_decided : (log : List Ticket) (early late : Worker) → Continues early late →
    ((place : ℕ) (seen : Sighting) → slice_get (history_of late) place ≡ Some seen → slice_get log place ≡ Some seen.ticket) →
    (place number tenant : ℕ) (command : Command) → slice_get (history_of early) place ≡ Some (own_sighting early number tenant command) → StandsAt log late place number
stands_decided log early late on decided place number tenant command at =
    decided place (own_sighting early number tenant command)
    (ap (λ (list : List Sighting). slice_get list place) on.history.1 ∙ at_longer (history_of early) on.history.0 place _ at)
    ∙ ap (λ (worker : ℕ). Some (ticket_of worker number)) (sym on.same.1)
