-- A worker that has a log to itself.
use Rattle.std.proofs.Common.{◌≡◌, ℕ, zero, suc, ◌+◌, ◌<◌, ◌≤◌, List, [], ◌∷◌, length, take, slice_get, Option, Some, None, sym, refl, ap, ◌∙◌, subst, arith}
use Rattle.std.proofs.lemmas.Option.{none-some}
use Rattle.mc_model.specs.declared.command.Command.{Command}
use Rattle.mc_model.specs.declared.id.Ticket.{Ticket}
use Rattle.mc_model.specs.declared.reply.Reply.{Reply}
use Rattle.mc_model.specs.Legal.{count, ticket_of}
use Rattle.lists.proofs.Public.{beyond, take_more}
use Rattle.model_lemmas.proofs.Tickets.{count_own}
use Rattle.uc_worker.specs.declared.worker.Worker.{Worker}
use Rattle.uc_worker.specs.Worker.{announced_of, seat_of}
use Rattle.mc_conn.specs.Onward.{own_sighting}
use Rattle.mc_conn.specs.Owed.{IsPlaced, IsTurnedAway, Mark}

-- if all tickets are one worker's, a prefix has as many of them as it has places
module _ (tickets : List Ticket) (worker : ℕ) (own : (place : ℕ) (ticket : Ticket) → slice_get tickets place ≡ Some ticket → ticket.worker ≡ worker) where
  count_all : (place : ℕ) → place ≤ length tickets → count worker (take place tickets) ≡ place
  count_all zero few = none_before tickets
    where
      none_before : (some : List Ticket) → count worker (take zero some) ≡ 0
      none_before [] = refl
      none_before (ticket ∷ some) = refl
  count_all (suc place) few = by_found (count_all place (omega (arith, few))) (slice_get tickets place) refl
    where
      by_found : count worker (take place tickets) ≡ place → (found : Option Ticket) → slice_get tickets place ≡ found → count worker (take (suc place) tickets) ≡ suc place
      by_found before None at = absurd (let long = beyond tickets place at in omega arith)
      by_found before (Some ticket) at =
          let through : count worker (take (suc place) tickets) ≡ count worker (take place tickets) + 1 =
          ap (count worker) (take_more tickets place ticket at) ∙ count_own worker (take place tickets) ticket (own place ticket at) in
          omega arith

  pub number_is_place : (place : ℕ) (ticket : Ticket) → slice_get tickets place ≡ Some ticket → count ticket.worker (take place tickets) ≡ ticket.number → ticket.number ≡ place
  number_is_place place ticket at legal =
      let all = count_all place (within tickets place at) in
      sym (subst (λ w. count w (take place tickets) ≡ ticket.number) (own place ticket at) legal) ∙ all
    where
      within : (some : List Ticket) (p : ℕ) → slice_get some p ≡ Some ticket → p ≤ length some
      within [] p at = absurd (none-some ticket at)
      within (x ∷ some) zero at = omega arith
      within (x ∷ some) (suc p) at = let rest = within some p at in omega arith

module _ (worker : Worker) (alone : (seat_of worker).size.workers ≡ 1) where
  -- all tickets are of worker 0
  all_own : (place : ℕ) (ticket : Ticket) → slice_get (seat_of worker).state.learned place ≡ Some ticket → ticket.worker ≡ 0
  all_own place ticket at = let inside = worker.pass.desk.law.inside place ticket at in let few = inside.0 in omega arith

  numbered : (place : ℕ) (ticket : Ticket) → slice_get (seat_of worker).state.learned place ≡ Some ticket → ticket.number ≡ place
  numbered place ticket at = number_is_place (seat_of worker).state.learned 0 all_own place ticket at (worker.pass.desk.law.legal place ticket at)

  pub placed_in_order : (tenant : ℕ) (from to : Mark) (command : Command) (reply : Reply) → (is : IsPlaced worker tenant from command reply to) → is.place ≡ from.number
  placed_in_order tenant from to command reply is =
      sym (numbered is.place (ticket_of (seat_of worker).worker from.number) (worker.follows.tickets is.place (own_sighting worker from.number tenant command) is.stands))

  -- the last place of a full log
  last_before : (tickets : List Ticket) (places number : ℕ) → length tickets ≡ places → (own : (place : ℕ) (ticket : Ticket) → slice_get tickets place ≡ Some ticket → ticket.worker ≡ 0) →
      ((place : ℕ) (ticket : Ticket) → slice_get tickets place ≡ Some ticket → ticket.number ≡ place) →
      ((place : ℕ) (ticket : Ticket) → slice_get tickets place ≡ Some ticket → ticket.number < number) → places ≤ number
  last_before tickets zero number long own numbers before = omega arith
  last_before tickets (suc place) number long own numbers before = by_found (slice_get tickets place) refl
    where
      by_found : (found : Option Ticket) → slice_get tickets place ≡ found → suc place ≤ number
      by_found None at = absurd (let short = beyond tickets place at in omega arith)
      by_found (Some ticket) at = let is = numbers place ticket at in let below = before place ticket at in omega arith

  own_worker : (place : ℕ) (ticket : Ticket) → slice_get (seat_of worker).state.learned place ≡ Some ticket → ticket.worker ≡ (seat_of worker).worker
  own_worker place ticket at =
      let zero_is = all_own place ticket at in
      let mirrors = worker.pass.desk.mirrors in
      let inside = mirrors.inside in
      let number = mirrors.worker in
      let workers = mirrors.workers in
      omega arith

  pub turned_away_last : (tenant : ℕ) (from to : Mark) (command : Command) (reply : Reply) → IsTurnedAway worker tenant from command reply to → (seat_of worker).size.places ≤ from.number
  turned_away_last tenant from to command reply is =
      last_before (seat_of worker).state.learned (seat_of worker).size.places from.number is.full all_own numbered (λ place ticket at. is.before place ticket at (own_worker place ticket at))

  -- if it has learned all places, it has announced as many commands
  pub announced_all : length (seat_of worker).state.learned ≡ (seat_of worker).size.places → (seat_of worker).size.places ≤ length (announced_of worker)
  announced_all full =
      let law = worker.pass.desk.law in
      let last =
      last_before (seat_of worker).state.learned (seat_of worker).size.places (seat_of worker).state.announced full all_own numbered
      (λ place ticket at. law.own place ticket at (own_worker place ticket at))
      in
      let count = worker.pass.count in
      omega (arith, last, count)
