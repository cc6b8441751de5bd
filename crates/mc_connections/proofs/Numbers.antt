-- The numbers under which the commands of requests were announced.
use Rattle.std.proofs.Common.{◌≡◌, ℕ, zero, suc, ◌+◌, ◌<◌, Bool, List, [], ◌∷◌, ◌++◌, length, slice_get, Some, arith, refl, ap, subst, ⊎_elim, append-nil}
use Rattle.mc_conn.specs.Ending.{MayStandBehind, Meets}
use Rattle.mc_conn.specs.Onward.{own_sighting}
use Rattle.mc_conn.specs.declared.conn.Role.{Role}
use Rattle.mc_conn.specs.Owed.{Demand, IsAnswered, Logs, Mark, Owes, OwesFor, Says, demand_of}
use Rattle.mc_model.specs.declared.command.Command.{Command}
use Rattle.mc_model.specs.declared.reply.Reply.{Reply}
use Rattle.mc_model.specs.declared.request.Request.{Request}
use Rattle.mc_connections.specs.Asking.{IsLogged}
use Rattle.uc_worker.specs.declared.worker.Worker.{Worker}
use Rattle.uc_worker.specs.Worker.{announced_of}

-- the request of this place logs a command, which was announced under this number
pub record IsAt (worker : Worker) (role : Role) (number : ℕ) (requests : List Request) (place : ℕ) : Type 0 where
  pub request : Request
  pub at : slice_get requests place ≡ Some request
  pub logged : IsLogged worker role request number

-- the numbers from the low one on and below the high one are those of requests, in their order
pub record Numbers (worker : Worker) (role : Role) (low high : ℕ) (requests : List Request) : Type 0 where
  pub place : ℕ → ℕ
  pub is_at : (i number : ℕ) → number ≡ low + i → number < high → IsAt worker role number requests (place i)
  pub in_order : (i j : ℕ) → i < j → low + j < high → place i < place j

module _ (worker : Worker) (role : Role) where
  none_numbered : (low high : ℕ) (requests : List Request) → high ≡ low → Numbers worker role low high requests
  none_numbered low high requests none = record {
    place = λ i. i;
    is_at = λ i number is below. let no : ⊥ = omega (arith, none, is, below) in absurd no;
    in_order = λ i j less below. less;
  }

  -- one more request in front, of which no number is
  behind_one : (low high : ℕ) (request : Request) (requests : List Request) → Numbers worker role low high requests → Numbers worker role low high (request ∷ requests)
  behind_one low high request requests numbers = record {
    place = λ i. suc (numbers.place i);
    is_at = λ i number is below. let found = numbers.is_at i number is below in record { request = found.request; at = found.at; logged = found.logged };
    in_order = λ i j less below. omega (arith, numbers.in_order i j less below);
  }

  abbrev first_then : (ℕ → ℕ) → ℕ → ℕ
  first_then place zero = 0
  first_then place (suc i) = suc (place i)

  -- one more request in front, of which the low number is
  module _ (low high : ℕ) (request : Request) (requests : List Request) (logged : IsLogged worker role request low)
      (numbers : Numbers worker role (low + 1) high requests) where
    first_at : (i number : ℕ) → number ≡ low + i → number < high → IsAt worker role number (request ∷ requests) (first_then numbers.place i)
    first_at zero number is below =
        subst (λ (number : ℕ). IsAt worker role number (request ∷ requests) 0) (let same : low ≡ number = omega (arith, is) in same)
        (record { request = request; at = refl; logged = logged })
    first_at (suc i) number is below =
        let found = numbers.is_at i number (omega (arith, is)) below in record { request = found.request; at = found.at; logged = found.logged }

    first_in_order : (i j : ℕ) → i < j → low + j < high → first_then numbers.place i < first_then numbers.place j
    first_in_order i zero less below = let no : ⊥ = omega (arith, less) in absurd no
    first_in_order zero (suc j) less below = omega arith
    first_in_order (suc i) (suc j) less below = omega (arith, numbers.in_order i j (omega (arith, less)) (omega (arith, below)))

    behind_first : Numbers worker role low high (request ∷ requests)
    behind_first = record { place = first_then numbers.place; is_at = first_at; in_order = first_in_order }

  -- one more request in front, which logs a command and has its answer
  behind_answer : (from next : Mark) (high : ℕ) (request : Request) (requests : List Request) (tenant : ℕ) (command : Command) (quiet : Bool) (reply : Reply) →
      demand_of role request ≡ Logs tenant command quiet → IsAnswered worker tenant from command reply next → Numbers worker role next.number high requests →
      Numbers worker role from.number high (request ∷ requests)
  behind_answer from next high request requests tenant command quiet reply logs is numbers =
      let one_on = λ (step : next.number ≡ from.number + 1). subst (λ (low : ℕ). Numbers worker role low high requests) step numbers in
      let logged : slice_get (announced_of worker) from.number ≡ Some (own_sighting worker from.number tenant command) → IsLogged worker role request from.number =
      λ announced. record { tenant = tenant; command = command; quiet = quiet; logs = logs; announced = announced }
      in
      ⊎_elim
      (λ placed. behind_first from.number high request requests (logged placed.announced) (one_on (ap (λ (mark : Mark). mark.number) placed.next)))
      (λ away.
      ⊎_elim
      (λ same. behind_one from.number high request requests (subst (λ (mark : Mark). Numbers worker role mark.number high requests) same numbers))
      (λ announced. behind_first from.number high request requests (logged announced.0) (one_on (ap (λ (mark : Mark). mark.number) announced.1)))
      away.next)
      is

  -- one more request in front, which comes to this
  behind_demand : (from : Mark) (high : ℕ) (request : Request) (requests : List Request) (demand : Demand) (bytes : List ℕ) (Later : Mark → List ℕ → Type 0) →
      demand_of role request ≡ demand → ((next : Mark) (rest : List ℕ) → Later next rest → Numbers worker role next.number high requests) →
      OwesFor worker from demand bytes Later → Numbers worker role from.number high (request ∷ requests)
  behind_demand from high request requests (Logs tenant command quiet) bytes Later comes later (reply, next, rest, is, are, more) =
      behind_answer from next high request requests tenant command quiet reply comes is (later next rest more)
  behind_demand from high request requests (Says said) bytes Later comes later (rest, are, more) =
      behind_one from.number high request requests (later from rest more)

  -- the numbers of what is owed, and then those of the requests after it
  pub owed_numbers : (from to : Mark) (high : ℕ) (requests tail : List Request) (bytes : List ℕ) → Owes worker role from requests bytes to →
      Numbers worker role to.number high tail → Numbers worker role from.number high (requests ++ tail)
  owed_numbers from to high [] tail bytes owes numbers = subst (λ (low : ℕ). Numbers worker role low high tail) owes.1 numbers
  owed_numbers from to high (request ∷ requests) tail bytes owes numbers =
      behind_demand from high request (requests ++ tail) (demand_of role request) bytes (λ next rest. Owes worker role next requests rest to) refl
      (λ next rest more. owed_numbers next to high requests tail rest more numbers) owes

  -- the number of a request that met a fault, where it has one
  met_demand : (mark : Mark) (request : Request) (others : List Request) (demand : Demand) → demand_of role request ≡ demand → MayStandBehind worker mark demand →
      Numbers worker role mark.number (length (announced_of worker)) (request ∷ others)
  met_demand mark request others (Logs tenant command quiet) comes meets =
      ⊎_elim
      (λ none. none_numbered mark.number _ (request ∷ others) none)
      (λ one.
      behind_first mark.number _ request others (record { tenant = tenant; command = command; quiet = quiet; logs = comes; announced = one.1 })
      (none_numbered (mark.number + 1) _ others one.0))
      meets
  met_demand mark request others (Says said) comes meets = none_numbered mark.number _ (request ∷ others) meets

  pub met_numbers : (mark : Mark) (met : List Request) → Meets worker role mark met → Numbers worker role mark.number (length (announced_of worker)) met
  met_numbers mark [] meets = none_numbered mark.number _ [] meets
  met_numbers mark (request ∷ others) meets = met_demand mark request others (demand_of role request) refl meets.1

  pub taken_numbers : (from to : Mark) (requests : List Request) (bytes : List ℕ) → Owes worker role from requests bytes to →
      Numbers worker role from.number to.number requests
  taken_numbers from to requests bytes owes =
      subst (Numbers worker role from.number to.number) (append-nil requests) (owed_numbers from to to.number requests [] bytes owes (none_numbered to.number to.number [] refl))
