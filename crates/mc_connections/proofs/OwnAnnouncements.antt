-- Two answers have two announcements: the number of a command that was answered is that of the mark
-- from which its requests were taken and how many before it are logged.
use Rattle.std.proofs.Common.{◌≡◌, ◌≢◌, ◌∙◌, ℕ, ◌+◌, ◌<◌, ◌≤◌, Bool, true, cond, List, [], ◌∷◌, ◌++◌, length, slice_get, Some, ap, arith, refl, sym, subst, ⊎_elim, append_assoc, length-append}
use Rattle.std.proofs.lemmas.Option.{same_Some, slice_get_within}
use Rattle.lists.proofs.Public.{begins_longer, begins_through}
use Rattle.lists.specs.Lists.{BeginsWith}
use Rattle.mc_conn.specs.Onward.{own_sighting}
use Rattle.mc_conn.specs.Owed.{Demand, IsAnswered, Logs, Mark, Owes, OwesFor, Says, count_logged, demand_of, is_logged, mark_of}
use Rattle.mc_conn.specs.declared.conn.Role.{Role}
use Rattle.mc_model.specs.Legal.{ticket_of}
use Rattle.mc_model.specs.declared.command.Command.{Command}
use Rattle.mc_model.specs.declared.reply.Reply.{Reply}
use Rattle.mc_model.specs.declared.request.Request.{Request}
use Rattle.mc_connections.specs.Seen.{IsAnsweredAmong, ServesAndAnswers, announced_number, history_place}
use Rattle.mc_connections.proofs.EachAnswered.{rest_of}
use Rattle.mc_connections.proofs.SeenInOrder.{owes_onward}
use Rattle.uc_worker.specs.Cited.{Sighting}
use Rattle.uc_worker.specs.Going.{Continues}
use Rattle.uc_worker.specs.Worker.{announced_of, history_of, seat_of}
use Rattle.uc_worker.specs.declared.worker.Worker.{Worker}

-- how many a demand counts as
abbrev count_of : Bool → ℕ
count_of is_one = cond is_one 1 0

-- The worker's command of a number stands in its history.
module _ (worker : Worker) (role : Role) (place number tenant : ℕ) (command : Command)
    (stands : slice_get (history_of worker) place ≡ Some (own_sighting worker number tenant command)) where
  -- so each that was answered before it has a number too: the log wasn't full for them
  numbered_answer : (from next : Mark) (other : ℕ) (asked : Command) (reply : Reply) → IsAnswered worker other from asked reply next → from.number ≤ number →
      next.number ≡ from.number + 1
  numbered_answer from next other asked reply is low =
      ⊎_elim
      (λ placed. ap (λ (mark : Mark). mark.number) placed.next)
      (λ away.
      let learned = worker.follows.tickets place (own_sighting worker number tenant command) stands in
      let below : number < from.number = away.before place (ticket_of (seat_of worker).worker number) learned refl in
      let no : ⊥ = omega (arith, below, low) in
      absurd no)
      is

  numbered_demand : (from to : Mark) (request : Request) (requests : List Request) (demand : Demand) (bytes : List ℕ) (Later : Mark → List ℕ → Type 0) → demand_of role request ≡ demand →
      ((next : Mark) (rest : List ℕ) → Later next rest → to.number ≡ next.number + count_logged role requests) → from.number ≤ number → OwesFor worker from demand bytes Later →
      to.number ≡ from.number + count_logged role (request ∷ requests)
  numbered_demand from to request requests (Logs other asked quiet) bytes Later comes later low (reply, next, rest, is, are, more) =
      let one : count_of (is_logged (demand_of role request)) ≡ 1 = ap (λ (demand : Demand). count_of (is_logged demand)) comes in
      omega (arith, later next rest more, one, numbered_answer from next other asked reply is low)
  numbered_demand from to request requests (Says said) bytes Later comes later low (rest, are, more) =
      let none : count_of (is_logged (demand_of role request)) ≡ 0 = ap (λ (demand : Demand). count_of (is_logged demand)) comes in
      omega (arith, later from rest more, none)

  -- the mark to which it owes, where that is the number's
  numbered : (from to : Mark) (requests : List Request) (bytes : List ℕ) → to.number ≡ number → Owes worker role from requests bytes to →
      to.number ≡ from.number + count_logged role requests
  numbered from to [] bytes at owes = omega (arith, owes.1)
  numbered from to (request ∷ requests) bytes at owes =
      numbered_demand from to request requests (demand_of role request) bytes (λ next rest. Owes worker role next requests rest to) refl
      (λ next rest more. numbered next to requests rest at more) (omega (arith, at, (owes_onward worker role from to (request ∷ requests) bytes owes).0)) owes

  -- what is owed for a request that is to be logged, where the number is that of its mark, goes beyond it
  first_reaches : (from to : Mark) (requests : List Request) (demand : Demand) (bytes : List ℕ) → is_logged demand ≡ true → number ≡ from.number →
      OwesFor worker from demand bytes (λ next rest. Owes worker role next requests rest to) → number < to.number
  first_reaches from to requests (Logs other asked quiet) bytes logged at (reply, next, rest, is, are, more) =
      omega (arith, at, numbered_answer from next other asked reply is (omega (arith, at)), (owes_onward worker role next to requests rest more).0)
  first_reaches from to requests (Says said) bytes logged at owes = cc

  later_reaches : (from to : Mark) (request : Request) (front : List Request) (demand : Demand) (bytes : List ℕ) (Later : Mark → List ℕ → Type 0) → demand_of role request ≡ demand →
      ((next : Mark) (rest : List ℕ) → Later next rest → number ≡ next.number + count_logged role front → number < to.number) →
      number ≡ from.number + count_logged role (request ∷ front) → OwesFor worker from demand bytes Later → number < to.number
  later_reaches from to request front (Logs other asked quiet) bytes Later comes later at (reply, next, rest, is, are, more) =
      let one : count_of (is_logged (demand_of role request)) ≡ 1 = ap (λ (demand : Demand). count_of (is_logged demand)) comes in
      later next rest more (omega (arith, at, one, numbered_answer from next other asked reply is (omega (arith, at))))
  later_reaches from to request front (Says said) bytes Later comes later at (rest, are, more) =
      let none : count_of (is_logged (demand_of role request)) ≡ 0 = ap (λ (demand : Demand). count_of (is_logged demand)) comes in
      later from rest more (omega (arith, at, none))

  reaches : (from to : Mark) (front : List Request) (request : Request) (requests : List Request) (bytes : List ℕ) → is_logged (demand_of role request) ≡ true →
      number ≡ from.number + count_logged role front → Owes worker role from (front ++ request ∷ requests) bytes to → number < to.number
  reaches from to [] request requests bytes logged at owes = first_reaches from to requests (demand_of role request) bytes logged (omega (arith, at)) owes
  reaches from to (first ∷ front) request requests bytes logged at owes =
      later_reaches from to first front (demand_of role first) bytes (λ next rest. Owes worker role next (front ++ request ∷ requests) rest to) refl
      (λ next rest more at. reaches next to front request requests rest logged at more) at owes

-- the number of a command that was answered
number_is : (worker : Worker) (role : Role) (mark : Mark) (requests : List Request) (owed : List ℕ) (index : ℕ) (one : IsAnsweredAmong worker role mark requests owed index) →
    announced_number one ≡ mark.number + count_logged role one.earlier
number_is worker role mark requests owed index one =
    numbered worker role one.placed.place one.due.number one.tenant one.command one.placed.stands mark one.due one.earlier one.before refl one.owes

-- it is one of those from the first mark of what is owed on, and below the last one
pub within_marks : (worker : Worker) (role : Role) (from to : Mark) (requests : List Request) (owed : List ℕ) → Owes worker role from requests owed to → (index : ℕ)
    (one : IsAnsweredAmong worker role from requests owed index) → (from.number ≤ announced_number one) × (announced_number one < to.number)
within_marks worker role from to requests owed owes index one =
    let is = number_is worker role from requests owed index one in
    let all : requests ≡ one.earlier ++ one.request ∷ one.taken.0 = one.taken.1 ∙ append_assoc one.earlier (one.request ∷ []) one.taken.0 in (
      omega (arith, is),
      reaches worker role one.placed.place one.due.number one.tenant one.command one.placed.stands from to one.earlier one.request one.taken.0 owed (ap is_logged one.logs) is
          (subst (λ (requests : List Request). Owes worker role from requests owed to) all owes),
    )

-- a front that one more logged request follows has fewer of them
fewer_logged : (role : Role) (front : List Request) (request : Request) (rest : List Request) → is_logged (demand_of role request) ≡ true →
    count_logged role front < count_logged role (front ++ request ∷ rest)
fewer_logged role [] request rest logged =
    let one : count_of (is_logged (demand_of role request)) ≡ 1 = ap count_of logged in omega (arith, one)
fewer_logged role (first ∷ front) request rest logged = omega (arith, fewer_logged role front request rest logged)

module _ {X : Type 0} where
  -- of two beginnings of one list the longer begins with the shorter
  begins_both : (list longer shorter : List X) → BeginsWith list longer → BeginsWith list shorter → length shorter ≤ length longer → BeginsWith longer shorter
  begins_both list longer [] one two few = (longer, refl)
  begins_both list [] (y ∷ shorter) one two few = let no : ⊥ = omega (arith, few) in absurd no
  begins_both list (x ∷ longer) (y ∷ shorter) one two few =
      let same = sym one.1 ∙ two.1 in
      let rest = begins_both (longer ++ one.0) longer shorter (one.0, refl) (two.0, ap rest_of same) (omega (arith, few)) in
      (rest.0, ap (λ (z : X). z ∷ longer) (same_Some x y (ap (λ (list : List X). slice_get list 0) same)) ∙ ap (λ (list : List X). y ∷ list) rest.1)

-- Of two requests that were answered among those taken the later one has the higher number.
module _ (worker : Worker) (role : Role) (mark : Mark) (requests : List Request) (owed : List ℕ) (first second : ℕ) (one : IsAnsweredAmong worker role mark requests owed first)
    (two : IsAnsweredAmong worker role mark requests owed second) where
  pub later_is_higher : first < second → announced_number one < announced_number two
  later_is_higher less =
      let front = one.earlier ++ one.request ∷ [] in
      let longer = begins_through requests (two.earlier ++ two.request ∷ []) two.earlier two.taken (two.request ∷ [], refl) in
      let begins = begins_both requests two.earlier front longer one.taken (omega (arith, length-append one.earlier (one.request ∷ []), one.so_many, two.so_many, less)) in
      let split : two.earlier ≡ one.earlier ++ one.request ∷ begins.0 = begins.1 ∙ append_assoc one.earlier (one.request ∷ []) begins.0 in
      let logged : is_logged (demand_of role one.request) ≡ true = ap is_logged one.logs in
      let fewer = subst (λ (list : List Request). count_logged role one.earlier < count_logged role list) (sym split) (fewer_logged role one.earlier one.request begins.0 logged) in
      omega (arith, fewer, number_is worker role mark requests owed first one, number_is worker role mark requests owed second two)

  -- so they stand at two places
  pub apart : first < second → (announced_number one < announced_number two) × (history_place one ≢ history_place two)
  apart less =
      let higher = later_is_higher less in (
        higher,
        λ same.
            let seen : own_sighting worker (announced_number one) one.tenant one.command ≡ own_sighting worker (announced_number two) two.tenant two.command =
            same_Some _ _ (sym one.placed.stands ∙ ap (slice_get (history_of worker)) same ∙ two.placed.stands) in
            omega (arith, higher, ap (λ (seen : Sighting). seen.ticket.number) seen),
      )

-- what is answered in one serve comes before what is answered in a later one
pub later_serve_is_higher : (until then_until : Bool) (begun served later last : Worker) (one : ServesAndAnswers until begun served) (two : ServesAndAnswers then_until later last) → Continues served later →
    (announced_number one.answer < announced_number two.answer) × (history_place one.answer < history_place two.answer)
later_serve_is_higher until then_until begun served later last one two on =
    let first = one.answer in
    let second = two.answer in
    let due = owes_onward last two.old.conn.role (mark_of later) second.due second.earlier second.before second.owes in (
      omega (arith, due.0, slice_get_within (announced_of served) first.due.number _ first.placed.announced, begins_longer _ _ on.announced),
      omega (arith, due.1, second.placed.not_before, slice_get_within (history_of served) first.placed.place _ first.placed.stands, begins_longer _ _ on.history),
    )
