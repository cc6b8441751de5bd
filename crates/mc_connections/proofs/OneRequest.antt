-- A command answers one request of one connection.
use Rattle.std.proofs.Common.{◌++◌, ◌+◌, ◌<◌, ◌∙◌, ◌∷◌, ◌≡◌, ◌⊎◌, List, Some, [], ap, append_assoc, arith, inl, inr, length, refl, slice_get, subst, suc, sym, true, zero, ℕ, ⊎_elim}
use Rattle.std.proofs.lemmas.Option.{none-some, same_Some, slice_get_within}
use Rattle.lists.proofs.Public.{at_longer, at_seam}
use Rattle.mc_conn.specs.Owed.{Mark, demand_of, is_logged}
use Rattle.mc_conn.specs.declared.conn.Role.{Role}
use Rattle.mc_connections.proofs.Askings.{at_behind}
use Rattle.mc_connections.proofs.EachAnswered.{at_either, owed_answers}
use Rattle.mc_connections.proofs.OwnAnnouncements.{later_is_higher, within_marks}
use Rattle.mc_connections.proofs.SeenInOrder.{owes_onward}
use Rattle.mc_connections.specs.Asking.{IsLogged}
use Rattle.mc_connections.specs.Life.{IsSince, LogsAreUnder, OwesInLogs, OwesInParts, PartsAreUnder, WereAnsweredApart, and_then, next_log, no_log, none_yet}
use Rattle.mc_connections.specs.Seen.{IsAnsweredAmong, IsAnsweredInLogs, IsAnsweredInParts, IsTakenInLogs, announced_number}
use Rattle.mc_connections.specs.declared.connection.Connection.{Connection}
use Rattle.mc_model.specs.declared.request.Request.{Request}
use Rattle.uc_worker.specs.Worker.{IsFull}
use Rattle.uc_worker.specs.declared.worker.Worker.{Worker}

-- one of the part behind others
abbrev Here : Worker → Role → Mark → List Request → List Request → List ℕ → ℕ → ℕ → Type 0
Here worker role from requests more others number index =
    (at : ℕ) × (answer : IsAnsweredAmong worker role from more others at) × (announced_number answer ≡ number) × (index ≡ length requests + at)

-- a command that has answered is one of those that are the parts' own
parts_own : (Own : ℕ → Type 0) (worker : Worker) (role : Role) (requests : List Request) (bytes : List ℕ) (to : Mark) (parts : OwesInParts worker role requests bytes to) → PartsAreUnder Own parts →
    (number index : ℕ) → IsAnsweredInParts number index parts → Own number
parts_own Own worker role _ _ _ none_yet own number index has = absurd has
parts_own Own worker role _ _ _ (and_then requests more bytes others to from last parts behind owes) own number index has =
    ⊎_elim
    (λ earlier. parts_own Own worker role requests bytes to parts own.0 number index earlier)
    (λ (one : Here worker role from requests more others number index).
    let within = within_marks worker role from last more others owes one.0 one.1 in
    subst Own one.2 (own.1 (announced_number one.1) within.0 within.1))
    has

logs_own : (role : Role) (Own : ℕ → ℕ → Type 0) (workers : List Worker) (requests : List Request) (owed : List ℕ) (owes : OwesInLogs role workers requests owed) → LogsAreUnder Own owes →
    (log number index : ℕ) → IsAnsweredInLogs log number index owes → Own log number
logs_own role Own _ _ _ no_log own log number index has = absurd has
logs_own role Own _ _ _ (next_log worker workers requests more bytes others to parts owes) own zero number index has =
    parts_own (Own 0) worker role requests bytes to parts own.0 number index has
logs_own role Own _ _ _ (next_log worker workers requests more bytes others to parts owes) own (suc log) number index has =
    logs_own role (λ log. Own (suc log)) workers more others owes own.1 log number has.0 has.1

pub owner_answers : (begun served : List Worker) (ended : List Connection) (apart : WereAnsweredApart begun served ended) (later earlier : List Connection) (connection : Connection)
    (is : ended ≡ later ++ connection ∷ earlier) (log number index : ℕ) → IsAnsweredInLogs log number index (apart.answered later earlier connection is).answered.owes →
    (apart.owner log number ≡ length earlier) × IsSince begun log number
owner_answers begun served ended apart later earlier connection is log number index has =
    let it = apart.answered later earlier connection is in
    logs_own connection.conn.role (λ log number. (apart.owner log number ≡ length earlier) × IsSince begun log number) served it.answered.requests it.answered.owed it.answered.owes it.under log number index
    has

-- a command that has answered is the one that its request logs
abbrev Logged : Worker → Role → List Request → ℕ → ℕ → Type 0
Logged worker role requests number index = (request : Request) × (slice_get requests index ≡ Some request) × IsLogged worker role request number

here_logged : (worker : Worker) (role : Role) (from : Mark) (requests more : List Request) (others : List ℕ) (number index : ℕ) → Here worker role from requests more others number index →
    Logged worker role (requests ++ more) number index
here_logged worker role from requests more others number index one =
    let answer = one.1 in
    let split = answer.taken.1 ∙ append_assoc answer.earlier (answer.request ∷ []) answer.taken.0 in
    let at : slice_get more one.0 ≡ Some answer.request =
    ap (slice_get more) (sym answer.so_many) ∙ ap (λ (list : List Request). slice_get list (length answer.earlier)) split ∙ at_seam answer.earlier answer.request answer.taken.0
    in (
      answer.request,
      at_behind requests more one.0 index answer.request one.3 at,
      subst (λ (number : ℕ). IsLogged worker role answer.request number) one.2
          (record { tenant = answer.tenant; command = answer.command; quiet = answer.quiet; logs = answer.logs; announced = answer.placed.announced }),
    )

parts_logged : (worker : Worker) (role : Role) (requests : List Request) (bytes : List ℕ) (to : Mark) (parts : OwesInParts worker role requests bytes to) →
    (number index : ℕ) → IsAnsweredInParts number index parts → Logged worker role requests number index
parts_logged worker role _ _ _ none_yet number index has = absurd has
parts_logged worker role _ _ _ (and_then requests more bytes others to from last parts behind owes) number index has =
    ⊎_elim
    (λ earlier. let one = parts_logged worker role requests bytes to parts number index earlier in (one.0, at_longer requests more index one.0 one.1, one.2))
    (λ (one : Here worker role from requests more others number index). here_logged worker role from requests more others number index one)
    has

pub logs_logged : (role : Role) (workers : List Worker) (requests : List Request) (owed : List ℕ) (owes : OwesInLogs role workers requests owed) → (log number index : ℕ) (worker : Worker) →
    IsAnsweredInLogs log number index owes → slice_get workers log ≡ Some worker → Logged worker role requests number index
logs_logged role _ _ _ no_log log number index worker has at = absurd has
logs_logged role _ _ _ (next_log first workers requests more bytes others to parts owes) zero number index worker has at =
    let one = parts_logged first role requests bytes to parts number index has in (
      one.0,
      at_longer requests more index one.0 one.1,
      subst (λ (worker : Worker). IsLogged worker role one.0 number) (same_Some first worker at) one.2,
    )
logs_logged role _ _ _ (next_log first workers requests more bytes others to parts owes) (suc log) number index worker has at =
    let one = logs_logged role workers more others owes log number has.0 worker has.1 at in (one.0, at_behind requests more has.0 index one.0 has.2 one.1, one.2)

-- what was answered in parts has numbers below the mark to which they go
parts_below : (worker : Worker) (role : Role) (requests : List Request) (bytes : List ℕ) (to : Mark) (parts : OwesInParts worker role requests bytes to) →
    (number index : ℕ) → IsAnsweredInParts number index parts → number < to.number
parts_below worker role _ _ _ none_yet number index has = absurd has
parts_below worker role _ _ _ (and_then requests more bytes others to from last parts behind owes) number index has =
    ⊎_elim
    (λ earlier.
    let below = parts_below worker role requests bytes to parts number index earlier in
    omega (arith, below, behind.0, (owes_onward worker role from last more others owes).0))
    (λ (one : Here worker role from requests more others number index).
    let within = within_marks worker role from last more others owes one.0 one.1 in
    omega (arith, within.1, one.2))
    has

-- two places that are neither before the other are one
neither_first : (one other : ℕ) → ¬ (one < other) → ¬ (other < one) → one ≡ other
neither_first one other a b = omega (arith, a, b)

same_here : (worker : Worker) (role : Role) (from : Mark) (requests more : List Request) (others : List ℕ) (number one other : ℕ) → Here worker role from requests more others number one →
    Here worker role from requests more others number other → one ≡ other
same_here worker role from requests more others number one other first second =
    let same =
    neither_first first.0 second.0
    (λ less. omega (arith, later_is_higher worker role from more others first.0 second.0 first.1 second.1 less, first.2, second.2))
    (λ less. omega (arith, later_is_higher worker role from more others second.0 first.0 second.1 first.1 less, first.2, second.2))
    in
    omega (arith, same, first.3, second.3)

parts_once : (worker : Worker) (role : Role) (requests : List Request) (bytes : List ℕ) (to : Mark) (parts : OwesInParts worker role requests bytes to) → (number one other : ℕ) →
    IsAnsweredInParts number one parts → IsAnsweredInParts number other parts → one ≡ other
parts_once worker role _ _ _ none_yet number one other has too = absurd has
parts_once worker role _ _ _ (and_then requests more bytes others to from last parts behind owes) number one other has too =
    ⊎_elim
    (λ first.
    ⊎_elim
    (λ second. parts_once worker role requests bytes to parts number one other first second)
    (λ (second : Here worker role from requests more others number other). absurd (apart one first other second))
    too)
    (λ (first : Here worker role from requests more others number one).
    ⊎_elim
    (λ second. absurd (apart other second one first))
    (λ (second : Here worker role from requests more others number other). same_here worker role from requests more others number one other first second)
    too)
    has
  where
    apart : (early : ℕ) → IsAnsweredInParts number early parts → (late : ℕ) → Here worker role from requests more others number late → ⊥
    apart early first late second =
        let below = parts_below worker role requests bytes to parts number early first in
        let within = within_marks worker role from last more others owes second.0 second.1 in
        omega (arith, below, behind.0, within.0, second.2)

pub logs_once : (role : Role) (workers : List Worker) (requests : List Request) (owed : List ℕ) (owes : OwesInLogs role workers requests owed) → (log number one other : ℕ) →
    IsAnsweredInLogs log number one owes → IsAnsweredInLogs log number other owes → one ≡ other
logs_once role _ _ _ no_log log number one other has too = absurd has
logs_once role _ _ _ (next_log worker workers requests more bytes others to parts owes) zero number one other has too =
    parts_once worker role requests bytes to parts number one other has too
logs_once role _ _ _ (next_log worker workers requests more bytes others to parts owes) (suc log) number one other has too =
    let same = logs_once role workers more others owes log number has.0 too.0 has.1 too.1 in
    omega (arith, same, has.2, too.2)

-- each request that is to be logged was answered so, or the log is full
parts_each : (worker : Worker) (role : Role) (requests : List Request) (bytes : List ℕ) (to : Mark) (parts : OwesInParts worker role requests bytes to) → (index : ℕ) (request : Request) →
    slice_get requests index ≡ Some request → is_logged (demand_of role request) ≡ true → ((number : ℕ) × IsAnsweredInParts number index parts) ⊎ IsFull worker
parts_each worker role _ _ _ none_yet index request at logged = absurd (none-some request at)
parts_each worker role _ _ _ (and_then requests more bytes others to from last parts behind owes) index request at logged =
    ⊎_elim
    (λ (inside : slice_get requests index ≡ Some request).
    ⊎_elim (λ one. inl (one.0, inl one.1)) (λ full. inr full) (parts_each worker role requests bytes to parts index request inside logged))
    (λ (later : (there : ℕ) × (index ≡ length requests + there) × (slice_get more there ≡ Some request)).
    ⊎_elim
    (λ (answer : IsAnsweredAmong worker role from more others later.0). inl (announced_number answer, inr (later.0, answer, refl, later.1)))
    (λ full. inr full)
    (owed_answers worker role from last more others owes later.0 request later.2 logged))
    (at_either requests more index request at)

pub logs_each : (role : Role) (workers : List Worker) (requests : List Request) (owed : List ℕ) (owes : OwesInLogs role workers requests owed) → (index : ℕ) (request : Request) →
    slice_get requests index ≡ Some request → is_logged (demand_of role request) ≡ true →
    (log : ℕ) × (worker : Worker) × (slice_get workers log ≡ Some worker) × IsTakenInLogs log index owes
    × (((number : ℕ) × IsAnsweredInLogs log number index owes) ⊎ IsFull worker)
logs_each role _ _ _ no_log index request at logged = absurd (none-some request at)
logs_each role _ _ _ (next_log worker workers requests more bytes others to parts owes) index request at logged =
    ⊎_elim
    (λ (inside : slice_get requests index ≡ Some request).
    (0, worker, refl, slice_get_within requests index request inside, parts_each worker role requests bytes to parts index request inside logged))
    (λ (later : (there : ℕ) × (index ≡ length requests + there) × (slice_get more there ≡ Some request)).
    let rest = logs_each role workers more others owes later.0 request later.2 logged in (
      suc rest.0,
      rest.1,
      rest.2,
      (later.0, rest.3, later.1),
      ⊎_elim (λ one. inl (one.0, (later.0, one.1, later.1))) (λ full. inr full) rest.4,
    ))
    (at_either requests more index request at)

-- a request is taken on one log
pub taken_once : (role : Role) (workers : List Worker) (requests : List Request) (owed : List ℕ) (owes : OwesInLogs role workers requests owed) → (index one other : ℕ) →
    IsTakenInLogs one index owes → IsTakenInLogs other index owes → one ≡ other
taken_once role _ _ _ no_log index one other has too = absurd has
taken_once role _ _ _ (next_log worker workers requests more bytes others to parts owes) index zero zero has too = refl
taken_once role _ _ _ (next_log worker workers requests more bytes others to parts owes) index zero (suc other) has too = let no : ⊥ = omega (arith, has, too.2) in absurd no
taken_once role _ _ _ (next_log worker workers requests more bytes others to parts owes) index (suc one) zero has too = let no : ⊥ = omega (arith, too, has.2) in absurd no
taken_once role _ _ _ (next_log worker workers requests more bytes others to parts owes) index (suc one) (suc other) has too =
    let same : too.0 ≡ has.0 = omega (arith, has.2, too.2) in
    ap suc (taken_once role workers more others owes has.0 one other has.1 (subst (λ (later : ℕ). IsTakenInLogs other later owes) same too.1))
