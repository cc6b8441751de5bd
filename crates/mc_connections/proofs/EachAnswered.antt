-- Each request that is to be logged was answered, over one log or over several, unless the log is
-- full.
use Rattle.std.proofs.Common.{◌≡◌, ◌⊎◌, ℕ, zero, suc, ◌+◌, true, List, [], ◌∷◌, ◌++◌, length, slice_get, Some, arith, refl, sym, ap, subst, ◌∙◌, inl, inr, ⊎_elim, append-nil, append_assoc}
use Rattle.std.proofs.lemmas.Option.{none-some, same_Some, slice_get_within}
use Rattle.lists.proofs.Public.{begins_through}
use Rattle.lists.specs.Lists.{BeginsWith}
use Rattle.mc_conn.specs.declared.conn.Role.{Role}
use Rattle.mc_conn.specs.Owed.{Demand, Logs, Mark, Owes, OwesFor, Says, answered, demand_of, is_logged}
use Rattle.mc_model.specs.declared.request.Request.{Request}
use Rattle.mc_connections.specs.Life.{IsBehind, OwesInLogs, OwesInParts, and_then, next_log, no_log, none_yet}
use Rattle.mc_connections.specs.Seen.{AreAnsweredFrom, IsAnsweredAmong, IsAnsweredOnLast, SplitsAtLast}
use Rattle.mc_connections.proofs.Lives.{owes_alone}
use Rattle.uc_worker.specs.Worker.{IsFull}
use Rattle.uc_worker.specs.declared.worker.Worker.{Worker}

module _ {X : Type 0} where
  -- what stands in one list and then another stands in the one or in the other
  pub at_either : (list more : List X) (place : ℕ) (x : X) → slice_get (list ++ more) place ≡ Some x →
      (slice_get list place ≡ Some x) ⊎ ((there : ℕ) × (place ≡ length list + there) × (slice_get more there ≡ Some x))
  at_either [] more place x at = inr (place, omega arith, at)
  at_either (y ∷ list) more zero x at = inl at
  at_either (y ∷ list) more (suc place) x at =
      ⊎_elim inl (λ (later : (there : ℕ) × (place ≡ length list + there) × (slice_get more there ≡ Some x)). inr (later.0, omega (arith, later.1), later.2)) (at_either list more place x at)

  -- a list in three parts begins with the first two
  in_three : (list first second rest : List X) → list ≡ first ++ rest → (begins : BeginsWith rest second) → BeginsWith list (first ++ second)
  in_three list first second rest is begins = (begins.0, is ∙ ap (λ (more : List X). first ++ more) begins.1 ∙ sym (append_assoc first second begins.0))

  abbrev pub rest_of : List X → List X
  rest_of [] = []
  rest_of (x ∷ list) = list

module _ (worker : Worker) (role : Role) where
  -- what is owed for one demand, and then for any other requests
  record Demanded (from : Mark) (demand : Demand) (bytes : List ℕ) (Later : Mark → List ℕ → Type 0) : Type 0 where
    next : Mark
    said : List ℕ
    rest : List ℕ
    are : bytes ≡ said ++ rest
    later : Later next rest
    in_front : (requests : List Request) (others : List ℕ) (to : Mark) → Owes worker role next requests others to →
        OwesFor worker from demand (said ++ others) (λ next rest. Owes worker role next requests rest to)

  demanded : (from : Mark) (demand : Demand) (bytes : List ℕ) (Later : Mark → List ℕ → Type 0) → OwesFor worker from demand bytes Later → Demanded from demand bytes Later
  demanded from (Logs tenant command quiet) bytes Later (reply, next, rest, is, are, more) = record {
    next = next;
    said = answered quiet reply;
    rest = rest;
    are = are;
    later = more;
    in_front = λ requests others to owes. (reply, next, others, is, refl, owes);
  }
  demanded from (Says said) bytes Later (rest, are, more) = record {
    next = from;
    said = said;
    rest = rest;
    are = are;
    later = more;
    in_front = λ requests others to owes. (others, refl, owes);
  }

  -- the first request
  first_answered : (from : Mark) (request : Request) (requests : List Request) (demand : Demand) (bytes : List ℕ) (Later : Mark → List ℕ → Type 0) → demand_of role request ≡ demand →
      is_logged demand ≡ true → OwesFor worker from demand bytes Later → IsAnsweredAmong worker role from (request ∷ requests) bytes 0 ⊎ IsFull worker
  first_answered from request requests (Logs tenant command quiet) bytes Later comes logged (reply, next, rest, is, are, more) =
      ⊎_elim
      (λ placed. inl (record {
        earlier = [];
        request = request;
        taken = (requests, refl);
        so_many = refl;
        before = [];
        due = from;
        owes = (refl, refl, omega arith);
        tenant = tenant;
        command = command;
        quiet = quiet;
        logs = comes;
        reply = reply;
        to = next;
        placed = placed;
        next = (rest, are);
      }))
      (λ away. inr away.full)
      is
  first_answered from request requests (Says said) bytes Later comes logged owes = cc

  -- one behind it
  later_answered : (from : Mark) (request : Request) (requests : List Request) (bytes : List ℕ) (to : Mark)
      (first : Demanded from (demand_of role request) bytes (λ next rest. Owes worker role next requests rest to)) (index : ℕ) →
      IsAnsweredAmong worker role first.next requests first.rest index → IsAnsweredAmong worker role from (request ∷ requests) bytes (suc index)
  later_answered from request requests bytes to first index found = record {
    earlier = request ∷ found.earlier;
    request = found.request;
    taken = (found.taken.0, ap (λ (list : List Request). request ∷ list) found.taken.1);
    so_many = ap suc found.so_many;
    before = first.said ++ found.before;
    due = found.due;
    owes = first.in_front found.earlier found.before found.due found.owes;
    tenant = found.tenant;
    command = found.command;
    quiet = found.quiet;
    logs = found.logs;
    reply = found.reply;
    to = found.to;
    placed = found.placed;
    next =
        let reply = answered found.quiet found.reply in
        subst (λ (front : List ℕ). BeginsWith bytes front) (sym (append_assoc first.said found.before reply))
        (in_three bytes first.said (found.before ++ reply) first.rest first.are found.next);
  }

  pub owed_answers : (from to : Mark) (requests : List Request) (bytes : List ℕ) → Owes worker role from requests bytes to → (index : ℕ) (request : Request) →
      slice_get requests index ≡ Some request → is_logged (demand_of role request) ≡ true → IsAnsweredAmong worker role from requests bytes index ⊎ IsFull worker
  owed_answers from to [] bytes owes index request at logged = absurd (none-some request at)
  owed_answers from to (first ∷ requests) bytes owes zero request at logged =
      first_answered from first requests (demand_of role first) bytes _ refl
      (ap (λ (request : Request). is_logged (demand_of role request)) (same_Some first request at) ∙ logged) owes
  owed_answers from to (first ∷ requests) bytes owes (suc index) request at logged =
      let front = demanded from (demand_of role first) bytes (λ next rest. Owes worker role next requests rest to) owes in
      ⊎_elim
      (λ found. inl (later_answered from first requests bytes to front index found))
      inr
      (owed_answers front.next to requests front.rest front.later index request at logged)

-- What is owed on earlier logs, and then by the worker of this one.
module _ (past : List Worker) (worker : Worker) (role : Role) (earlier : List Request) (before : List ℕ) (owes_past : OwesInLogs role past earlier before) where
  abbrev AnsweredHere : List Request → List ℕ → ℕ → Type 0
  AnsweredHere requests bytes index = IsAnsweredOnLast past worker role (earlier ++ requests) (before ++ bytes) (length earlier + index)

  behind_more : (requests more : List Request) (bytes others : List ℕ) (index : ℕ) → AnsweredHere requests bytes index → AnsweredHere (requests ++ more) (bytes ++ others) index
  behind_more requests more bytes others index found = record {
    first = found.first;
    front = found.front;
    over = found.over;
    earlier = found.earlier;
    before = found.before;
    to = found.to;
    parts = found.parts;
    mark = found.mark;
    behind = found.behind;
    part = found.part;
    bytes = found.bytes;
    at = found.at;
    answer = found.answer;
    so_many = found.so_many;
    taken =
        begins_through (earlier ++ (requests ++ more)) (earlier ++ requests) (found.first ++ (found.earlier ++ found.part)) (more, sym (append_assoc earlier requests more))
        found.taken;
    next =
        begins_through (before ++ (bytes ++ others)) (before ++ bytes) (found.front ++ (found.before ++ found.bytes)) (others, sym (append_assoc before bytes others)) found.next;
  }

  in_part : (requests more : List Request) (bytes others : List ℕ) (to from : Mark) (place index : ℕ) → OwesInParts worker role requests bytes to → IsBehind to from →
      index ≡ length requests + place → IsAnsweredAmong worker role from more others place → AnsweredHere (requests ++ more) (bytes ++ others) index
  in_part requests more bytes others to from place index parts behind is found = record {
    first = earlier;
    front = before;
    over = owes_past;
    earlier = requests;
    before = bytes;
    to = to;
    parts = parts;
    mark = from;
    behind = behind;
    part = more;
    bytes = others;
    at = place;
    answer = found;
    so_many = omega (arith, is);
    taken = ([], sym (append-nil (earlier ++ (requests ++ more))));
    next = ([], sym (append-nil (before ++ (bytes ++ others))));
  }

  parts_answers : (requests : List Request) (bytes : List ℕ) (to : Mark) → OwesInParts worker role requests bytes to → (index : ℕ) (request : Request) →
      slice_get requests index ≡ Some request → is_logged (demand_of role request) ≡ true → AnsweredHere requests bytes index ⊎ IsFull worker
  parts_answers _ _ _ none_yet index request at logged = absurd (none-some request at)
  parts_answers _ _ _ (and_then requests more bytes others to from last parts behind owes) index request at logged =
      ⊎_elim
      (λ (inside : slice_get requests index ≡ Some request).
      ⊎_elim (λ found. inl (behind_more requests more bytes others index found)) inr (parts_answers requests bytes to parts index request inside logged))
      (λ (later : (there : ℕ) × (index ≡ length requests + there) × (slice_get more there ≡ Some request)).
      ⊎_elim
      (λ found. inl (in_part requests more bytes others to from later.0 index parts behind later.1 found))
      inr
      (owed_answers worker role from last more others owes later.0 request later.2 logged))
      (at_either requests more index request at)

first_is : {X : Type 0} (x y : X) (list other : List X) → x ∷ list ≡ y ∷ other → x ≡ y
first_is x y list other is = same_Some x y (ap (λ list. slice_get list 0) is)

split_at_last : (past : List Worker) (worker : Worker) (role : Role) (workers : List Worker) (requests : List Request) (owed : List ℕ) → workers ≡ past ++ worker ∷ [] →
    OwesInLogs role workers requests owed → SplitsAtLast past worker role requests owed
split_at_last [] worker role _ _ _ is no_log = let no : ⊥ = omega (arith, ap length is) in absurd no
split_at_last (first ∷ past) worker role _ _ _ is no_log = let no : ⊥ = omega (arith, ap length is) in absurd no
split_at_last [] worker role _ _ _ is (next_log one workers requests more bytes others to parts owes) =
    let none = owes_alone role [] more others (subst (λ (list : List Worker). OwesInLogs role list more others) (ap rest_of is) owes) in
    record {
      earlier = [];
      before = [];
      owes = no_log;
      rest = requests;
      bytes = bytes;
      to = to;
      parts = subst (λ (one : Worker). OwesInParts one role requests bytes to) (first_is one worker workers [] is) parts;
      are = ap (λ (more : List Request). requests ++ more) none.0 ∙ append-nil requests;
      adds_up = ap (λ (others : List ℕ). bytes ++ others) none.1 ∙ append-nil bytes;
    }
split_at_last (first ∷ past) worker role _ _ _ is (next_log one workers requests more bytes others to parts owes) =
    let later = split_at_last past worker role workers more others (ap rest_of is) owes in
    record {
      earlier = requests ++ later.earlier;
      before = bytes ++ later.before;
      owes =
          next_log first past requests later.earlier bytes later.before to
          (subst (λ (one : Worker). OwesInParts one role requests bytes to) (first_is one first workers (past ++ worker ∷ []) is) parts) later.owes;
      rest = later.rest;
      bytes = later.bytes;
      to = later.to;
      parts = later.parts;
      are = ap (λ (more : List Request). requests ++ more) later.are ∙ sym (append_assoc requests later.earlier later.rest);
      adds_up = ap (λ (others : List ℕ). bytes ++ others) later.adds_up ∙ sym (append_assoc bytes later.before later.bytes);
    }

-- what is owed over logs is owed on the earlier ones, and then on the last
pub splits_at_last : (past : List Worker) (worker : Worker) (role : Role) (requests : List Request) (owed : List ℕ) → OwesInLogs role (past ++ worker ∷ []) requests owed →
    SplitsAtLast past worker role requests owed
splits_at_last past worker role requests owed owes = split_at_last past worker role (past ++ worker ∷ []) requests owed refl owes

pub answers_over_logs : (past : List Worker) (worker : Worker) (role : Role) (requests : List Request) (owed : List ℕ) (split : SplitsAtLast past worker role requests owed) →
    AreAnsweredFrom past worker role requests owed (length split.earlier)
answers_over_logs past worker role requests owed split = λ index request from at logged.
    ⊎_elim
    (λ (inside : slice_get split.earlier index ≡ Some request). let no : ⊥ = omega (arith, from, slice_get_within split.earlier index request inside) in absurd no)
    (λ (later : (there : ℕ) × (index ≡ length split.earlier + there) × (slice_get split.rest there ≡ Some request)).
    ⊎_elim
    (λ found. inl
    (subst (λ (index : ℕ). IsAnsweredOnLast past worker role requests owed index) (sym later.1)
    (subst (λ (requests : List Request). IsAnsweredOnLast past worker role requests owed (length split.earlier + later.0)) (sym split.are)
    (subst (λ (owed : List ℕ). IsAnsweredOnLast past worker role (split.earlier ++ split.rest) owed (length split.earlier + later.0)) (sym split.adds_up) found))))
    inr
    (parts_answers past worker role split.earlier split.before split.owes split.rest split.bytes split.to split.parts later.0 request later.2 logged))
    (at_either split.earlier split.rest index request (ap (λ (requests : List Request). slice_get requests index) (sym split.are) ∙ at))
