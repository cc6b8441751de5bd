-- For whom a worker has announced its commands, while its connections are there and once they have
-- ended.
use Rattle.std.proofs.Common.{◌≡◌, ◌≢◌, ◌⊎◌, ℕ, zero, suc, ◌+◌, ◌<◌, ◌≤◌, Bool, false, true, List, [], ◌∷◌, ◌++◌, length, slice_get, Option, Some, None, arith, refl, sym, ap, subst, ◌∙◌, inl, inr, ⊎_elim, append_assoc, append-nil, length-append}
use Rattle.std.proofs.lemmas.Option.{none-some, same_Some, slice_get_within}
use Rattle.std.proofs.lemmas.Bool.{eqb-true}
use Rattle.mc_conn.specs.Ending.{Breaks, Stops}
use Rattle.mc_conn.specs.Held.{HoldsOn, lines_of}
use Rattle.mc_conn.specs.Onward.{own_sighting}
use Rattle.uc_worker.specs.Going.{CatchesUp, Continues}
use Rattle.mc_conn.specs.declared.conn.Role.{Role}
use Rattle.mc_conn.specs.Owed.{mark_of}
use Rattle.mc_conn.specs.Turn.{Takes, holding_of, scene}
use Rattle.mc_conn.specs.declared.conn.State.{State}
use Rattle.mc_conn.specs.declared.conn.State.TheVariants.{Closed}
use Rattle.mc_model.specs.declared.fault.Fault.{Fault}
use Rattle.mc_model.specs.declared.request.Request.{Request}
use Rattle.mc_model.specs.Legal.{ticket_of}
use Rattle.mc_connections.specs.Asking.{Announcement, IsAnnounced, IsEarlier, IsLogged, WasAsked, WereAnsweredAsAsked}
use Rattle.mc_connections.specs.Life.{IsSince, WasAnsweredUnder, came_of}
use Rattle.mc_connections.specs.Serving.{Becomes, IsNewConnection, IsServedLater, connection_at, scene_of}
use Rattle.mc_connections.specs.InTurn.{InTurn, followed_by, nobody}
use Rattle.mc_connections.specs.Working.{IsUnused, KeepsUp, ServesOne, Standing, TakesIn, standing}
use Rattle.mc_connections.specs.declared.arrival.Arrival.{Arrival}
use Rattle.mc_connections.specs.declared.past_connections.PastConnections.{PastConnections}
use Rattle.mc_connections.specs.declared.connection.Connection.{Connection}
use Rattle.mc_connections.specs.declared.connections.Connections.{Connections}
use Rattle.mc_connections.proofs.Lives.{IsSound, OfAny, at_key, at_others, continues_self, ends_anywhere, final_before, final_then, nothing_at, pick, reads_from_earlier, same_key, with_at}
use Rattle.mc_connections.proofs.Numbers.{IsAt, Numbers, met_numbers, owed_numbers, taken_numbers}
use Rattle.mc_conn.specs.Cited.{ReadsAs}
use Rattle.mc_stream.specs.Event.{moved}
use Rattle.mc_stream.specs.Stream.{Outflow, both}
use Rattle.lists.proofs.Public.{at_longer}
use Rattle.uc_worker.specs.declared.worker.Worker.{Worker}
use Rattle.uc_worker.specs.Worker.{announced_of, sighting_of}

module _ {X : Type 0} where
  pub at_behind : (front list : List X) (place there : ℕ) (x : X) → there ≡ length front + place → slice_get list place ≡ Some x → slice_get (front ++ list) there ≡ Some x
  at_behind [] list place there x is at = ap (slice_get list) (let same : there ≡ place = omega (arith, is) in same) ∙ at
  at_behind (y ∷ front) list place zero x is at = let no : ⊥ = omega (arith, is) in absurd no
  at_behind (y ∷ front) list place (suc there) x is at = at_behind front list place there x (omega (arith, is)) at

-- a worker, the connection under each key, and what has ended
pub record View : Type 0 where
  pub worker : Worker
  pub live : ℕ → Option Connection
  pub ended : List Connection

abbrev pub view : Worker → (ℕ → Option Connection) → List Connection → View
view worker live ended = record { worker = worker; live = live; ended = ended }

abbrev pub view_of : Standing → View
view_of standing = view standing.worker (connection_at standing.connections) standing.connections.ended.connections

-- all that came of a connection reads as these requests at first, and then, if no fault has closed
-- it, as what it holds
abbrev HasTaken : Connection → List Request → Type 0
HasTaken connection requests =
    (more : List ℕ) (all : List Request) → ReadsAs (lines_of connection.conn.role) (came_of connection ++ more) all →
    (others : List Request) × (all ≡ requests ++ others) × (connection.conn.is_closed ≡ false → HoldsOn (holding_of connection.conn) more others)

-- who asked: the connection under a key, or the one before which this many had ended
pub data Who : Type 0 where
  stands_under : ℕ → Who
  ended_after : ℕ → Who

abbrev number_of : Who → ℕ
number_of (stands_under key) = key
number_of (ended_after asker) = asker

record StandsAndAsked (worker : Worker) (v : View) (taken : ℕ → List Request) (number key request : ℕ) : Type 0 where
  connection : Connection
  there : v.live key ≡ Some connection
  asked : IsAt worker connection.conn.role number (taken key) request

-- who asked for a worker's command, on this log or on an earlier one
abbrev Found : Worker → View → (ℕ → List Request) → ℕ → Who → ℕ → Type 0
Found worker v taken number (stands_under key) request = StandsAndAsked worker v taken number key request
Found worker v taken number (ended_after asker) request = WasAsked worker v.ended number asker request

-- at which place who asked ends: of a connection that is there still, the one that `final` says of its
-- key
abbrev pub place_of : (ℕ → ℕ) → Who → ℕ
place_of final (stands_under key) = final key
place_of final (ended_after asker) = asker

-- the worker announced the command on an earlier log
abbrev WasAnnounced : InTurn → Announcement → Worker → Type 0
WasAnnounced past which worker = IsAnnounced past.begun past.served which worker

-- each command of earlier logs, and of this one from a number on, was asked for, and those of one
-- connection in order
pub record Asking (owner : ℕ → ℕ → ℕ) (final : ℕ → ℕ) (past : InTurn) (from : ℕ) (v : View) : Type 0 where
  taken : ℕ → List Request
  has_taken : (key : ℕ) (connection : Connection) → v.live key ≡ Some connection → HasTaken connection (taken key)
  asker : ℕ → Who
  request : ℕ → ℕ
  found : (number : ℕ) → from ≤ number → number < length (announced_of v.worker) → Found v.worker v taken number (asker number) (request number)
  in_order : (one two : ℕ) → from ≤ one → one < two → two < length (announced_of v.worker) → asker one ≡ asker two → request one < request two
  as_many : length past.served ≡ length past.begun
  past_asker : Announcement → Who
  past_request : Announcement → ℕ
  past_found : (which : Announcement) (worker : Worker) → WasAnnounced past which worker → Found worker v taken which.number (past_asker which) (past_request which)
  past_in_order : (one two : Announcement) (first second : Worker) → WasAnnounced past one first → WasAnnounced past two second → IsEarlier one two → past_asker one ≡ past_asker two →
      past_request one < past_request two
  across : (which : Announcement) (worker : Worker) → WasAnnounced past which worker → (number : ℕ) → from ≤ number → number < length (announced_of v.worker) → past_asker which ≡ asker number →
      past_request which < request number
  owned : (number : ℕ) → from ≤ number → number < length (announced_of v.worker) → place_of final (asker number) ≡ owner (length past.served) number
  past_owned : (which : Announcement) (worker : Worker) → WasAnnounced past which worker → place_of final (past_asker which) ≡ owner which.log which.number

-- what a connection's turns have taken and announced
record Step (before after : Worker) (old new : Connection) (taken : List Request) : Type 0 where
  onward : Continues before after
  role : new.conn.role ≡ old.conn.role
  more : List Request
  has_taken : HasTaken new (taken ++ more)
  numbers : Numbers after new.conn.role (length (announced_of before)) (length (announced_of after)) more

module _ (before after : Worker) (old new : Connection) (taken : List Request) (role : new.conn.role ≡ old.conn.role)
    (opened : old.conn.is_closed ≡ false) (had : HasTaken old taken) where
  came_on : (came more : List ℕ) (all : List Request) → came_of new ≡ came_of old ++ came → ReadsAs (lines_of new.conn.role) (came_of new ++ more) all →
      (others : List Request) × (all ≡ taken ++ others) × HoldsOn (holding_of old.conn) (came ++ more) others
  came_on came more all pulled reads =
      let had_then = had (came ++ more) all (reads_from_earlier old new came more all role pulled reads) in
      (had_then.0, had_then.1, had_then.2 opened)

  step_taking : Takes (scene_of old before) (scene_of new after) → Step before after old new taken
  step_taking takes = record {
    onward = takes.taken.onward;
    role = role;
    more = takes.taken.requests;
    has_taken = λ more all reads.
        let one = came_on takes.taken.came more all takes.taken.pulled reads in
        let two = (takes.reads more one.0).0 one.2 in
        (two.0, one.1 ∙ ap (λ (others : List Request). taken ++ others) two.1 ∙ sym (append_assoc taken takes.taken.requests two.0), λ still. two.2);
    numbers = subst (λ (role : Role). Numbers after role (length (announced_of before)) (length (announced_of after)) takes.taken.requests) (sym role)
        (taken_numbers after old.conn.role (mark_of before) (mark_of after) takes.taken.requests takes.taken.owed takes.taken.owes);
  }

  step_breaking : (fault : Fault) (between : Outflow) → new.conn.is_closed ≡ true →
      Breaks (scene_of old before) (scene new.conn after (both (record { events = new.received.events; left = None }) between)) fault → Step before after old new taken
  step_breaking fault between closed breaks = record {
    onward = breaks.taken.onward;
    role = role;
    more = breaks.taken.requests ++ breaks.met;
    has_taken = λ more all reads.
        let one = came_on breaks.taken.came more all breaks.taken.pulled reads in
        let two = breaks.reads more one.0 one.2 in (
          two.0,
          one.1
              ∙ ap (λ (others : List Request). taken ++ others) (two.1 ∙ sym (append_assoc breaks.taken.requests breaks.met two.0))
              ∙ sym (append_assoc taken (breaks.taken.requests ++ breaks.met) two.0),
          λ still. let no : true ≡ false = sym closed ∙ still in cc,
        );
    numbers =
        subst (λ (role : Role). Numbers after role (length (announced_of before)) (length (announced_of after)) (breaks.taken.requests ++ breaks.met)) (sym role)
        (owed_numbers after old.conn.role (mark_of before) breaks.to _ breaks.taken.requests breaks.met breaks.taken.owed breaks.taken.owes
        (met_numbers after old.conn.role breaks.to breaks.met breaks.meets));
  }

  step_stopping : (fault : Fault) → Stops (scene_of old before) (scene_of new after) fault → Step before after old new taken
  step_stopping fault stops = step_breaking fault stops.told_from stops.shut stops.breaks

step_later : (until : Bool) (before after : Worker) (old new : Connection) (state : State) (taken : List Request) → IsServedLater until before after old new state →
    old.conn.is_closed ≡ false → HasTaken old taken → Step before after old new taken
step_later until before after old new state taken later opened had =
    ⊎_elim
    (λ served. step_taking before after old new taken later.role opened had served)
    (λ stopped. step_stopping before after old new taken later.role opened had stopped.0 stopped.1)
    later.served.how

-- what was announced stays announced
announced_on : (before after : Worker) → Continues before after → (number tenant : ℕ) (command : _) → slice_get (announced_of before) number ≡ Some (own_sighting before number tenant command) →
    slice_get (announced_of after) number ≡ Some (own_sighting after number tenant command)
announced_on before after on number tenant command at =
    ap (λ list. slice_get list number) on.announced.1
    ∙ at_longer (announced_of before) on.announced.0 number _ at
    ∙ (λ i. Some (sighting_of (sym on.log i).now (record { ticket = ticket_of (sym on.same.1 i) number; tenant = tenant; command = command })))

logged_on : (before after : Worker) → Continues before after → (role : Role) (request : Request) (number : ℕ) → IsLogged before role request number → IsLogged after role request number
logged_on before after on role request number logged = record {
  tenant = logged.tenant;
  command = logged.command;
  quiet = logged.quiet;
  logs = logged.logs;
  announced = announced_on before after on number logged.tenant logged.command logged.announced;
}

is_at_on : (before after : Worker) → Continues before after → (role : Role) (number : ℕ) (requests more : List Request) (place : ℕ) → IsAt before role number requests place →
    IsAt after role number (requests ++ more) place
is_at_on before after on role number requests more place found = record {
  request = found.request;
  at = at_longer requests more place _ found.at;
  logged = logged_on before after on role found.request number found.logged;
}

was_asked_on : (before after : Worker) → Continues before after → (ended : List Connection) (number asker request : ℕ) → WasAsked before ended number asker request →
    WasAsked after ended number asker request
was_asked_on before after on ended number asker request asked = record {
  connection = asked.connection;
  later = asked.later;
  earlier = asked.earlier;
  stands = asked.stands;
  so_many = asked.so_many;
  asked = asked.asked;
  logged = logged_on before after on asked.connection.conn.role asked.asked number asked.logged;
  asks = asked.asks;
}

-- a number is below another, or above it by some number
pub below_or_above : (number high : ℕ) → (number < high) ⊎ ((i : ℕ) × (number ≡ high + i))
below_or_above zero zero = inr (0, omega arith)
below_or_above zero (suc high) = inl (omega arith)
below_or_above (suc number) zero = inr (suc number, omega arith)
below_or_above (suc number) (suc high) =
    ⊎_elim (λ below. inl (omega (arith, below))) (λ above. inr (above.0, omega (arith, above.1))) (below_or_above number high)

-- The connection under a key had its turns.
module _ (owner : ℕ → ℕ → ℕ) (final : ℕ → ℕ) (past : InTurn) (from : ℕ) (v : View) (asking : Asking owner final past from v) (key : ℕ) (old new : Connection) (there : v.live key ≡ Some old)
    (after : Worker) (step : Step v.worker after old new (asking.taken key))
    (own : (number : ℕ) → length (announced_of v.worker) ≤ number → number < length (announced_of after) → owner (length past.served) number ≡ final key) where
  abbrev served : View
  served = view after (with_at v.live key (Some new)) v.ended

  abbrev taken_then : ℕ → List Request
  taken_then = with_at asking.taken key (asking.taken key ++ step.more)

  -- what was found is found still
  found_still : (first then : Worker) → Continues first then → (number : ℕ) (who : Who) (request : ℕ) → Found first v asking.taken number who request → Found then served taken_then number who request
  found_still first then on number (ended_after asker) request found = was_asked_on first then on v.ended number asker request found
  found_still first then on number (stands_under other) request found =
      ⊎_elim
      (λ (is : other ≡ key).
      let it_is : found.connection ≡ old = same_Some found.connection old (sym found.there ∙ ap v.live is ∙ there) in
      let role : found.connection.conn.role ≡ new.conn.role = ap (λ (connection : Connection). connection.conn.role) it_is ∙ sym step.role in
      record {
        connection = new;
        there = at_key v.live key (Some new) other is;
        asked =
            subst (λ (requests : List Request). IsAt then new.conn.role number requests request) (sym (at_key asking.taken key _ other is))
            (is_at_on first then on new.conn.role number (asking.taken key) step.more request
            (subst (λ (role : Role). IsAt first role number (asking.taken key) request) role
            (subst (λ (key : ℕ). IsAt first found.connection.conn.role number (asking.taken key) request) is found.asked)));
      })
      (λ (not : other ≢ key). record {
        connection = found.connection;
        there = at_others v.live key (Some new) other not ∙ found.there;
        asked =
            subst (λ (requests : List Request). IsAt then found.connection.conn.role number requests request)
            (append-nil (asking.taken other) ∙ sym (at_others asking.taken key _ other not))
            (is_at_on first then on found.connection.conn.role number (asking.taken other) [] request found.asked);
      })
      (same_key other key)

  abbrev asker_of : (number : ℕ) → (number < length (announced_of v.worker)) ⊎ ((i : ℕ) × (number ≡ length (announced_of v.worker) + i)) → Who
  asker_of number (inl before) = asking.asker number
  asker_of number (inr above) = stands_under key

  abbrev request_of : (number : ℕ) → (number < length (announced_of v.worker)) ⊎ ((i : ℕ) × (number ≡ length (announced_of v.worker) + i)) → ℕ
  request_of number (inl before) = asking.request number
  request_of number (inr above) = length (asking.taken key) + step.numbers.place above.0

  found_then : (number : ℕ) (either : (number < length (announced_of v.worker)) ⊎ ((i : ℕ) × (number ≡ length (announced_of v.worker) + i))) → from ≤ number →
      number < length (announced_of after) → Found after served taken_then number (asker_of number either) (request_of number either)
  found_then number (inl before) low high = found_still v.worker after step.onward number (asking.asker number) (asking.request number) (asking.found number low before)
  found_then number (inr above) low high =
      let found = step.numbers.is_at above.0 number above.1 high in
      record {
        connection = new;
        there = at_key v.live key (Some new) key refl;
        asked = record {
          request = found.request;
          at =
              ap (λ (requests : List Request). slice_get requests (length (asking.taken key) + step.numbers.place above.0)) (at_key asking.taken key _ key refl)
              ∙ at_behind (asking.taken key) step.more (step.numbers.place above.0) _ _ refl found.at;
          logged = found.logged;
        };
      }

  -- what one has asked for before is one of the requests taken by then
  is_taken : (worker : Worker) (number : ℕ) (who : Who) (request : ℕ) → who ≡ stands_under key → Found worker v asking.taken number who request → request < length (asking.taken key)
  is_taken worker number who request is found =
      let it = subst (λ (who : Who). Found worker v asking.taken number who request) is found in slice_get_within (asking.taken key) request _ it.asked.at

  in_order_then : (one two : ℕ) (first : (one < length (announced_of v.worker)) ⊎ ((i : ℕ) × (one ≡ length (announced_of v.worker) + i)))
      (second : (two < length (announced_of v.worker)) ⊎ ((i : ℕ) × (two ≡ length (announced_of v.worker) + i))) → from ≤ one → one < two →
      two < length (announced_of after) → asker_of one first ≡ asker_of two second → request_of one first < request_of two second
  in_order_then one two (inl a) (inl b) low less high same = asking.in_order one two low less b same
  in_order_then one two (inl a) (inr b) low less high same =
      omega (arith, is_taken v.worker one (asking.asker one) (asking.request one) same (asking.found one low a))
  in_order_then one two (inr a) (inl b) low less high same = let no : ⊥ = omega (arith, a.1, less, b) in absurd no
  in_order_then one two (inr a) (inr b) low less high same =
      omega (arith, step.numbers.in_order a.0 b.0 (omega (arith, a.1, b.1, less)) (omega (arith, b.1, high)))

  across_then : (which : Announcement) (worker : Worker) → WasAnnounced past which worker →
      (number : ℕ) (either : (number < length (announced_of v.worker)) ⊎ ((i : ℕ) × (number ≡ length (announced_of v.worker) + i))) → from ≤ number →
      asking.past_asker which ≡ asker_of number either → asking.past_request which < request_of number either
  across_then which worker is number (inl before) low same = asking.across which worker is number low before same
  across_then which worker is number (inr above) low same =
      omega (arith, is_taken worker which.number (asking.past_asker which) (asking.past_request which) same (asking.past_found which worker is))

  owned_then : (number : ℕ) (either : (number < length (announced_of v.worker)) ⊎ ((i : ℕ) × (number ≡ length (announced_of v.worker) + i))) → from ≤ number →
      number < length (announced_of after) → place_of final (asker_of number either) ≡ owner (length past.served) number
  owned_then number (inl before) low high = asking.owned number low before
  owned_then number (inr above) low high = sym (own number (omega (arith, above.1)) high)

  asking_served : Asking owner final past from served
  asking_served = record {
    taken = taken_then;
    has_taken = λ other connection at.
        ⊎_elim
        (λ (is : other ≡ key).
        let it_is : new ≡ connection = same_Some new connection (sym (at_key v.live key (Some new) other is) ∙ at) in
        subst (λ (requests : List Request). HasTaken connection requests) (sym (at_key asking.taken key _ other is))
        (subst (λ (connection : Connection). HasTaken connection (asking.taken key ++ step.more)) it_is step.has_taken))
        (λ (not : other ≢ key).
        subst (λ (requests : List Request). HasTaken connection requests) (sym (at_others asking.taken key _ other not))
        (asking.has_taken other connection (sym (at_others v.live key (Some new) other not) ∙ at)))
        (same_key other key);
    asker = λ number. asker_of number (below_or_above number _);
    request = λ number. request_of number (below_or_above number _);
    found = λ number low high. found_then number (below_or_above number _) low high;
    in_order = λ one two low less high same. in_order_then one two (below_or_above one _) (below_or_above two _) low less high same;
    as_many = asking.as_many;
    past_asker = asking.past_asker;
    past_request = asking.past_request;
    past_found = λ which worker is. found_still worker worker (continues_self worker) which.number (asking.past_asker which) (asking.past_request which) (asking.past_found which worker is);
    past_in_order = asking.past_in_order;
    across = λ which worker is number low high same. across_then which worker is number (below_or_above number _) low same;
    owned = λ number low high. owned_then number (below_or_above number _) low high;
    past_owned = asking.past_owned;
  }

-- The connection under a key goes.
module _ (owner : ℕ → ℕ → ℕ) (final : ℕ → ℕ) (past : InTurn) (from : ℕ) (v : View) (key : ℕ) (asking : Asking owner (with_at final key (length v.ended)) past from v) (last : Connection)
    (there : v.live key ≡ Some last) where
  abbrev gone : View
  gone = view v.worker (with_at v.live key None) (last ∷ v.ended)

  abbrev renamed : Who → Who
  renamed (ended_after asker) = ended_after asker
  renamed (stands_under other) = pick (ended_after (length v.ended)) (stands_under other) (same_key other key)

  found_picked : (worker : Worker) (number other request : ℕ) (either : (other ≡ key) ⊎ (other ≢ key)) → StandsAndAsked worker v asking.taken number other request →
      Found worker gone asking.taken number (pick (ended_after (length v.ended)) (stands_under other) either) request
  found_picked worker number other request (inl is) found =
      let it_is : found.connection ≡ last = same_Some found.connection last (sym found.there ∙ ap v.live is ∙ there) in
      record {
        connection = found.connection;
        later = [];
        earlier = v.ended;
        stands = ap (λ (connection : Connection). connection ∷ v.ended) (sym it_is);
        so_many = refl;
        asked = found.asked.request;
        logged = found.asked.logged;
        asks = λ more all reads.
            let then = asking.has_taken other found.connection found.there more all reads in
            ap (λ (requests : List Request). slice_get requests request) then.1 ∙ at_longer (asking.taken other) then.0 request _ found.asked.at;
      }
  found_picked worker number other request (inr not) found = record {
    connection = found.connection;
    there = at_others v.live key None other not ∙ found.there;
    asked = found.asked;
  }

  found_gone : (worker : Worker) (number : ℕ) (who : Who) (request : ℕ) → Found worker v asking.taken number who request → Found worker gone asking.taken number (renamed who) request
  found_gone worker number (stands_under other) request found = found_picked worker number other request (same_key other key) found
  found_gone worker number (ended_after asker) request found = record {
    connection = found.connection;
    later = last ∷ found.later;
    earlier = found.earlier;
    stands = ap (λ (list : List Connection). last ∷ list) found.stands;
    so_many = found.so_many;
    asked = found.asked;
    logged = found.logged;
    asks = found.asks;
  }

  -- those that had ended before are fewer than they all
  is_earlier : (worker : Worker) (number asker request : ℕ) → WasAsked worker v.ended number asker request → asker < length v.ended
  is_earlier worker number asker request asked =
      omega (arith, asked.so_many, ap length asked.stands, length-append asked.later (asked.connection ∷ asked.earlier))

  abbrev has_ended_already : Who → Type 0
  has_ended_already (stands_under key) = ⊥
  has_ended_already (ended_after asker) = Unit {0}

  picked_alike : (one two : ℕ) (first : (one ≡ key) ⊎ (one ≢ key)) (second : (two ≡ key) ⊎ (two ≢ key)) →
      pick (ended_after (length v.ended)) (stands_under one) first ≡ pick (ended_after (length v.ended)) (stands_under two) second → stands_under one ≡ stands_under two
  picked_alike one two (inl a) (inl b) same = ap stands_under (a ∙ sym b)
  picked_alike one two (inl a) (inr b) same = absurd (subst has_ended_already same tt)
  picked_alike one two (inr a) (inl b) same = absurd (subst has_ended_already (sym same) tt)
  picked_alike one two (inr a) (inr b) same = same

  picked_ended : (one asker : ℕ) (either : (one ≡ key) ⊎ (one ≢ key)) → asker < length v.ended →
      ¬ (pick (ended_after (length v.ended)) (stands_under one) either ≡ ended_after asker)
  picked_ended one asker (inl is) less same = let all : length v.ended ≡ asker = ap number_of same in omega (arith, less, all)
  picked_ended one asker (inr not) less same = absurd (subst has_ended_already (sym same) tt)

  renamed_alike : (worker other : Worker) (one two first second : ℕ) (a b : Who) → Found worker v asking.taken one a first → Found other v asking.taken two b second → renamed a ≡ renamed b → a ≡ b
  renamed_alike worker other one two first second (stands_under i) (stands_under j) a b same = picked_alike i j (same_key i key) (same_key j key) same
  renamed_alike worker other one two first second (stands_under i) (ended_after j) a b same = absurd (picked_ended i j (same_key i key) (is_earlier other two j second b) same)
  renamed_alike worker other one two first second (ended_after i) (stands_under j) a b same = absurd (picked_ended j i (same_key j key) (is_earlier worker one i first a) (sym same))
  renamed_alike worker other one two first second (ended_after i) (ended_after j) a b same = same

  renamed_picked : (other : ℕ) (either : (other ≡ key) ⊎ (other ≢ key)) →
      place_of final (pick (ended_after (length v.ended)) (stands_under other) either) ≡ pick (length v.ended) (final other) either
  renamed_picked other (inl is) = refl
  renamed_picked other (inr not) = refl

  -- the place at which it ends is the one that was foreseen
  renamed_place : (who : Who) → place_of final (renamed who) ≡ place_of (with_at final key (length v.ended)) who
  renamed_place (stands_under other) = renamed_picked other (same_key other key)
  renamed_place (ended_after asker) = refl

  asking_gone : Asking owner final past from gone
  asking_gone = record {
    taken = asking.taken;
    has_taken = λ other connection at.
        ⊎_elim
        (λ (is : other ≡ key). absurd (none-some connection (sym (at_key v.live key None other is) ∙ at)))
        (λ (not : other ≢ key). asking.has_taken other connection (sym (at_others v.live key None other not) ∙ at))
        (same_key other key);
    asker = λ number. renamed (asking.asker number);
    request = asking.request;
    found = λ number low high. found_gone v.worker number (asking.asker number) (asking.request number) (asking.found number low high);
    in_order = λ one two low less high same.
        asking.in_order one two low less high
        (renamed_alike v.worker v.worker one two _ _ (asking.asker one) (asking.asker two) (asking.found one low (omega (arith, less, high))) (asking.found two (omega (arith, low, less)) high) same);
    as_many = asking.as_many;
    past_asker = λ which. renamed (asking.past_asker which);
    past_request = asking.past_request;
    past_found = λ which worker is. found_gone worker which.number (asking.past_asker which) (asking.past_request which) (asking.past_found which worker is);
    past_in_order = λ one two first second a b earlier same.
        asking.past_in_order one two first second a b earlier
        (renamed_alike first second one.number two.number _ _ (asking.past_asker one) (asking.past_asker two) (asking.past_found one first a) (asking.past_found two second b) same);
    across = λ which worker is number low high same.
        asking.across which worker is number low high
        (renamed_alike worker v.worker which.number number _ _ (asking.past_asker which) (asking.asker number) (asking.past_found which worker is) (asking.found number low high) same);
    owned = λ number low high. renamed_place (asking.asker number) ∙ asking.owned number low high;
    past_owned = λ which worker is. renamed_place (asking.past_asker which) ∙ asking.past_owned which worker is;
  }

-- A connection comes in.
module _ (owner : ℕ → ℕ → ℕ) (final : ℕ → ℕ) (past : InTurn) (from : ℕ) (v : View) (asking : Asking owner final past from v) (key : ℕ) (fresh : Connection) (vacant : v.live key ≡ None) (has_taken : HasTaken fresh []) where
  abbrev joined : View
  joined = view v.worker (with_at v.live key (Some fresh)) v.ended

  abbrev taken_anew : ℕ → List Request
  taken_anew = with_at asking.taken key []

  found_joined : (worker : Worker) (number : ℕ) (who : Who) (request : ℕ) → Found worker v asking.taken number who request → Found worker joined taken_anew number who request
  found_joined worker number (ended_after asker) request found = found
  found_joined worker number (stands_under other) request found =
      let not : other ≢ key = λ is. none-some found.connection (sym vacant ∙ ap v.live (sym is) ∙ found.there) in
      record {
        connection = found.connection;
        there = at_others v.live key (Some fresh) other not ∙ found.there;
        asked = subst (λ (requests : List Request). IsAt worker found.connection.conn.role number requests request) (sym (at_others asking.taken key [] other not)) found.asked;
      }

  asking_joined : Asking owner final past from joined
  asking_joined = record {
    taken = taken_anew;
    has_taken = λ other connection at.
        ⊎_elim
        (λ (is : other ≡ key).
        let it_is : fresh ≡ connection = same_Some fresh connection (sym (at_key v.live key (Some fresh) other is) ∙ at) in
        subst (λ (requests : List Request). HasTaken connection requests) (sym (at_key asking.taken key [] other is))
        (subst (λ (connection : Connection). HasTaken connection []) it_is has_taken))
        (λ (not : other ≢ key).
        subst (λ (requests : List Request). HasTaken connection requests) (sym (at_others asking.taken key [] other not))
        (asking.has_taken other connection (sym (at_others v.live key (Some fresh) other not) ∙ at)))
        (same_key other key);
    asker = asking.asker;
    request = asking.request;
    found = λ number low high. found_joined v.worker number (asking.asker number) (asking.request number) (asking.found number low high);
    in_order = asking.in_order;
    as_many = asking.as_many;
    past_asker = asking.past_asker;
    past_request = asking.past_request;
    past_found = λ which worker is. found_joined worker which.number (asking.past_asker which) (asking.past_request which) (asking.past_found which worker is);
    past_in_order = asking.past_in_order;
    across = asking.across;
    owned = asking.owned;
    past_owned = asking.past_owned;
  }

-- whoever the worker is, what was found is found still
found_kept : (first then other : Worker) → Continues first then → (v : View) (taken : ℕ → List Request) (number : ℕ) (who : Who) (request : ℕ) → Found first v taken number who request →
    Found then (view other v.live v.ended) taken number who request
found_kept first then other on v taken number (ended_after asker) request found = was_asked_on first then on v.ended number asker request found
found_kept first then other on v taken number (stands_under key) request found = record {
  connection = found.connection;
  there = found.there;
  asked = record {
    request = found.asked.request;
    at = found.asked.at;
    logged = logged_on first then on found.connection.conn.role found.asked.request number found.asked.logged;
  };
}

-- The worker catches up, and announces nothing.
module _ (owner : ℕ → ℕ → ℕ) (final : ℕ → ℕ) (past : InTurn) (from : ℕ) (v : View) (asking : Asking owner final past from v) (after : Worker) (caught : CatchesUp v.worker after) where
  announced_then : (number : ℕ) → number < length (announced_of after) → number < length (announced_of v.worker)
  announced_then number high = subst (λ list. number < length list) caught.announced high

  asking_caught : Asking owner final past from (view after v.live v.ended)
  asking_caught = record {
    taken = asking.taken;
    has_taken = asking.has_taken;
    asker = asking.asker;
    request = asking.request;
    found = λ number low high.
        found_kept v.worker after after caught.continues v asking.taken number (asking.asker number) (asking.request number) (asking.found number low (announced_then number high));
    in_order = λ one two low less high same. asking.in_order one two low less (announced_then two high) same;
    as_many = asking.as_many;
    past_asker = asking.past_asker;
    past_request = asking.past_request;
    past_found = λ which worker is.
        found_kept worker worker after (continues_self worker) v asking.taken which.number (asking.past_asker which) (asking.past_request which) (asking.past_found which worker is);
    past_in_order = asking.past_in_order;
    across = λ which worker is number low high same. asking.across which worker is number low (announced_then number high) same;
    owned = λ number low high. asking.owned number low (announced_then number high);
    past_owned = asking.past_owned;
  }

fresh_taken : (connection : Connection) (arrival : Arrival _) → IsNewConnection connection arrival → HasTaken connection []
fresh_taken connection arrival fresh more all reads = (
  all,
  refl,
  λ still.
      subst (λ holding. HoldsOn holding more all) (sym fresh.holding) (subst (λ events. ReadsAs (lines_of connection.conn.role) (moved events ++ more) all) fresh.tapes.0 reads),
)

-- views that show the same
same_view : (worker other : Worker) (live : ℕ → Option Connection) (now : ℕ → Option Connection) (ended past : List Connection) → other ≡ worker →
    ((key : ℕ) → now key ≡ live key) → past ≡ ended → view worker live ended ≡ view other now past
same_view worker other live now ended past one two three = λ i. view (sym one i) (λ key. sym (two key) i) (sym three i)

-- the connection under every key after one has changed
changed_live : (live now : ℕ → Option Connection) (key : ℕ) (slot : Option Connection) → now key ≡ slot → ((other : ℕ) → other ≢ key → now other ≡ live other) →
    (other : ℕ) → now other ≡ with_at live key slot other
changed_live live now key slot changed others other =
    ⊎_elim
    (λ (is : other ≡ key). ap now is ∙ changed ∙ sym (at_key live key slot other is))
    (λ (not : other ≢ key). others other not ∙ sym (at_others live key slot other not))
    (same_key other key)

pub asking_taking : (owner : ℕ → ℕ → ℕ) (final : ℕ → ℕ) (past : InTurn) (from : ℕ) (before after : Standing) → Asking owner final past from (view_of before) → TakesIn before after →
    Asking owner final past from (view_of after)
asking_taking owner final past from before after asking taken =
    let fresh = taken.admits.connection in
    let now = connection_at after.connections in
    subst (Asking owner final past from)
    (same_view before.worker after.worker (with_at (connection_at before.connections) taken.key (Some fresh)) now before.connections.ended.connections after.connections.ended.connections taken.worker
    (changed_live (connection_at before.connections) now taken.key (Some fresh) taken.admits.updates.changed taken.admits.updates.others)
    (ap (λ (closed : PastConnections). closed.connections) taken.admits.ended))
    (asking_joined owner final past from (view_of before) asking taken.key fresh taken.admits.vacant (fresh_taken fresh taken.arrival taken.admits.fresh))

-- what becomes of the slot under the key
asking_at : (owner : ℕ → ℕ → ℕ) (final : ℕ → ℕ) (until : Bool) (past : InTurn) (from : ℕ) (before after : Standing) (state : State) (key : ℕ) (old new : Option Connection) →
    Asking owner (final_before old new final key (length before.connections.ended.connections)) past from (view_of before) →
    ((number : ℕ) → length (announced_of before.worker) ≤ number → number < length (announced_of after.worker) →
    owner (length past.served) number ≡ final_before old new final key (length before.connections.ended.connections) key) →
    ((connection : Connection) → old ≡ Some connection → connection.conn.is_closed ≡ false) → connection_at before.connections key ≡ old → connection_at after.connections key ≡ new →
    ((other : ℕ) → other ≢ key → connection_at after.connections other ≡ connection_at before.connections other) →
    Becomes (IsServedLater until before.worker after.worker) (after.worker ≡ before.worker) state before.connections.ended.connections after.connections.ended.connections old new →
    Asking owner final past from (view_of after)
asking_at owner final until past from before after state key None new asking own opened was is others (gone, still, idle, same_past) =
    subst (Asking owner final past from)
    (same_view before.worker after.worker (connection_at before.connections) (connection_at after.connections) before.connections.ended.connections after.connections.ended.connections still
    (λ other.
    ⊎_elim
    (λ (same : other ≡ key). ap (connection_at after.connections) same ∙ is ∙ gone ∙ sym was ∙ ap (connection_at before.connections) (sym same))
    (λ (not : other ≢ key). others other not)
    (same_key other key))
    same_past)
    asking
asking_at owner final until past from before after state key (Some old) (Some new) asking own opened was is others (later, isnt, same_past) =
    let step = step_later until before.worker after.worker old new state (asking.taken key) later (opened old refl) (asking.has_taken key old was) in
    subst (Asking owner final past from)
    (same_view after.worker after.worker (with_at (connection_at before.connections) key (Some new)) (connection_at after.connections) before.connections.ended.connections after.connections.ended.connections refl
    (changed_live (connection_at before.connections) (connection_at after.connections) key (Some new) is others) same_past)
    (asking_served owner final past from (view_of before) asking key old new was after.worker step own)
asking_at owner final until past from before after state key (Some old) None asking own opened was is others (last, same_past, later, closed) =
    let live = connection_at before.connections in
    let step = step_later until before.worker after.worker old last Closed (asking.taken key) later (opened old refl) (asking.has_taken key old was) in
    let many = length before.connections.ended.connections in
    let then = asking_served owner (with_at final key many) past from (view_of before) asking key old last was after.worker step own in
    subst (Asking owner final past from)
    (same_view after.worker after.worker (with_at (with_at live key (Some last)) key None) (connection_at after.connections) (last ∷ before.connections.ended.connections) after.connections.ended.connections refl
    (changed_live (with_at live key (Some last)) (connection_at after.connections) key None is (λ other not. others other not ∙ sym (at_others live key (Some last) other not)))
    same_past)
    (asking_gone owner final past from (view after.worker (with_at live key (Some last)) before.connections.ended.connections) key then last (at_key live key (Some last) key refl))

pub asking_serving : (owner : ℕ → ℕ → ℕ) (final : ℕ → ℕ) (until : Bool) (past : InTurn) (from : ℕ) (before after : Standing) → IsSound OfAny ends_anywhere past.served before →
    (one : ServesOne until before after) → Asking owner (final_then until before after one final) past from (view_of before) →
    ((number : ℕ) → length (announced_of before.worker) ≤ number → number < length (announced_of after.worker) →
    owner (length past.served) number ≡ final_then until before after one final one.key) → Asking owner final past from (view_of after)
asking_serving owner final until past from before after sound one asking own =
    asking_at owner final until past from before after one.state one.key (connection_at before.connections one.key) (connection_at after.connections one.key) asking own
    (λ connection at. (sound.lives one.key connection at).going) refl refl one.serves.others one.serves.becomes

pub asking_catching : (owner : ℕ → ℕ → ℕ) (final : ℕ → ℕ) (past : InTurn) (from : ℕ) (before after : Standing) → Asking owner final past from (view_of before) → KeepsUp before after →
    Asking owner final past from (view_of after)
asking_catching owner final past from before after asking caught =
    subst (Asking owner final past from)
    (same_view after.worker after.worker (connection_at before.connections) (connection_at after.connections) before.connections.ended.connections after.connections.ended.connections refl
    (λ key. ap (λ (connections : Connections). connection_at connections key) caught.connections)
    (ap (λ (connections : Connections). connections.ended.connections) caught.connections))
    (asking_caught owner final past from (view_of before) asking after.worker caught.worker)

-- with no connection yet nothing was asked for, and nothing announced
pub asking_first : (owner : ℕ → ℕ → ℕ) (final : ℕ → ℕ) (standing : Standing) → IsUnused standing.connections → Asking owner final nobody (length (announced_of standing.worker)) (view_of standing)
asking_first owner final standing new = record {
  taken = λ key. [];
  has_taken = λ key connection at. absurd (none-some connection (sym (nothing_at standing.connections.by_key.slots (eqb-true _ 0 new.0) key) ∙ at));
  asker = λ number. ended_after 0;
  request = λ number. 0;
  found = λ number low high. let no : ⊥ = omega (arith, low, high) in absurd no;
  in_order = λ one two low less high same. let no : ⊥ = omega (arith, low, less, high) in absurd no;
  as_many = refl;
  past_asker = λ which. ended_after 0;
  past_request = λ which. 0;
  past_found = λ which worker is. absurd (none-some worker is.is);
  past_in_order = λ one two first second a b earlier same. absurd (none-some first a.is);
  across = λ which worker is number low high same. absurd (none-some worker is.is);
  owned = λ number low high. let no : ⊥ = omega (arith, low, high) in absurd no;
  past_owned = λ which worker is. absurd (none-some worker is.is);
}

-- an element of a list, or the one that was put at its end
at_end : {X : Type 0} (list : List X) (x y : X) (place : ℕ) → slice_get (list ++ x ∷ []) place ≡ Some y →
    ((place < length list) × (slice_get list place ≡ Some y)) ⊎ ((place ≡ length list) × (x ≡ y))
at_end [] x y zero at = inr (refl, same_Some x y at)
at_end [] x y (suc place) at = absurd (none-some y at)
at_end (z ∷ list) x y zero at = inl (omega arith, at)
at_end (z ∷ list) x y (suc place) at =
    ⊎_elim (λ inside. inl (omega (arith, inside.0), inside.1)) (λ last. inr (omega (arith, last.0), last.1)) (at_end list x y place at)

-- The next worker takes over, on the next log: the worker's commands are those of an earlier log.
module _ (owner : ℕ → ℕ → ℕ) (final : ℕ → ℕ) (past : InTurn) (before worker next : Worker) (live : ℕ → Option Connection) (ended : List Connection)
    (asking : Asking owner final past (length (announced_of before)) (view worker live ended)) where
  abbrev now_past : InTurn
  now_past = followed_by past before worker

  -- the log on which the worker has served
  abbrev here : ℕ
  here = length past.begun

  was_earlier : (which : Announcement) (one : Worker) → which.log ≢ here → WasAnnounced now_past which one → WasAnnounced past which one
  was_earlier which one not is = record {
    first = is.first;
    was = ⊎_elim (λ inside. inside.1) (λ last. absurd (not last.0)) (at_end past.begun before is.first which.log is.was);
    is = ⊎_elim (λ inside. inside.1) (λ last. absurd (not (last.0 ∙ asking.as_many))) (at_end past.served worker one which.log is.is);
    since = is.since;
    by_now = is.by_now;
  }

  was_here : (which : Announcement) (one : Worker) → which.log ≡ here → WasAnnounced now_past which one →
      (worker ≡ one) × (length (announced_of before) ≤ which.number) × (which.number < length (announced_of worker))
  was_here which one log is =
      let first : before ≡ is.first =
      ⊎_elim (λ inside. let no : ⊥ = omega (arith, log, inside.0) in absurd no) (λ last. last.1) (at_end past.begun before is.first which.log is.was) in
      let last : worker ≡ one =
      ⊎_elim (λ inside. let no : ⊥ = omega (arith, log, inside.0, asking.as_many) in absurd no) (λ last. last.1) (at_end past.served worker one which.log is.is) in (
        last,
        subst (λ (worker : Worker). length (announced_of worker) ≤ which.number) (sym first) is.since,
        subst (λ (worker : Worker). which.number < length (announced_of worker)) (sym last) is.by_now,
      )

  -- an earlier log's number is below
  is_below : (which : Announcement) (one : Worker) → which.log ≢ here → WasAnnounced now_past which one → which.log < here
  is_below which one not is = ⊎_elim (λ inside. inside.0) (λ last. absurd (not last.0)) (at_end past.begun before is.first which.log is.was)

  abbrev asker_then : (which : Announcement) → ((which.log ≡ here) ⊎ (which.log ≢ here)) → Who
  asker_then which either = pick (asking.asker which.number) (asking.past_asker which) either

  abbrev request_then : (which : Announcement) → ((which.log ≡ here) ⊎ (which.log ≢ here)) → ℕ
  request_then which either = pick (asking.request which.number) (asking.past_request which) either

  found_past : (which : Announcement) (one : Worker) (either : (which.log ≡ here) ⊎ (which.log ≢ here)) → WasAnnounced now_past which one →
      Found one (view next live ended) asking.taken which.number (asker_then which either) (request_then which either)
  found_past which one (inl log) is =
      let it = was_here which one log is in
      subst (λ (one : Worker). Found one (view next live ended) asking.taken which.number (asking.asker which.number) (asking.request which.number)) it.0
      (found_kept worker worker next (continues_self worker) (view worker live ended) asking.taken which.number (asking.asker which.number) (asking.request which.number)
      (asking.found which.number it.1 it.2))
  found_past which one (inr not) is =
      found_kept one one next (continues_self one) (view worker live ended) asking.taken which.number (asking.past_asker which) (asking.past_request which)
      (asking.past_found which one (was_earlier which one not is))

  in_order_past : (one two : Announcement) (first second : Worker) (a : (one.log ≡ here) ⊎ (one.log ≢ here)) (b : (two.log ≡ here) ⊎ (two.log ≢ here)) →
      WasAnnounced now_past one first → WasAnnounced now_past two second → IsEarlier one two → asker_then one a ≡ asker_then two b → request_then one a < request_then two b
  in_order_past one two first second (inl a) (inl b) is_one is_two earlier same =
      let less : one.number < two.number =
      ⊎_elim (λ (log : one.log < two.log). let no : ⊥ = omega (arith, a, b, log) in absurd no) (λ both. both.1) earlier in
      asking.in_order one.number two.number (was_here one first a is_one).1 less (was_here two second b is_two).2 same
  in_order_past one two first second (inl a) (inr b) is_one is_two earlier same =
      let below = is_below two second b is_two in
      let no : ⊥ = ⊎_elim (λ (log : one.log < two.log). omega (arith, a, log, below)) (λ both. omega (arith, a, both.0, below)) earlier in
      absurd no
  in_order_past one two first second (inr a) (inl b) is_one is_two earlier same =
      let it = was_here two second b is_two in
      asking.across one first (was_earlier one first a is_one) two.number it.1 it.2 same
  in_order_past one two first second (inr a) (inr b) is_one is_two earlier same =
      asking.past_in_order one two first second (was_earlier one first a is_one) (was_earlier two second b is_two) earlier same

  owned_past : (which : Announcement) (one : Worker) (either : (which.log ≡ here) ⊎ (which.log ≢ here)) → WasAnnounced now_past which one →
      place_of final (asker_then which either) ≡ owner which.log which.number
  owned_past which one (inl log) is =
      let it = was_here which one log is in asking.owned which.number it.1 it.2 ∙ ap (λ (log : ℕ). owner log which.number) (asking.as_many ∙ sym log)
  owned_past which one (inr not) is = asking.past_owned which one (was_earlier which one not is)

  pub asking_on_next_log : Asking owner final now_past (length (announced_of next)) (view next live ended)
  asking_on_next_log = record {
    taken = asking.taken;
    has_taken = asking.has_taken;
    asker = λ number. ended_after 0;
    request = λ number. 0;
    found = λ number low high. let no : ⊥ = omega (arith, low, high) in absurd no;
    in_order = λ one two low less high same. let no : ⊥ = omega (arith, low, less, high) in absurd no;
    as_many = length-append past.served (worker ∷ []) ∙ ap (λ n. n + 1) asking.as_many ∙ sym (length-append past.begun (before ∷ []));
    past_asker = λ which. asker_then which (same_key which.log here);
    past_request = λ which. request_then which (same_key which.log here);
    past_found = λ which one is. found_past which one (same_key which.log here) is;
    past_in_order = λ one two first second a b earlier same. in_order_past one two first second (same_key one.log here) (same_key two.log here) a b earlier same;
    across = λ which one is number low high same. let no : ⊥ = omega (arith, low, high) in absurd no;
    owned = λ number low high. let no : ⊥ = omega (arith, low, high) in absurd no;
    past_owned = λ which one is. owned_past which one (same_key which.log here) is;
  }

-- once no connection is left, all who asked have ended
module _ (owner : ℕ → ℕ → ℕ) (final : ℕ → ℕ) (past : InTurn) (from : ℕ) (v : View) (asking : Asking owner final past from v) (nothing : (key : ℕ) → v.live key ≡ None) where
  is_ended : (worker : Worker) (number : ℕ) (who : Who) (request : ℕ) → Found worker v asking.taken number who request → who ≡ ended_after (number_of who)
  is_ended worker number (ended_after asker) request found = refl
  is_ended worker number (stands_under key) request found = absurd (none-some found.connection (sym (nothing key) ∙ found.there))

  has_ended : (which : Announcement) (worker : Worker) → WasAnnounced past which worker → asking.past_asker which ≡ ended_after (number_of (asking.past_asker which))
  has_ended which worker is = is_ended worker which.number (asking.past_asker which) (asking.past_request which) (asking.past_found which worker is)

  pub as_asked : ((later earlier : List Connection) (connection : Connection) → v.ended ≡ later ++ connection ∷ earlier →
      WasAnsweredUnder (λ log number. (owner log number ≡ length earlier) × IsSince past.begun log number) past.served connection) → WereAnsweredAsAsked past.begun past.served v.ended
  as_asked answered = record {
    apart = record { owner = owner; answered = answered };
    asked = record {
      asker = λ which. number_of (asking.past_asker which);
      request = asking.past_request;
      asked = λ which worker is.
          subst (λ (who : Who). Found worker v asking.taken which.number who (asking.past_request which)) (has_ended which worker is) (asking.past_found which worker is);
      in_order = λ one two first second a b earlier same.
          asking.past_in_order one two first second a b earlier (has_ended one first a ∙ ap ended_after same ∙ sym (has_ended two second b));
    };
    owns = λ which worker is. sym (ap (place_of final) (has_ended which worker is)) ∙ asking.past_owned which worker is;
  }
