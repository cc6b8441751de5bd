-- What every connection has come to, while it is among those of a worker and once it has ended:
-- turn by turn, whatever the worker does for others in between.
use Rattle.std.proofs.Common.{◌≡◌, ◌≢◌, ◌⊎◌, ℕ, ◌+◌, ◌<◌, ◌≤◌, zero, suc, length, cond, Bool, true, false, List, [], ◌∷◌, ◌++◌, Option, Some, None, All, count_by, is_some, slice_get, slice_index_or, inl, inr, ⊎_elim, refl, sym, ap, subst, ◌∙◌, arith, append-nil, append_assoc}
use Rattle.std.specs.Bool.{MatchBool}
use Rattle.std.specs.List.{AllZip, list_any}
use Rattle.std.specs.Prelude.{◌||◌}
use Rattle.std.proofs.lemmas.List.Elements.{All-cons, All-nil}
use Rattle.std.proofs.lemmas.Bool.{eqb-true}
use Rattle.std.proofs.lemmas.List.Folds.{list_any-append}
use Rattle.std.proofs.lemmas.List.Sums.{sum_by-cons}
use Rattle.std.proofs.lemmas.Option.{get_or_from_slice_get, none-some, same_Some, slice_get_within}
use Rattle.mc_conn.specs.Alone.{first_mark}
use Rattle.mc_conn.specs.ConnFault.{CellTaken, ConnFault, CountsFailures, InputFailed, IsTold, OutOfMemory, OutputFailed}
use Rattle.mc_conn.specs.Ending.{Breaks, IsDone, MayStandBehind, Meets, Stops}
use Rattle.mc_conn.specs.Held.{Holding, HoldsNone, HoldsOn, IsRead, WaitsThen, lines_of, nothing_held}
use Rattle.uc_worker.specs.Going.{Continues}
use Rattle.mc_conn.specs.declared.conn.Role.{Role}
use Rattle.mc_conn.specs.Owed.{Demand, Logs, Mark, Owes, Says, demand_of, mark_of}
use Rattle.mc_conn.specs.Turn.{Takes, holding_of, queue_of, scene}
use Rattle.mc_conn.specs.declared.conn.State.{State}
use Rattle.mc_conn.specs.declared.conn.State.TheVariants.{Closed, Idle, Busy, Full}
use Rattle.uc_worker.specs.contracts.laws.WorkerGoesOn.TheImpl.{continues_self-value}
use Rattle.lists.specs.Lists.{BeginsWith}
use Rattle.mc_model.specs.declared.fault.Fault.{Fault}
use Rattle.mc_model.specs.declared.reply.Reply.TheVariants.{Refused}
use Rattle.mc_model.specs.declared.reply.TheConstants.WireNo.{OUT_OF_MEMORY}
use Rattle.mc_model.specs.declared.request.Request.{Request}
use Rattle.mc_conn.specs.Cited.{ReadsAs, ReadsOn, ends_stream, text}
use Rattle.mc_stream.specs.Event.{Event, failures, has_ended, moved}
use Rattle.mc_stream.specs.Stream.{Inflow, Outflow, both}
use Rattle.uc_worker.specs.Worker.{announced_of}
use Rattle.uc_worker.specs.declared.worker.Worker.{Worker}
use Rattle.lists.proofs.Public.{begins_longer}
use Rattle.mc_connections.specs.Life.{FailedSoOften, HasFault, IsBehind, LogsAreUnder, OwesInLogs, OwesInParts, PartsAreUnder, WasAnswered, WasAnsweredUnder, and_then, next_log, no_log, came_of, none_yet, sent_of, words_of}
use Rattle.mc_connections.specs.Seen.{WasSent}
use Rattle.mc_connections.specs.Serving.{Becomes, HasEnded, IsNewConnection, IsServedLater, connection_at, scene_of}
use Rattle.mc_connections.specs.InTurn.{HaveServedInTurn, InTurn, no_worker, one_on_next_log}
use Rattle.mc_connections.specs.Working.{IsUnused, KeepsUp, ServesOne, Standing, TakesIn, Works, begins, goes_on, standing}
use Rattle.mc_connections.specs.declared.arrival.Arrival.{Arrival}
use Rattle.mc_connections.specs.declared.past_connections.PastConnections.{PastConnections}
use Rattle.mc_connections.specs.declared.connection.Connection.{Connection}
use Rattle.mc_connections.specs.declared.connections.Connections.{Connections}

-- the end that a turn remembers was found
end_seen : (X Y : Type 0) (is was : Bool) (before after : Inflow) → MatchBool is ((was ≡ true) × (after ≡ before) ⊎ (has_ended after.events ≡ true) × X) Y →
    (was ≡ true → has_ended before.events ≡ true) → is ≡ true → has_ended after.events ≡ true
end_seen X Y true was before after found earlier it_is =
    ⊎_elim (λ same. ap (λ (input : Inflow). has_ended input.events) same.1 ∙ earlier same.0) (λ seen. seen.0) found
end_seen X Y false was before after found earlier it_is = cc

holds_nothing : (holding : Holding) → HoldsNone holding → HoldsOn holding [] []
holds_nothing holding none = subst (λ (waiting : Option Request). WaitsThen waiting (ReadsOn holding.lines holding.held []) []) (sym none.0) ((none.1 []).1 refl)

-- where no whole request is left, all that came reads as what was taken
whole_of : (role : Role) (came : List ℕ) (requests : List Request) (holding : Holding) → IsRead (nothing_held role) came requests holding → HoldsNone holding → ReadsAs (lines_of role) came requests
whole_of role came requests holding reads none =
    let nothing : HoldsOn holding [] [] = holds_nothing holding none in
    let all : ReadsAs (lines_of role) (came ++ []) (requests ++ []) = (reads [] (requests ++ [])).1 ([], refl, nothing) in
    subst (λ (bytes : List ℕ). ReadsAs (lines_of role) bytes requests) (append-nil came) (subst (ReadsAs (lines_of role) (came ++ [])) (append-nil requests) all)

-- the laws of what was read in parts, and of what is owed while the worker goes on
pub record PartsAddUp : Type 0 where
  pub read : (a b c : Holding) (came later : List ℕ) (first second : List Request) → IsRead a came first b → IsRead b later second c → IsRead a (came ++ later) (first ++ second) c
  pub owed : (old new : Worker) → Continues old new → (role : Role) (from : Mark) (requests : List Request) (bytes : List ℕ) (to : Mark) →
      Owes old role from requests bytes to → Owes new role from requests bytes to

-- what is owed, and that its numbers are the connection's own
abbrev pub OwnParts : (ℕ → Type 0) → Worker → Role → List Request → List ℕ → Mark → Type 0
OwnParts Own worker role requests owed to = (parts : OwesInParts worker role requests owed to) × PartsAreUnder Own parts

abbrev pub OwnLogs : (ℕ → ℕ → Type 0) → Role → List Worker → List Request → List ℕ → Type 0
OwnLogs Own role workers requests owed = (owes : OwesInLogs role workers requests owed) × LogsAreUnder Own owes

-- all numbers of a log that a worker has announced from the one moment on to the other
abbrev pub Announces : (ℕ → Type 0) → Worker → Worker → Type 0
Announces Own before after = (number : ℕ) → length (announced_of before) ≤ number → number < length (announced_of after) → Own number

-- a connection that no fault has closed: what it has taken and was sent, on earlier logs and on this
-- one, and what it holds of the rest
pub record Lives (Own : ℕ → ℕ → Type 0) (past : List Worker) (worker : Worker) (connection : Connection) : Type 0 where
  pub laws : PartsAddUp
  pub going : connection.conn.is_closed ≡ false
  unfailed : FailedSoOften connection 0 0
  earlier : List Request
  earlier_owed : List ℕ
  earlier_owes : OwnLogs Own connection.conn.role past earlier earlier_owed
  requests : List Request
  owed : List ℕ
  to : Mark
  reads : IsRead (nothing_held connection.conn.role) (came_of connection) (earlier ++ requests) (holding_of connection.conn)
  owes : OwnParts (Own (length past)) worker connection.conn.role requests owed to
  behind : IsBehind to (mark_of worker)
  bytes : sent_of connection ++ queue_of connection.conn ≡ earlier_owed ++ owed
  over : connection.conn.is_over ≡ list_any ends_stream (earlier ++ requests)
  end : connection.conn.has_ended ≡ true → has_ended connection.received.events ≡ true

-- what is owed in parts stays owed
parts_grow : (Own : ℕ → Type 0) → PartsAddUp → (old new : Worker) → Continues old new → (role : Role) (requests : List Request) (bytes : List ℕ) (to : Mark)
    (parts : OwesInParts old role requests bytes to) → PartsAreUnder Own parts → OwnParts Own new role requests bytes to
parts_grow Own laws old new on role _ _ _ none_yet own = (none_yet, tt)
parts_grow Own laws old new on role _ _ _ (and_then requests more bytes others to from last parts behind owes) own =
    let earlier = parts_grow Own laws old new on role requests bytes to parts own.0 in
    (and_then requests more bytes others to from last earlier.0 behind (laws.owed old new on role from more others last owes), (earlier.1, own.1))

-- requests that one worker took, on one log
pub in_one_log : (worker : Worker) (role : Role) (requests : List Request) (owed : List ℕ) (to : Mark) → OwesInParts worker role requests owed to → OwesInLogs role (worker ∷ []) requests owed
in_one_log worker role requests owed to parts =
    subst (λ (requests : List Request). OwesInLogs role (worker ∷ []) requests owed) (append-nil requests)
    (subst (λ (owed : List ℕ). OwesInLogs role (worker ∷ []) (requests ++ []) owed) (append-nil owed) (next_log worker [] requests [] owed [] to parts no_log))

own_in_one_log : (Own : ℕ → ℕ → Type 0) (worker : Worker) (role : Role) (requests : List Request) (owed : List ℕ) (to : Mark) → OwnParts (Own 0) worker role requests owed to →
    OwnLogs Own role (worker ∷ []) requests owed
own_in_one_log Own worker role requests owed to parts =
    subst (λ (requests : List Request). OwnLogs Own role (worker ∷ []) requests owed) (append-nil requests)
    (subst (λ (owed : List ℕ). OwnLogs Own role (worker ∷ []) (requests ++ []) owed) (append-nil owed)
    (next_log worker [] requests [] owed [] to parts.0 no_log, (parts.1, tt)))

-- what is owed by the first of the logs, where it is the last one too
abbrev pub OwesAlone : Role → List Worker → List Request → List ℕ → Type 0
OwesAlone role [] requests owed = (requests ≡ []) × (owed ≡ [])
OwesAlone role (worker ∷ []) requests owed = (to : Mark) × OwesInParts worker role requests owed to
OwesAlone role (worker ∷ (next ∷ workers)) requests owed = Unit {0}

behind_none : (worker : Worker) (workers : List Worker) (role : Role) (requests more : List Request) (bytes others : List ℕ) (to : Mark) → OwesInParts worker role requests bytes to →
    OwesAlone role workers more others → OwesAlone role (worker ∷ workers) (requests ++ more) (bytes ++ others)
behind_none worker [] role requests more bytes others to parts none = (
  to,
  subst (λ (all : List Request). OwesInParts worker role all (bytes ++ others) to) (sym (ap (λ (more : List Request). requests ++ more) none.0 ∙ append-nil requests))
      (subst (λ (all : List ℕ). OwesInParts worker role requests all to) (sym (ap (λ (others : List ℕ). bytes ++ others) none.1 ∙ append-nil bytes)) parts),
)
behind_none worker (next ∷ workers) role requests more bytes others to parts alone = tt

pub owes_alone : (role : Role) (workers : List Worker) (requests : List Request) (owed : List ℕ) → OwesInLogs role workers requests owed → OwesAlone role workers requests owed
owes_alone role _ _ _ no_log = (refl, refl)
owes_alone role _ _ _ (next_log worker workers requests more bytes others to parts owes) =
    behind_none worker workers role requests more bytes others to parts (owes_alone role workers more others owes)

pub of_one_log : (worker : Worker) (role : Role) (requests : List Request) (owed : List ℕ) → OwesInLogs role (worker ∷ []) requests owed → (to : Mark) × OwesInParts worker role requests owed to
of_one_log worker role requests owed owes = owes_alone role (worker ∷ []) requests owed owes

-- what earlier logs owe, and then this one
logs_then : (role : Role) (Own : ℕ → ℕ → Type 0) (past : List Worker) (earlier : List Request) (earlier_owed : List ℕ) (owes : OwesInLogs role past earlier earlier_owed) → LogsAreUnder Own owes →
    (worker : Worker) (requests : List Request) (owed : List ℕ) (to : Mark) → OwnParts (Own (length past)) worker role requests owed to →
    OwnLogs Own role (past ++ worker ∷ []) (earlier ++ requests) (earlier_owed ++ owed)
logs_then role Own _ _ _ no_log own worker requests owed to parts = own_in_one_log Own worker role requests owed to parts
logs_then role Own _ _ _ (next_log first workers earlier more bytes others from before owes) own worker requests owed to parts =
    let all = first ∷ (workers ++ worker ∷ []) in
    let later = logs_then role (λ log. Own (suc log)) workers more others owes own.1 worker requests owed to parts in
    subst (λ (requests : List Request). OwnLogs Own role all requests ((bytes ++ others) ++ owed)) (sym (append_assoc earlier more requests))
    (subst (λ (bytes : List ℕ). OwnLogs Own role all (earlier ++ (more ++ requests)) bytes) (sym (append_assoc bytes others owed))
    (next_log first (workers ++ worker ∷ []) earlier (more ++ requests) bytes (others ++ owed) from before later.0, (own.0, later.1)))

-- what the workers of logs owe they owe later on
logs_grow : (role : Role) (Own : ℕ → ℕ → Type 0) → PartsAddUp → (olds news : List Worker) (requests : List Request) (owed : List ℕ) → AllZip Continues olds news →
    (owes : OwesInLogs role olds requests owed) → LogsAreUnder Own owes → OwnLogs Own role news requests owed
logs_grow role Own laws _ [] _ _ on no_log own = (no_log, tt)
logs_grow role Own laws _ (z ∷ zs) _ _ on no_log own = absurd on
logs_grow role Own laws _ [] _ _ on (next_log worker workers requests more bytes others to parts owes) own = absurd on
logs_grow role Own laws _ (z ∷ zs) _ _ on (next_log worker workers requests more bytes others to parts owes) own =
    let first = parts_grow (Own 0) laws worker z on.0 role requests bytes to parts own.0 in
    let rest = logs_grow role (λ log. Own (suc log)) laws workers zs more others on.1 owes own.1 in
    (next_log z zs requests more bytes others to first.0 rest.0, (first.1, rest.1))

pub continues_self : (worker : Worker) → Continues worker worker
continues_self worker = continues_self-value.it worker

-- the last of the workers goes on
last_goes_on : (past : List Worker) (old new : Worker) → Continues old new → AllZip Continues (past ++ old ∷ []) (past ++ new ∷ [])
last_goes_on [] old new on = (on, tt)
last_goes_on (worker ∷ past) old new on = (continues_self worker, last_goes_on past old new on)

-- each of these connections, the latest first, was answered under numbers that are its own: those of
-- how many are behind it in the list
abbrev pub WereAnsweredUnder : (ℕ → ℕ → ℕ → Type 0) → List Worker → List Connection → Type 0
WereAnsweredUnder Own workers [] = Unit {0}
WereAnsweredUnder Own workers (connection ∷ earlier) =
    WasAnsweredUnder (Own (length earlier)) workers connection × WereAnsweredUnder Own workers earlier

-- what workers have answered, the last of them on this log
abbrev AnsweredBy : (ℕ → ℕ → Type 0) → List Worker → Worker → Connection → Type 0
AnsweredBy Own past worker = WasAnsweredUnder Own (past ++ worker ∷ [])

behind_grows : (old new : Worker) (to : Mark) → Continues old new → IsBehind to (mark_of old) → IsBehind to (mark_of new)
behind_grows old new to on behind =
    (omega (arith, behind.0, begins_longer _ _ on.announced), omega (arith, behind.1, begins_longer _ _ on.history))

lives_on : (Own : ℕ → ℕ → Type 0) (past : List Worker) (old new : Worker) (connection : Connection) → Continues old new → Lives Own past old connection → Lives Own past new connection
lives_on Own past old new connection on lives = record {
  laws = lives.laws;
  going = lives.going;
  unfailed = lives.unfailed;
  earlier = lives.earlier;
  earlier_owed = lives.earlier_owed;
  earlier_owes = lives.earlier_owes;
  requests = lives.requests;
  owed = lives.owed;
  to = lives.to;
  reads = lives.reads;
  owes = parts_grow (Own (length past)) lives.laws old new on connection.conn.role lives.requests lives.owed lives.to lives.owes.0 lives.owes.1;
  behind = behind_grows old new lives.to on lives.behind;
  bytes = lives.bytes;
  over = lives.over;
  end = lives.end;
}

-- the next worker has the connection, on the next log
lives_on_next_log : (Own : ℕ → ℕ → Type 0) (past : List Worker) (worker next : Worker) (connection : Connection) → Lives Own past worker connection → Lives Own (past ++ worker ∷ []) next connection
lives_on_next_log Own past worker next connection lives =
    let all = lives.earlier ++ lives.requests in
    record {
      laws = lives.laws;
      going = lives.going;
      unfailed = lives.unfailed;
      earlier = all;
      earlier_owed = lives.earlier_owed ++ lives.owed;
      earlier_owes =
          logs_then connection.conn.role Own past lives.earlier lives.earlier_owed lives.earlier_owes.0 lives.earlier_owes.1 worker lives.requests lives.owed lives.to lives.owes;
      requests = [];
      owed = [];
      to = first_mark;
      reads = subst (λ (requests : List Request). IsRead (nothing_held connection.conn.role) (came_of connection) requests (holding_of connection.conn)) (sym (append-nil all)) lives.reads;
      owes = (none_yet, tt);
      behind = (omega arith, omega arith);
      bytes = lives.bytes ∙ sym (append-nil (lives.earlier_owed ++ lives.owed));
      over = lives.over ∙ ap (list_any ends_stream) (sym (append-nil all));
      end = lives.end;
    }

answered_on : (Own : ℕ → ℕ → Type 0) → PartsAddUp → (past : List Worker) (old new : Worker) (connection : Connection) → Continues old new → AnsweredBy Own past old connection →
    AnsweredBy Own past new connection
answered_on Own laws past old new connection on it =
    let answered = it.answered in
    let owes =
    logs_grow connection.conn.role Own laws (past ++ old ∷ []) (past ++ new ∷ []) answered.requests answered.owed (last_goes_on past old new on) answered.owes it.under
    in
    record {
      answered = record { requests = answered.requests; owed = answered.owed; first = answered.first; owes = owes.0; ending = answered.ending };
      under = owes.1;
    }

-- the next worker takes nothing of a connection that has ended
answered_on_next_log : (Own : ℕ → ℕ → Type 0) (past : List Worker) (next : Worker) (connection : Connection) → WasAnsweredUnder Own past connection → AnsweredBy Own past next connection
answered_on_next_log Own past next connection it =
    let answered = it.answered in
    let role = connection.conn.role in
    let all = past ++ next ∷ [] in
    let owes : OwnLogs Own role all answered.requests answered.owed =
    subst (λ (requests : List Request). OwnLogs Own role all requests answered.owed) (append-nil answered.requests)
    (subst (λ (owed : List ℕ). OwnLogs Own role all (answered.requests ++ []) owed) (append-nil answered.owed)
    (logs_then role Own past answered.requests answered.owed answered.owes it.under next [] [] first_mark (none_yet, tt)))
    in
    record {
      answered = record { requests = answered.requests; owed = answered.owed; first = answered.first; owes = owes.0; ending = answered.ending };
      under = owes.1;
    }

-- logs of which nothing was asked owe nothing
nothing_owed : (Own : ℕ → ℕ → Type 0) (role : Role) (past : List Worker) → OwnLogs Own role past [] []
nothing_owed Own role [] = (no_log, tt)
nothing_owed Own role (worker ∷ past) =
    let rest = nothing_owed (λ log. Own (suc log)) role past in (next_log worker past [] [] [] [] first_mark none_yet rest.0, (tt, rest.1))

-- an arrival's connection
lives_fresh : (Own : ℕ → ℕ → Type 0) → PartsAddUp → (past : List Worker) (worker : Worker) (connection : Connection) (arrival : Arrival _) → IsNewConnection connection arrival →
    Lives Own past worker connection
lives_fresh Own laws past worker connection arrival fresh = record {
  laws = laws;
  going = fresh.going.2;
  unfailed = (ap failures fresh.tapes.0, ap failures fresh.tapes.1);
  earlier = [];
  earlier_owed = [];
  earlier_owes = nothing_owed Own connection.conn.role past;
  requests = [];
  owed = [];
  to = first_mark;
  reads =
      let nothing = nothing_held connection.conn.role in
      subst (λ (events : List Event). IsRead nothing (moved events) [] (holding_of connection.conn)) (sym fresh.tapes.0)
      (subst (λ (holding : Holding). IsRead nothing [] [] holding) (sym fresh.holding)
      (λ more all. ((λ reads. (all, refl, reads)), (λ back. subst (HoldsOn nothing more) (sym back.1) back.2))));
  owes = (none_yet, tt);
  behind = (omega arith, omega arith);
  bytes = ap (λ (events : List Event). moved events ++ queue_of connection.conn) fresh.tapes.1 ∙ fresh.queue;
  over = fresh.going.1;
  end = λ is. let no : false ≡ true = sym fresh.going.0 ∙ is in cc;
}

-- what all that came reads as, given for what had come earlier and then for all that came after it
pub reads_from_earlier : (old new : Connection) (came more : List ℕ) (all : List Request) → new.conn.role ≡ old.conn.role → came_of new ≡ came_of old ++ came →
    ReadsAs (lines_of new.conn.role) (came_of new ++ more) all → ReadsAs (lines_of old.conn.role) (came_of old ++ (came ++ more)) all
reads_from_earlier old new came more all role pulled reads =
    subst (λ (role : Role). ReadsAs (lines_of role) (came_of old ++ (came ++ more)) all) role
    (subst (λ (bytes : List ℕ). ReadsAs (lines_of new.conn.role) bytes all) (ap (λ (bytes : List ℕ). bytes ++ more) pulled ∙ append_assoc (came_of old) came more) reads)

-- a request that met a fault takes one more number at most
met_behind : (worker : Worker) (mark : Mark) (demand : Demand) → MayStandBehind worker mark demand → mark.number ≤ length (announced_of worker)
met_behind worker mark (Logs tenant command quiet) stands = ⊎_elim (λ none. omega (arith, none)) (λ one. omega (arith, one.0)) stands
met_behind worker mark (Says said) stands = omega (arith, stands)

met_no_further : (worker : Worker) (role : Role) (mark : Mark) (met : List Request) → Meets worker role mark met → mark.number ≤ length (announced_of worker)
met_no_further worker role mark [] meets = omega (arith, meets)
met_no_further worker role mark (request ∷ others) meets = met_behind worker mark (demand_of role request) meets.1

module _ (Own : ℕ → ℕ → Type 0) (past : List Worker) (before after : Worker) (old new : Connection) (role : new.conn.role ≡ old.conn.role) (lives : Lives Own past before old)
    (own : Announces (Own (length past)) before after) where
  -- what earlier logs owe
  earlier_still : OwnLogs Own new.conn.role past lives.earlier lives.earlier_owed
  earlier_still = subst (λ (role : Role). OwnLogs Own role past lives.earlier lives.earlier_owed) (sym role) lives.earlier_owes

  -- the parts so far, over the worker as it is later on
  parts_so_far : Continues before after → OwnParts (Own (length past)) after new.conn.role lives.requests lives.owed lives.to
  parts_so_far on =
      subst (λ (role : Role). OwnParts (Own (length past)) after role lives.requests lives.owed lives.to) (sym role)
      (parts_grow (Own (length past)) lives.laws before after on old.conn.role lives.requests lives.owed lives.to lives.owes.0 lives.owes.1)

  -- and one more, up to a mark that the worker isn't before
  part_more : (to : Mark) (requests : List Request) (owed : List ℕ) → Continues before after → to.number ≤ length (announced_of after) → Owes after old.conn.role (mark_of before) requests owed to →
      OwnParts (Own (length past)) after new.conn.role (lives.requests ++ requests) (lives.owed ++ owed) to
  part_more to requests owed on far owes =
      let earlier = parts_so_far on in (
        and_then lives.requests requests lives.owed owed lives.to (mark_of before) to earlier.0 lives.behind
            (subst (λ (role : Role). Owes after role (mark_of before) requests owed to) (sym role) owes),
        (earlier.1, λ number low high. own number low (omega (arith, high, far))),
      )

  -- turns without a fault
  lives_taking : Takes (scene_of old before) (scene_of new after) → Lives Own past after new
  lives_taking takes = record {
    laws = lives.laws;
    going = takes.shut ∙ lives.going;
    unfailed = (takes.unfailed.0 ∙ lives.unfailed.0, takes.unfailed.1 ∙ lives.unfailed.1);
    earlier = lives.earlier;
    earlier_owed = lives.earlier_owed;
    earlier_owes = earlier_still;
    requests = lives.requests ++ takes.taken.requests;
    owed = lives.owed ++ takes.taken.owed;
    to = mark_of after;
    reads =
        subst (λ (came : List ℕ). IsRead (nothing_held new.conn.role) came (lives.earlier ++ (lives.requests ++ takes.taken.requests)) (holding_of new.conn)) (sym takes.taken.pulled)
        (subst (λ (role : Role). IsRead (nothing_held role) (came_of old ++ takes.taken.came) (lives.earlier ++ (lives.requests ++ takes.taken.requests)) (holding_of new.conn)) (sym role)
        (subst (λ (requests : List Request). IsRead (nothing_held old.conn.role) (came_of old ++ takes.taken.came) requests (holding_of new.conn))
        (append_assoc lives.earlier lives.requests takes.taken.requests)
        (lives.laws.read (nothing_held old.conn.role) (holding_of old.conn) (holding_of new.conn) (came_of old) takes.taken.came (lives.earlier ++ lives.requests) takes.taken.requests lives.reads takes.reads)));
    owes = part_more (mark_of after) takes.taken.requests takes.taken.owed takes.taken.onward (omega arith) takes.taken.owes;
    behind = (omega arith, omega arith);
    bytes =
        ap (λ (sent : List ℕ). sent ++ queue_of new.conn) takes.taken.pushed
        ∙ append_assoc (sent_of old) takes.taken.sent (queue_of new.conn)
        ∙ ap (λ (bytes : List ℕ). sent_of old ++ bytes) takes.taken.bytes
        ∙ sym (append_assoc (sent_of old) (queue_of old.conn) takes.taken.owed)
        ∙ ap (λ (bytes : List ℕ). bytes ++ takes.taken.owed) lives.bytes
        ∙ append_assoc lives.earlier_owed lives.owed takes.taken.owed;
    over =
        takes.over
        ∙ ap (λ (is : Bool). is || list_any ends_stream takes.taken.requests) lives.over
        ∙ sym (list_any-append ends_stream (lives.earlier ++ lives.requests) takes.taken.requests)
        ∙ ap (list_any ends_stream) (append_assoc lives.earlier lives.requests takes.taken.requests);
    end = end_seen _ _ new.conn.has_ended old.conn.has_ended (scene_of old before).streams.input (scene_of new after).streams.input takes.end lives.end;
  }

  -- Up to a fault. The output is treated apart, since words about the fault may have been sent
  -- after it.
  module _ (fault : Fault) (between : Outflow) (shut : new.conn.is_closed ≡ true)
      (breaks : Breaks (scene_of old before) (scene new.conn after (both (record { events = new.received.events; left = None }) between)) fault) where
    abbrev owed_then : List ℕ
    owed_then = lives.earlier_owed ++ (lives.owed ++ breaks.taken.owed)

    abbrev requests_then : List Request
    requests_then = lives.earlier ++ (lives.requests ++ breaks.taken.requests)

    all_queued : moved between.events ++ queue_of new.conn ≡ owed_then
    all_queued =
        ap (λ (sent : List ℕ). sent ++ queue_of new.conn) breaks.taken.pushed
        ∙ append_assoc (sent_of old) breaks.taken.sent (queue_of new.conn)
        ∙ ap (λ (bytes : List ℕ). sent_of old ++ bytes) breaks.taken.bytes
        ∙ sym (append_assoc (sent_of old) (queue_of old.conn) breaks.taken.owed)
        ∙ ap (λ (bytes : List ℕ). bytes ++ breaks.taken.owed) lives.bytes
        ∙ append_assoc lives.earlier_owed lives.owed breaks.taken.owed

    first_requests : (more : List ℕ) (all : List Request) → ReadsAs (lines_of new.conn.role) (came_of new ++ more) all → BeginsWith all requests_then
    first_requests more all reads =
        let one = (lives.reads (breaks.taken.came ++ more) all).0 (reads_from_earlier old new breaks.taken.came more all role breaks.taken.pulled reads) in
        let two = breaks.reads more one.0 one.2 in
        let taken = lives.earlier ++ lives.requests in (
          breaks.met ++ two.0,
          one.1
              ∙ ap (λ (others : List Request). taken ++ others) two.1
              ∙ sym (append_assoc taken breaks.taken.requests (breaks.met ++ two.0))
              ∙ ap (λ (requests : List Request). requests ++ (breaks.met ++ two.0)) (append_assoc lives.earlier lives.requests breaks.taken.requests),
        )

    owes_broken : OwnLogs Own new.conn.role (past ++ after ∷ []) requests_then owed_then
    owes_broken =
        logs_then new.conn.role Own past lives.earlier lives.earlier_owed earlier_still.0 earlier_still.1 after _ _ breaks.to
        (part_more breaks.to breaks.taken.requests breaks.taken.owed breaks.taken.onward (met_no_further after old.conn.role breaks.to breaks.met breaks.meets) breaks.taken.owes)

    answered_broken : (cause : ConnFault) → HasFault cause new → BeginsWith ((moved between.events ++ queue_of new.conn) ++ words_of cause) (sent_of new) → AnsweredBy Own past after new
    answered_broken cause why sent = record {
      answered = record {
        requests = requests_then;
        owed = owed_then;
        first = first_requests;
        owes = owes_broken.0;
        ending = inr (record { closed = shut; fault = cause; why = why; sent = subst (λ (owed : List ℕ). BeginsWith (owed ++ words_of cause) (sent_of new)) all_queued sent });
      };
      under = owes_broken.1;
    }

    -- what was told about it, if anything was
    module _ (told_to : Outflow) (said : told_to ≡ record { events = new.sent.events }) where
      -- nothing was told
      untold : told_to ≡ between → BeginsWith ((moved between.events ++ queue_of new.conn) ++ []) (sent_of new)
      untold same = (
        queue_of new.conn,
        append-nil (moved between.events ++ queue_of new.conn) ∙ ap (λ (output : Outflow). moved output.events ++ queue_of new.conn) (sym same ∙ said),
      )

      failed_before : told_to ≡ between → failures new.sent.events ≡ failures between.events
      failed_before same = ap (λ (output : Outflow). failures output.events) (sym said ∙ same)

      answered_told : (cause : ConnFault) → CountsFailures cause (scene_of old before).streams (both (record { events = new.received.events; left = None }) between) →
          IsTold cause (queue_of new.conn) between told_to → AnsweredBy Own past after new
      answered_told OutOfMemory counts told =
          let rest = told.0.0 in
          let unqueues = told.0.1 in
          answered_broken OutOfMemory (counts.0 ∙ lives.unfailed.0) (
            rest,
            append_assoc (moved between.events) (queue_of new.conn) (text (Refused OUT_OF_MEMORY))
                ∙ ap (λ (bytes : List ℕ). moved between.events ++ bytes) unqueues.split
                ∙ sym (append_assoc (moved between.events) unqueues.front rest)
                ∙ ap (λ (sent : List ℕ). sent ++ rest) (sym unqueues.went ∙ ap (λ (output : Outflow). moved output.events) said),
          )
      answered_told CellTaken counts told =
          answered_broken CellTaken (counts.0 ∙ lives.unfailed.0, failed_before told ∙ counts.1 ∙ lives.unfailed.1) (untold told)
      answered_told InputFailed counts told =
          answered_broken InputFailed (counts.0 ∙ ap (λ n. n + 1) lives.unfailed.0, failed_before told ∙ counts.1 ∙ lives.unfailed.1) (untold told)
      answered_told OutputFailed counts told =
          answered_broken OutputFailed (counts.0 ∙ lives.unfailed.0, failed_before told ∙ counts.1 ∙ ap (λ n. n + 1) lives.unfailed.1) (untold told)

  answered_stopping : (fault : Fault) → Stops (scene_of old before) (scene_of new after) fault → AnsweredBy Own past after new
  answered_stopping fault stops =
      answered_told fault stops.told_from stops.shut stops.breaks (record { events = new.sent.events }) refl stops.breaks.cause stops.breaks.failures stops.told

-- a connection on which nothing is left to be done
answered_done : (Own : ℕ → ℕ → Type 0) (past : List Worker) (worker : Worker) (connection : Connection) → Lives Own past worker connection → IsDone connection.conn → AnsweredBy Own past worker connection
answered_done Own past worker connection lives done =
    let owes =
    logs_then connection.conn.role Own past lives.earlier lives.earlier_owed lives.earlier_owes.0 lives.earlier_owes.1 worker lives.requests lives.owed lives.to lives.owes
    in
    record {
      answered = record {
        requests = lives.earlier ++ lives.requests;
        owed = lives.earlier_owed ++ lives.owed;
        first = λ more all reads. let then = (lives.reads more all).0 reads in (then.0, then.1);
        owes = owes.0;
        ending = inl (record {
          unfailed = lives.unfailed;
          end = ⊎_elim (λ ended. inl (lives.end ended)) (λ is_over. inr (sym lives.over ∙ is_over)) done.0;
          whole = whole_of connection.conn.role (came_of connection) (lives.earlier ++ lives.requests) (holding_of connection.conn) lives.reads done.1;
          sent = sym (append-nil (sent_of connection)) ∙ ap (λ (queue : List ℕ). sent_of connection ++ queue) (sym done.2) ∙ lives.bytes;
        });
      };
      under = owes.1;
    }

-- Whose the numbers of each connection are is said by the place at which it ends, among those that
-- have ended: of one that goes on, by what `final` says of its key.
module _ (Own : ℕ → ℕ → ℕ → Type 0) where
  -- what has ended was answered
  abbrev AllBy : List Worker → Worker → List Connection → Type 0
  AllBy past worker = WereAnsweredUnder Own (past ++ worker ∷ [])

  all_on : PartsAddUp → (past : List Worker) (old new : Worker) → Continues old new → (list : List Connection) → AllBy past old list → AllBy past new list
  all_on laws past old new on [] all = tt
  all_on laws past old new on (x ∷ list) all = (answered_on (Own (length list)) laws past old new x on all.0, all_on laws past old new on list all.1)

  all_on_next_log : (past : List Worker) (next : Worker) (list : List Connection) → WereAnsweredUnder Own past list → AllBy past next list
  all_on_next_log past next [] all = tt
  all_on_next_log past next (x ∷ list) all = (answered_on_next_log (Own (length list)) past next x all.0, all_on_next_log past next list all.1)

later_onward : (until : Bool) (before after : Worker) (old new : Connection) (state : State) → IsServedLater until before after old new state → Continues before after
later_onward until before after old new state later =
    ⊎_elim (λ served. served.taken.onward) (λ stopped. stopped.1.breaks.taken.onward) later.served.how

going_on : (until : Bool) (before after : Worker) (old new : Connection) (state : State) → state ≢ Closed → IsServedLater until before after old new state → ¬ (HasEnded new.conn)
going_on until before after old new Closed isnt later = absurd (isnt refl)
going_on until before after old new Idle isnt later = later.stands.going
going_on until before after old new Busy isnt later = later.stands.going
going_on until before after old new Full isnt later = later.stands.1.going

later_lives : (Own : ℕ → ℕ → Type 0) (until : Bool) (past : List Worker) (before after : Worker) (old new : Connection) (state : State) → state ≢ Closed →
    IsServedLater until before after old new state → Announces (Own (length past)) before after → Lives Own past before old → Lives Own past after new
later_lives Own until past before after old new state isnt later own lives =
    ⊎_elim
    (λ served. lives_taking Own past before after old new later.role lives own served)
    (λ stopped. absurd (going_on until before after old new state isnt later (inl stopped.1.shut)))
    later.served.how

later_answered : (Own : ℕ → ℕ → Type 0) (until : Bool) (past : List Worker) (before after : Worker) (old new : Connection) → IsServedLater until before after old new Closed →
    Announces (Own (length past)) before after → Lives Own past before old → AnsweredBy Own past after new
later_answered Own until past before after old new later own lives =
    ⊎_elim
    (λ served.
    let still = lives_taking Own past before after old new later.role lives own served in
    ⊎_elim (λ closed. let no : false ≡ true = sym still.going ∙ closed in cc) (answered_done Own past after new still) later.stands)
    (λ stopped. answered_stopping Own past before after old new later.role lives own stopped.0 stopped.1)
    later.served.how

pub same_key : (one two : ℕ) → (one ≡ two) ⊎ (one ≢ two)
same_key zero zero = inl refl
same_key zero (suc two) = inr (λ is. omega (arith, is))
same_key (suc one) zero = inr (λ is. omega (arith, is))
same_key (suc one) (suc two) = ⊎_elim (λ is. inl (ap (λ n. suc n) is)) (λ not. inr (λ is. not (omega (arith, is)))) (same_key one two)

-- a function, but for one number
module _ {X : Type 0} where
  abbrev pub pick : {P Q : Type 0} → X → X → P ⊎ Q → X
  pick one other (inl is) = one
  pick one other (inr not) = other

  abbrev pub with_at : (ℕ → X) → ℕ → X → ℕ → X
  with_at each key x number = pick x (each number) (same_key number key)

  pub picks_one : (number key : ℕ) (one other : X) (either : (number ≡ key) ⊎ (number ≢ key)) → number ≡ key → pick one other either ≡ one
  picks_one number key one other (inl is) same = refl
  picks_one number key one other (inr not) same = absurd (not same)

  pub picks_other : (number key : ℕ) (one other : X) (either : (number ≡ key) ⊎ (number ≢ key)) → number ≢ key → pick one other either ≡ other
  picks_other number key one other (inl is) apart = absurd (apart is)
  picks_other number key one other (inr not) apart = refl

  pub at_key : (each : ℕ → X) (key : ℕ) (x : X) (number : ℕ) → number ≡ key → with_at each key x number ≡ x
  at_key each key x number is = picks_one number key x (each number) (same_key number key) is

  pub at_others : (each : ℕ → X) (key : ℕ) (x : X) (number : ℕ) → number ≢ key → with_at each key x number ≡ each number
  at_others each key x number not = picks_other number key x (each number) (same_key number key) not

-- where connections end, before one under a key has had its turns: if none is left there, it has ended
-- behind this many
abbrev pub final_before : Option Connection → Option Connection → (ℕ → ℕ) → ℕ → ℕ → ℕ → ℕ
final_before None new final key many = final
final_before (Some old) (Some new) final key many = final
final_before (Some old) None final key many = with_at final key many

abbrev pub final_then : (until : Bool) (before after : Standing) → ServesOne until before after → (ℕ → ℕ) → ℕ → ℕ
final_then until before after one final =
    final_before (connection_at before.connections one.key) (connection_at after.connections one.key) final one.key (length before.connections.ended.connections)

module _ (Own : ℕ → ℕ → ℕ → Type 0) where
  -- one step under a key: the worker goes on, what stays lives, and what has ended was answered
  record Steps (final : ℕ → ℕ) (past : List Worker) (before after : Standing) (key : ℕ) (old new : Option Connection) : Type 0 where
    onward : Continues before.worker after.worker
    stays : (connection : Connection) → new ≡ Some connection → Lives (Own (final key)) past after.worker connection
    others : (other : ℕ) → other ≢ key → final_before old new final key (length before.connections.ended.connections) other ≡ final other
    ended : AllBy Own past before.worker before.connections.ended.connections → AllBy Own past after.worker after.connections.ended.connections

  -- there was none, it stays, or it has ended
  none_there : (final : ℕ → ℕ) (past : List Worker) (before after : Standing) (key : ℕ) → after.worker ≡ before.worker →
      after.connections.ended.connections ≡ before.connections.ended.connections → Steps final past before after key None None
  none_there final past before after key still same = record {
    onward = subst (Continues before.worker) (sym still) (continues_self before.worker);
    stays = λ connection is. absurd (none-some connection is);
    others = λ other not. refl;
    ended = λ all. subst (λ (worker : Worker). AllBy Own past worker after.connections.ended.connections) (sym still) (subst (AllBy Own past before.worker) (sym same) all);
  }

  stays_there : (final : ℕ → ℕ) (until : Bool) (past : List Worker) (before after : Standing) (key : ℕ) (state : State) (old new : Connection) →
      Lives (Own (final key)) past before.worker old → Announces (Own (final key) (length past)) before.worker after.worker → IsServedLater until before.worker after.worker old new state →
      state ≢ Closed → after.connections.ended.connections ≡ before.connections.ended.connections → Steps final past before after key (Some old) (Some new)
  stays_there final until past before after key state old new lives own later isnt same =
      let on = later_onward until before.worker after.worker old new state later in
      record {
        onward = on;
        stays = λ connection is.
            subst (Lives (Own (final key)) past after.worker) (same_Some new connection is)
            (later_lives (Own (final key)) until past before.worker after.worker old new state isnt later own lives);
        others = λ other not. refl;
        ended = λ all. subst (AllBy Own past after.worker) (sym same) (all_on Own lives.laws past before.worker after.worker on before.connections.ended.connections all);
      }

  ends_there : (final : ℕ → ℕ) (until : Bool) (past : List Worker) (before after : Standing) (key : ℕ) (old last : Connection) →
      Lives (Own (length before.connections.ended.connections)) past before.worker old →
      Announces (Own (length before.connections.ended.connections) (length past)) before.worker after.worker →
      after.connections.ended.connections ≡ last ∷ before.connections.ended.connections →
      IsServedLater until before.worker after.worker old last Closed → Steps final past before after key (Some old) None
  ends_there final until past before after key old last lives own same later =
      let on = later_onward until before.worker after.worker old last Closed later in
      let many = length before.connections.ended.connections in
      record {
        onward = on;
        stays = λ connection is. absurd (none-some connection is);
        others = λ other not. at_others final key many other not;
        ended = λ all.
            subst (AllBy Own past after.worker) (sym same) (
              later_answered (Own many) until past before.worker after.worker old last later own lives,
              all_on Own lives.laws past before.worker after.worker on before.connections.ended.connections all,
            );
      }

  steps_at : (final : ℕ → ℕ) (until : Bool) (past : List Worker) (before after : Standing) (key : ℕ) (state : State) (old new : Option Connection) →
      ((connection : Connection) → old ≡ Some connection → Lives (Own (final_before old new final key (length before.connections.ended.connections) key)) past before.worker connection) →
      Announces (Own (final_before old new final key (length before.connections.ended.connections) key) (length past)) before.worker after.worker →
      Becomes (IsServedLater until before.worker after.worker) (after.worker ≡ before.worker) state before.connections.ended.connections after.connections.ended.connections old new →
      Steps final past before after key old new
  steps_at final until past before after key state None None lives own becomes = none_there final past before after key becomes.1 becomes.3
  steps_at final until past before after key state None (Some new) lives own becomes = absurd (none-some new (sym becomes.0))
  steps_at final until past before after key state (Some old) (Some new) lives own becomes =
      stays_there final until past before after key state old new (lives old refl) own becomes.0 becomes.1 becomes.2
  steps_at final until past before after key state (Some old) None lives own becomes =
      let many = length before.connections.ended.connections in
      let is = at_key final key many key refl in
      ends_there final until past before after key old becomes.0
      (subst (λ (place : ℕ). Lives (Own place) past before.worker old) is (lives old refl))
      (subst (λ (place : ℕ). Announces (Own place (length past)) before.worker after.worker) is own)
      becomes.1 becomes.2

  -- each connection of a worker lives, and each that has ended was answered
  pub record IsSound (final : ℕ → ℕ) (past : List Worker) (standing : Standing) : Type 0 where
    laws : PartsAddUp
    pub lives : (key : ℕ) (connection : Connection) → connection_at standing.connections key ≡ Some connection → Lives (Own (final key)) past standing.worker connection
    pub ended : AllBy Own past standing.worker standing.connections.ended.connections

  pub sound_taking : (final : ℕ → ℕ) (past : List Worker) (before after : Standing) → IsSound final past before → TakesIn before after → IsSound final past after
  sound_taking final past before after sound taken = record {
    laws = sound.laws;
    lives = λ key connection at.
        subst (λ (worker : Worker). Lives (Own (final key)) past worker connection) (sym taken.worker)
        (⊎_elim
        (λ (is : key ≡ taken.key).
        let fresh = taken.admits.connection in
        let there : Some fresh ≡ Some connection = sym taken.admits.updates.changed ∙ subst (λ (key : ℕ). connection_at after.connections key ≡ Some connection) is at in
        subst (Lives (Own (final key)) past before.worker) (same_Some fresh connection there)
        (lives_fresh (Own (final key)) sound.laws past before.worker fresh taken.arrival taken.admits.fresh))
        (λ (not : key ≢ taken.key). sound.lives key connection (sym (taken.admits.updates.others key not) ∙ at))
        (same_key key taken.key));
    ended =
        subst (λ (worker : Worker). AllBy Own past worker after.connections.ended.connections) (sym taken.worker)
        (subst (λ (closed : PastConnections). AllBy Own past before.worker closed.connections) (sym taken.admits.ended) sound.ended);
  }

  pub sound_serving : (final : ℕ → ℕ) (until : Bool) (past : List Worker) (before after : Standing) (one : ServesOne until before after) →
      IsSound (final_then until before after one final) past before →
      Announces (Own (final_then until before after one final one.key) (length past)) before.worker after.worker → IsSound final past after
  sound_serving final until past before after one sound own =
      let steps =
      steps_at final until past before after one.key one.state (connection_at before.connections one.key) (connection_at after.connections one.key) (sound.lives one.key) own one.serves.becomes
      in
      record {
        laws = sound.laws;
        lives = λ key connection at.
            ⊎_elim
            (λ (is : key ≡ one.key).
            subst (λ (key : ℕ). Lives (Own (final key)) past after.worker connection) (sym is)
            (steps.stays connection (subst (λ (key : ℕ). connection_at after.connections key ≡ Some connection) is at)))
            (λ (not : key ≢ one.key).
            subst (λ (place : ℕ). Lives (Own place) past after.worker connection) (steps.others key not)
            (lives_on (Own (final_then until before after one final key)) past before.worker after.worker connection steps.onward
            (sound.lives key connection (sym (one.serves.others key not) ∙ at))))
            (same_key key one.key);
        ended = steps.ended sound.ended;
      }

  pub sound_catching : (final : ℕ → ℕ) (past : List Worker) (before after : Standing) → IsSound final past before → KeepsUp before after → IsSound final past after
  sound_catching final past before after sound caught =
      let on = caught.worker.continues in
      record {
        laws = sound.laws;
        lives = λ key connection at.
            lives_on (Own (final key)) past before.worker after.worker connection on
            (sound.lives key connection (ap (λ (connections : Connections). connection_at connections key) (sym caught.connections) ∙ at));
        ended =
            subst (λ (connections : Connections). AllBy Own past after.worker connections.ended.connections) (sym caught.connections)
            (all_on Own sound.laws past before.worker after.worker on before.connections.ended.connections sound.ended);
      }

-- without a connection there is none under any key
pub nothing_at : {X : Type 0} (slots : List (Option X)) → count_by is_some slots ≡ 0 → (key : ℕ) → slice_index_or slots key None ≡ None
nothing_at [] none key = refl
nothing_at (None ∷ slots) none zero = refl
nothing_at (None ∷ slots) none (suc key) = nothing_at slots none key
nothing_at (Some x ∷ slots) none key = let no : ⊥ = omega (arith, none, sum_by-cons (λ (slot : Option _). cond (is_some slot) 1 0) (Some x) slots) in absurd no

module _ (Own : ℕ → ℕ → ℕ → Type 0) where
  pub sound_first : PartsAddUp → (final : ℕ → ℕ) (standing : Standing) → IsUnused standing.connections → IsSound Own final [] standing
  sound_first laws final standing new = record {
    laws = laws;
    lives = λ key connection at. let no : None ≡ Some connection = sym (nothing_at standing.connections.by_key.slots (eqb-true _ 0 new.0) key) ∙ at in cc;
    ended = subst (AllBy Own [] standing.worker) (sym new.1) tt;
  }

  -- the next worker takes over
  pub sound_on_next_log : (final : ℕ → ℕ) (past : List Worker) (last : Worker) (connections : Connections) (next : Worker) → IsSound Own final past (standing last connections) →
      IsSound Own final (past ++ last ∷ []) (standing next connections)
  sound_on_next_log final past last connections next sound = record {
    laws = sound.laws;
    lives = λ key connection at. lives_on_next_log (Own (final key)) past last next connection (sound.lives key connection at);
    ended = all_on_next_log Own (past ++ last ∷ []) next connections.ended.connections sound.ended;
  }

-- Whoever owns the numbers.
abbrev pub OfAny : ℕ → ℕ → ℕ → Type 0
OfAny place log number = Unit {0}

abbrev pub ends_anywhere : ℕ → ℕ
ends_anywhere key = 0

any_final : (final : ℕ → ℕ) (past : List Worker) (standing : Standing) → IsSound OfAny ends_anywhere past standing → IsSound OfAny final past standing
any_final final past standing sound = record { laws = sound.laws; lives = sound.lives; ended = sound.ended }

pub sound_working : (until : Bool) (past : List Worker) (first last : Standing) → IsSound OfAny ends_anywhere past first → Works until first last → IsSound OfAny ends_anywhere past last
sound_working until past first _ sound begins = sound
sound_working until past first _ sound (goes_on between last works step) =
    let so_far = sound_working until past first between sound works in
    ⊎_elim
    (λ takes. sound_taking OfAny ends_anywhere past between last so_far takes)
    (⊎_elim
    (λ one.
    sound_serving OfAny ends_anywhere until past between last one (any_final (final_then until between last one ends_anywhere) past between so_far) (λ number low high. tt))
    (λ caught. sound_catching OfAny ends_anywhere past between last so_far caught))
    step

-- whoever is next has sound connections
pub sound_in_turn : PartsAddUp → (who : InTurn) (connections : Connections) → HaveServedInTurn who connections → (next : Worker) → IsSound OfAny ends_anywhere who.served (standing next connections)
sound_in_turn laws _ connections (no_worker _ new) next = sound_first OfAny laws ends_anywhere (standing next connections) new
sound_in_turn laws _ connections (one_on_next_log who first _ until before after served works) next =
    sound_on_next_log OfAny ends_anywhere who.served after connections next
    (sound_working until who.served (standing before first) (standing after connections) (sound_in_turn laws who first served before) works)

-- whatever has ended was answered, by those who have served
all_answered : (Own : ℕ → ℕ → ℕ → Type 0) (workers : List Worker) (list : List Connection) → WereAnsweredUnder Own workers list → All (WasAnswered workers) list
all_answered Own workers [] all = All-nil (WasAnswered workers)
all_answered Own workers (x ∷ list) all = All-cons (WasAnswered workers) x list all.0.answered (all_answered Own workers list all.1)

pub answered_in_turn : PartsAddUp → (who : InTurn) (connections : Connections) → HaveServedInTurn who connections → All (WasAnswered who.served) connections.ended.connections
answered_in_turn laws _ connections (no_worker _ new) = subst (All (WasAnswered [])) (sym new.1) (All-nil (WasAnswered []))
answered_in_turn laws _ connections (one_on_next_log who first _ until before after served works) =
    all_answered OfAny (who.served ++ after ∷ []) connections.ended.connections
    (sound_working until who.served (standing before first) (standing after connections) (sound_in_turn laws who first served before) works).ended

-- what a connection was sent so far that no fault has closed
pub lives_so_far : (Own : ℕ → ℕ → Type 0) (past : List Worker) (worker : Worker) (connection : Connection) → Lives Own past worker connection → WasSent (past ++ worker ∷ []) connection
lives_so_far Own past worker connection lives = record {
  requests = lives.earlier ++ lives.requests;
  owed = lives.earlier_owed ++ lives.owed;
  first = λ more all reads. let then = (lives.reads more all).0 reads in (then.0, then.1);
  owes = (logs_then connection.conn.role Own past lives.earlier lives.earlier_owed lives.earlier_owes.0 lives.earlier_owes.1 worker lives.requests lives.owed lives.to lives.owes).0;
  sent = inl (queue_of connection.conn, sym lives.bytes);
}

-- and one that has ended
was_sent : (workers : List Worker) (connection : Connection) → WasAnswered workers connection → WasSent workers connection
was_sent workers connection answered = ⊎_elim
    (λ ends. record {
      requests = answered.requests;
      owed = answered.owed;
      first = answered.first;
      owes = answered.owes;
      sent = inl ([], sym ends.sent ∙ sym (append-nil (sent_of connection)));
    })
    (λ cut. record {
      requests = answered.requests;
      owed = answered.owed;
      first = answered.first;
      owes = answered.owes;
      sent = inr cut;
    })
    answered.ending

pub ended_so_far : (past : List Worker) (now : Standing) → IsSound OfAny ends_anywhere past now → (connection : Connection) (place : ℕ) →
    slice_get now.connections.ended.connections place ≡ Some connection → WasSent (past ++ now.worker ∷ []) connection
ended_so_far past now sound connection place at =
    let list = now.connections.ended.connections in
    let all = all_answered OfAny (past ++ now.worker ∷ []) list sound.ended in
    subst (WasSent (past ++ now.worker ∷ [])) (get_or_from_slice_get list place connection connection at)
    (was_sent (past ++ now.worker ∷ []) (slice_index_or list place connection) (all place connection (slice_get_within list place connection at)))
