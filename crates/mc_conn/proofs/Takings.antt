-- The parts of a turn, one after another.
use Rattle.std.proofs.Common.{◌≡◌, ◌⊎◌, ℕ, ◌+◌, ◌≤◌, ◌<◌, ◌||◌, Bool, true, false, cond, zero, suc, List, [], ◌∷◌, ◌++◌, length, take, drop, sym, refl, ap, ◌∙◌, subst, inl, inr, ⊎_elim, arith, append-nil, append_assoc, length-append}
use Rattle.std.specs.Bool.{MatchBool, nat_lt}
use Rattle.std.proofs.lemmas.Bool.{lt-ltb}
use Rattle.std.proofs.lemmas.List.{append_cancel_left, length-take-le, take-append-drop}
use Rattle.std.specs.List.{list_any}
use Rattle.std.proofs.lemmas.List.Folds.{list_any-append}
use Rattle.mc_read.specs.Reading.{ends_stream}
use Rattle.std.specs.Io.KnownBytes.{Consumes, IsAtEnd}
use Rattle.std.proofs.KnownBytes.{Consumes-nil, Consumes-trans}
use Rattle.mc_model.specs.declared.request.Request.{Request}
use Rattle.mc_stream.specs.Event.{ends, failures, has_ended, moved, waits}
use Rattle.mc_stream.specs.Pushing.{IsUnfailed, Pushes}
use Rattle.mc_stream.specs.Stream.{Inflow, Outflow, Streams, both}
use Rattle.uc_worker.specs.declared.worker.Worker.{Worker}
use Rattle.uc_worker.specs.Worker.{IsClosing}
use Rattle.mc_conn.specs.declared.conn.Conn.{Conn}
use Rattle.mc_conn.specs.Held.{IsRead}
use Rattle.uc_worker.specs.Going.{Continues}
use Rattle.mc_conn.specs.declared.conn.Role.{Role}
use Rattle.mc_conn.specs.Ending.{LogsInTime, LogsLast, TakesLast, TakesWithin}
use Rattle.mc_conn.specs.declared.conn.TheConstants.{QUEUE_BYTES}
use Rattle.mc_conn.specs.Owed.{Mark, Owes, count_logged, demand_of, is_logged, mark_of}
use Rattle.mc_conn.specs.Parts.{Counts, Does, LooksForNext, Responds}
use Rattle.mc_conn.specs.Tallying.{AreTallied, CountsFor}
use Rattle.mc_conn.specs.Turn.{NeitherFails, RemembersTheEnd, Scene, Taken, Takes, amount, holding_of, queue_of, scene}
use Rattle.lists.proofs.Public.{appended_twice, joined}
use Rattle.mc_conn.proofs.Countings.{counted_append, counted_one}
use Rattle.mc_conn.proofs.Owings.{owes_append, owes_grow, owes_nothing}
use Rattle.uc_worker.specs.contracts.laws.WorkerGoesOn.TheImpl.{continues_self-value, continues_through-value}
use Rattle.mc_conn.proofs.Readings.{read_refl, read_trans}

-- the end is remembered through two parts
abbrev Remembers : Bool → Inflow → Bool → Inflow → Type 0
Remembers was before is after =
    MatchBool is ((was ≡ true) × (after ≡ before) ⊎ (has_ended after.events ≡ true) × IsAtEnd after.left) ((was ≡ false) × (ends after.events ≡ ends before.events))

pub remembers_self : (is : Bool) (input : Inflow) → Remembers is input is input
remembers_self true input = inl (refl, refl)
remembers_self false input = (refl, refl)

pub remembers_trans : (first second third : Bool) (one two three : Inflow) → Remembers first one second two → Remembers second two third three → Remembers first one third three
remembers_trans first true true one two three begun ended =
    ⊎_elim
    (λ (same : (true ≡ true) × (three ≡ two)). ⊎_elim
    (λ (still : (first ≡ true) × (two ≡ one)). inl (still.0, same.1 ∙ still.1))
    (λ (now : (has_ended two.events ≡ true) × IsAtEnd two.left). inr (subst (λ (input : Inflow). (has_ended input.events ≡ true) × IsAtEnd input.left) (sym same.1) now))
    begun)
    inr
    ended
remembers_trans first false true one two three begun ended = ⊎_elim (λ (never : (false ≡ true) × (three ≡ two)). let no : false ≡ true = never.0 in cc) inr ended
remembers_trans first true false one two three begun ended = let no : true ≡ false = ended.0 in cc
remembers_trans first false false one two three begun ended = (begun.0, ended.1 ∙ begun.1)

pub end_same : (old new : Conn) (worker other : Worker) (input : Inflow) (one two : Outflow) → new.has_ended ≡ old.has_ended →
    RemembersTheEnd (scene old worker (both input one)) (scene new other (both input two))
end_same old new worker other input one two same = subst (λ is. Remembers old.has_ended input is input) (sym same) (remembers_self old.has_ended input)

-- what isn't the end leaves the input open
pub remembers_open : (is : Bool) (before after : Inflow) → is ≡ false → ends after.events ≡ ends before.events → Remembers is before is after
remembers_open true before after going same = let no : true ≡ false = going in cc
remembers_open false before after going same = (refl, same)

-- no request was taken that ends the stream
or_none : (x : Bool) → (x || false) ≡ x
or_none true = refl
or_none false = refl

pub over_same : (old new : Bool) → new ≡ old → new ≡ (old || false)
over_same old new same = same ∙ sym (or_none old)

or_assoc : (x y z : Bool) → (x || (y || z)) ≡ ((x || y) || z)
or_assoc true y z = refl
or_assoc false y z = refl

-- a request that ends the stream is remembered through two parts
pub over_trans : (first second third : Bool) (one two : List Request) → second ≡ (first || list_any ends_stream one) → third ≡ (second || list_any ends_stream two) →
    third ≡ (first || list_any ends_stream (one ++ two))
over_trans first second third one two begun ended =
    ended
    ∙ (ap (λ over. over || list_any ends_stream two) begun
    ∙ (sym (or_assoc first (list_any ends_stream one) (list_any ends_stream two)) ∙ ap (λ any. first || any) (sym (list_any-append ends_stream one two))))

pub unfailed_trans : (first second third : Streams) → NeitherFails first second → NeitherFails second third → NeitherFails first third
unfailed_trans first second third one two = (two.0 ∙ one.0, two.1 ∙ one.1)

-- what was taken if no request was
unfoldable pub taken_none : (old new : Conn) (worker : Worker) (before after : Streams) (came sent : List ℕ) → moved after.input.events ≡ moved before.input.events ++ came →
    Consumes before.input.left after.input.left came → Pushes before.output after.output sent → new.role ≡ old.role → new.past ≡ old.past → sent ++ queue_of new ≡ queue_of old →
    waits before.output.events ≤ waits after.output.events → Taken (scene old worker before) (scene new worker after) (mark_of worker)
taken_none old new worker before after came sent pulled consumed pushed role past bytes waited = record {
  came = came;
  requests = [];
  owed = [];
  sent = sent;
  pulled = pulled;
  consumed = consumed;
  pushed = pushed;
  role = role;
  onward = continues_self-value.it worker;
  owes = owes_nothing worker old.role;
  bytes = bytes ∙ sym (append-nil (queue_of old));
  waited = waited;
  counted = [];
  counts = (refl, refl);
  past = past ∙ sym (append-nil old.past);
}

-- and if nothing came or was sent
unfoldable pub taken_still : (old new : Conn) (worker : Worker) (streams : Streams) → new.role ≡ old.role → new.past ≡ old.past → queue_of new ≡ queue_of old →
    Taken (scene old worker streams) (scene new worker streams) (mark_of worker)
taken_still old new worker streams role past queue =
    taken_none old new worker streams streams [] [] (sym (append-nil (moved streams.input.events))) (Consumes-nil streams.input.left) (sym (append-nil (moved streams.output.events))) role past queue (omega arith)

unfoldable pub taken_trans : (a b c : Scene) (to : Mark) → Taken a b (mark_of b.worker) → Taken b c to → Taken a c to
taken_trans a b c to one two = record {
  came = one.came ++ two.came;
  requests = one.requests ++ two.requests;
  owed = one.owed ++ two.owed;
  sent = one.sent ++ two.sent;
  pulled = appended_twice _ _ _ one.came two.came one.pulled two.pulled;
  consumed = Consumes-trans _ _ _ _ _ one.consumed two.consumed;
  pushed = appended_twice _ _ _ one.sent two.sent one.pushed two.pushed;
  role = two.role ∙ one.role;
  onward = continues_through-value.it _ _ _ one.onward two.onward;
  owes =
      owes_append c.worker a.conn.role (mark_of a.worker) one.requests two.requests one.owed two.owed (mark_of b.worker) to
      (owes_grow b.worker c.worker two.onward a.conn.role (mark_of a.worker) one.requests one.owed (mark_of b.worker) one.owes)
      (subst (λ role. Owes c.worker role (mark_of b.worker) two.requests two.owed to) one.role two.owes);
  bytes = joined one.sent two.sent (queue_of a.conn) (queue_of b.conn) (queue_of c.conn) one.owed two.owed one.bytes two.bytes;
  waited = omega (arith, one.waited, two.waited);
  counted = one.counted ++ two.counted;
  counts =
      counted_append a.conn.role one.requests two.requests one.owed two.owed one.counted two.counted one.counts
      (subst (λ role. AreTallied role two.requests two.owed two.counted) one.role two.counts);
  past = appended_twice _ _ _ one.counted two.counted one.past two.past;
}

-- how many requests are logged, one part after another
pub count_logged-append : (role : Role) (first second : List Request) → count_logged role (first ++ second) ≡ count_logged role first + count_logged role second
count_logged-append role [] second = omega arith
count_logged-append role (request ∷ first) second = let rest = count_logged-append role first second in omega (arith, rest)

-- a part that does nothing
unfoldable pub takes_self : (a : Scene) → Takes a a
unfolding taken_still taken_none
takes_self a = record {
  taken = taken_still a.conn a.conn a.worker a.streams refl refl refl;
  reads = read_refl (holding_of a.conn);
  unfailed = (refl, refl);
  end = remembers_self a.conn.has_ended a.streams.input;
  over = over_same a.conn.is_over a.conn.is_over refl;
  shut = refl;
}

pub in_time_self : (a : Scene) → LogsInTime (takes_self a)
unfolding takes_self taken_still taken_none
in_time_self a = inl refl

unfoldable pub takes_trans : (a b c : Scene) → Takes a b → Takes b c → Takes a c
unfolding taken_trans
takes_trans a b c one two = record {
  taken = taken_trans a b c (mark_of c.worker) one.taken two.taken;
  reads =
      read_trans (holding_of a.conn) (holding_of b.conn) (holding_of c.conn) one.taken.came two.taken.came one.taken.requests two.taken.requests one.reads two.reads;
  unfailed = unfailed_trans a.streams b.streams c.streams one.unfailed two.unfailed;
  end = remembers_trans a.conn.has_ended b.conn.has_ended c.conn.has_ended a.streams.input b.streams.input c.streams.input one.end two.end;
  over = over_trans a.conn.is_over b.conn.is_over c.conn.is_over one.taken.requests two.taken.requests one.over two.over;
  shut = two.shut ∙ one.shut;
}

amount_trans : (a b c : Scene) (one : Takes a b) (two : Takes b c) → amount (takes_trans a b c one two) ≡ amount one + amount two
unfolding takes_trans taken_trans
amount_trans a b c one two =
    omega (arith, length-append one.taken.came two.taken.came, length-append one.taken.requests two.taken.requests, length-append one.taken.sent two.taken.sent)

-- as many fewer may be taken, through two parts
fewer_trans : (a b c : Scene) (one : Takes a b) (two : Takes b c) (most left later : ℕ) → length one.taken.requests + left ≡ most → length two.taken.requests + later ≡ left →
    length (takes_trans a b c one two).taken.requests + later ≡ most
unfolding takes_trans taken_trans
fewer_trans a b c one two most left later first second = omega (arith, length-append one.taken.requests two.taken.requests, first, second)

-- no request was logged at a worker that was done, through two parts
pub in_time_trans : (a b c : Scene) (one : Takes a b) (two : Takes b c) → LogsInTime one → LogsInTime two → LogsInTime (takes_trans a b c one two)
unfolding takes_trans taken_trans
in_time_trans a b c one two first second =
    let sum = count_logged-append a.conn.role one.taken.requests two.taken.requests in
    let same : count_logged b.conn.role two.taken.requests ≡ count_logged a.conn.role two.taken.requests = ap (λ role. count_logged role two.taken.requests) one.taken.role in
    ⊎_elim
    (λ (none : count_logged b.conn.role two.taken.requests ≡ 0). ⊎_elim
    (λ (nothing : count_logged a.conn.role one.taken.requests ≡ 0). inl (omega (arith, sum, same, none, nothing)))
    (λ (last : (between : Scene) × LogsLast a between b one).
    let both = count_logged-append a.conn.role last.1.rest.taken.requests two.taken.requests in
    inr (
      last.0,
      record {
        first = last.1.first;
        room = last.1.room;
        rest = takes_trans last.0 b c last.1.rest two;
        one = omega (arith, both, same, none, last.1.one);
        all = ap (λ (all : List Request). all ++ two.taken.requests) last.1.all ∙ append_assoc last.1.first.taken.requests last.1.rest.taken.requests two.taken.requests;
      },
    ))
    first)
    (λ (last : (between : Scene) × LogsLast b between c two). inr (
      last.0,
      record {
        first = takes_trans a b last.0 one last.1.first;
        room = last.1.room;
        rest = last.1.rest;
        one = ap (λ role. count_logged role last.1.rest.taken.requests) (sym one.taken.role) ∙ last.1.one;
        all = ap (λ (all : List Request). one.taken.requests ++ all) last.1.all ∙ sym (append_assoc one.taken.requests last.1.first.taken.requests last.1.rest.taken.requests);
      },
    ))
    second

-- the last request was taken while no more was queued than may be, through two parts
within_trans : (a b c : Scene) (one : Takes a b) (two : Takes b c) → TakesWithin one → TakesWithin two → TakesWithin (takes_trans a b c one two)
unfolding takes_trans taken_trans
within_trans a b c one two first second = ⊎_elim
    (λ (none : two.taken.requests ≡ []). ⊎_elim
    (λ (nothing : one.taken.requests ≡ []). inl (λ i. nothing i ++ none i))
    (λ (last : (between : Scene) × TakesLast a between b one). inr (
      last.0,
      record {
        first = last.1.first;
        within = last.1.within;
        rest = takes_trans last.0 b c last.1.rest two;
        one = omega (arith, length-append last.1.rest.taken.requests two.taken.requests, ap (λ (all : List Request). length all) none, last.1.one);
        all = ap (λ (all : List Request). all ++ two.taken.requests) last.1.all ∙ append_assoc last.1.first.taken.requests last.1.rest.taken.requests two.taken.requests;
      },
    ))
    first)
    (λ (last : (between : Scene) × TakesLast b between c two). inr (
      last.0,
      record {
        first = takes_trans a b last.0 one last.1.first;
        within = last.1.within;
        rest = last.1.rest;
        one = last.1.one;
        all = ap (λ (all : List Request). one.taken.requests ++ all) last.1.all ∙ sym (append_assoc one.taken.requests last.1.first.taken.requests last.1.rest.taken.requests);
      },
    ))
    second

did_or : (x y : Bool) (m n k : ℕ) → k ≡ m + n → MatchBool x (0 < m) (m ≡ 0) → MatchBool y (0 < n) (n ≡ 0) → MatchBool (x || y) (0 < k) (k ≡ 0)
did_or true y m n k sum p q = omega (arith, sum, p)
did_or false true m n k sum p q = omega (arith, sum, q)
did_or false false m n k sum p q = omega (arith, sum, p, q)

pub does_trans : {most left later : ℕ} → (until : Bool) (a b c : Scene) (x y : Bool) → Does until most a b x left → Does until left b c y later → Does until most a c (x || y) later
does_trans {most} {left} {later} until a b c x y one two = record {
  fewer = fewer_trans a b c one.takes two.takes most left later one.fewer two.fewer;
  in_time = λ is. in_time_trans a b c one.takes two.takes (one.in_time is) (two.in_time is);
  within = within_trans a b c one.takes two.takes one.within two.within;
  takes = takes_trans a b c one.takes two.takes;
  did_is = did_or x y (amount one.takes) (amount two.takes) (amount (takes_trans a b c one.takes two.takes)) (amount_trans a b c one.takes two.takes) one.did_is two.did_is;
}

pub does_nothing : {most : ℕ} → (until : Bool) (a : Scene) → Does until most a a false most
unfolding takes_self taken_still taken_none
does_nothing until a = record { takes = takes_self a; did_is = refl; in_time = λ is. inl refl; within = inl refl; fewer = omega arith }

-- a part of which it is known whether it did something
or_true : (x : Bool) → (x || true) ≡ true
or_true true = refl
or_true false = refl

pub did_then : {most left later : ℕ} → (until : Bool) (a b c : Scene) (x y : Bool) → y ≡ true → Does until most a b x left → Does until left b c y later → Does until most a c true later
did_then {most} {left} {later} until a b c x y is one two =
    subst (λ (did : Bool). Does until most a c did later) (ap (λ did. x || did) is ∙ or_true x) (does_trans until a b c x y one two)

pub did_not : {most left later : ℕ} → (until : Bool) (a b c : Scene) (x y : Bool) → y ≡ false → Does until most a b x left → Does until left b c y later → Does until most a c x later
did_not {most} {left} {later} until a b c x y is one two =
    subst (λ (did : Bool). Does until most a c did later) (ap (λ did. x || did) is ∙ or_none x) (does_trans until a b c x y one two)

-- what the second part sent is sent in all
pub sent_last : {most left later : ℕ} → (until : Bool) (a b c : Scene) (x y : Bool) (one : Does until most a b x left) (two : Does until left b c y later) →
    length two.takes.taken.sent ≤ length (does_trans until a b c x y one two).takes.taken.sent
unfolding does_trans takes_trans taken_trans
sent_last until a b c x y one two = omega (arith, length-append one.takes.taken.sent two.takes.taken.sent)

did_some : (count n : ℕ) → n ≡ count → MatchBool (nat_lt 0 count) (0 < n) (n ≡ 0)
did_some zero n same = same
did_some (suc count) n same = let some : 0 < n = omega (arith, same) in subst (λ did. MatchBool did (0 < n) (n ≡ 0)) (sym (lt-ltb 0 (suc count) (omega arith))) some

-- a front of the queue is pushed
module _ (old new : Conn) (worker : Worker) (input : Inflow) (before after : Outflow) (count : ℕ) (same : holding_of new ≡ holding_of old) (role : new.role ≡ old.role) (past : new.past ≡ old.past)
    (ended : new.has_ended ≡ old.has_ended) (over : new.is_over ≡ old.is_over) (shut : new.is_closed ≡ old.is_closed) (few : count ≤ length (queue_of old))
    (left : queue_of new ≡ drop count (queue_of old)) (went : Pushes before after (take count (queue_of old))) (waited : waits before.events ≤ waits after.events)
    (unfailed : IsUnfailed before after) where
  takes_pushed : Takes (scene old worker (both input before)) (scene new worker (both input after))
  unfolding taken_none
  takes_pushed = record {
    taken =
        taken_none old new worker (both input before) (both input after) [] (take count (queue_of old)) (sym (append-nil (moved input.events))) (Consumes-nil input.left) went role past
        (ap (λ rest. take count (queue_of old) ++ rest) left ∙ take-append-drop count (queue_of old)) waited;
    reads = subst (λ holding. IsRead (holding_of old) [] [] holding) (sym same) (read_refl (holding_of old));
    unfailed = (refl, unfailed);
    end = end_same old new worker worker input before after ended;
    over = over_same old.is_over new.is_over over;
    shut = shut;
  }

  pub does_pushed : {left : ℕ} → (until : Bool) → Does until left (scene old worker (both input before)) (scene new worker (both input after)) (nat_lt 0 count) left
  unfolding takes_pushed taken_none
  does_pushed until =
      let taken = length-take-le count (queue_of old) few in
      record { takes = takes_pushed; did_is = did_some count (amount takes_pushed) (omega (arith, taken)); in_time = λ is. inl refl; within = inl refl; fewer = omega arith }

-- the reader looks for a request
pub does_looked : {most : ℕ} → (until : Bool) (old new : Conn) (worker : Worker) (streams : Streams) → IsRead (holding_of old) [] [] (holding_of new) → LooksForNext old new →
    Does until most (scene old worker streams) (scene new worker streams) false most
unfolding taken_still taken_none
does_looked until old new worker streams read looks = record {
  fewer = omega arith;
  in_time = λ is. inl refl;
  within = inl refl;
  takes = record {
    taken = taken_still old new worker streams looks.role looks.past looks.queue;
    reads = read;
    unfailed = (refl, refl);
    end = end_same old new worker worker streams.input streams.output streams.output looks.has_ended;
    over = over_same old.is_over new.is_over looks.over;
    shut = looks.is_closed;
  };
  did_is = refl;
}

-- a request is taken
module _ (old new : Conn) (worker later : Worker) (streams : Streams) (request : Request) (read : IsRead (holding_of old) [] (request ∷ []) (holding_of new)) (role : new.role ≡ old.role)
    (ended : new.has_ended ≡ old.has_ended) (shut : new.is_closed ≡ old.is_closed) (over : new.is_over ≡ (old.is_over || ends_stream request)) (on : Continues worker later)
    (responds : Responds worker later old.role request (queue_of old) (queue_of new))
    (counts : Counts old.role request (queue_of old) (queue_of new) old.past new.past) where
  takes_responded : Takes (scene old worker streams) (scene new later streams)
  takes_responded = record {
    taken = record {
      came = [];
      requests = request ∷ [];
      owed = responds.bytes;
      sent = [];
      pulled = sym (append-nil (moved streams.input.events));
      consumed = Consumes-nil streams.input.left;
      pushed = sym (append-nil (moved streams.output.events));
      role = role;
      onward = on;
      owes = responds.owes;
      bytes = responds.queued;
      waited = omega arith;
      counted = counts.counted;
      counts = counted_one old.role request responds.bytes counts.counted
          (subst (λ bytes. CountsFor old.role request bytes counts.counted) (append_cancel_left (queue_of old) counts.bytes responds.bytes (sym counts.queued ∙ responds.queued)) counts.is);
      past = counts.past;
    };
    reads = read;
    unfailed = (refl, refl);
    end = end_same old new worker later streams.input streams.output streams.output ended;
    over = over ∙ ap (λ ends. old.is_over || ends) (sym (or_none (ends_stream request)));
    shut = shut;
  }

  -- if it is logged, its log wasn't closing
  responded_in_time : (logged : Bool) → is_logged (demand_of old.role request) ≡ logged → (logged ≡ true → ¬ (IsClosing worker)) → LogsInTime takes_responded
  unfolding takes_responded takes_self taken_still taken_none
  responded_in_time true is room = inr (
    scene old worker streams,
    record { first = takes_self (scene old worker streams); room = room refl; rest = takes_responded; one = ap (λ logged. cond logged 1 0 + 0) is; all = refl },
  )
  responded_in_time false is room = inl (ap (λ logged. cond logged 1 0 + 0) is)

  responded_within : length (queue_of old) ≤ QUEUE_BYTES → TakesWithin takes_responded
  unfolding takes_responded takes_self taken_still taken_none
  responded_within few = inr (
    scene old worker streams,
    record { first = takes_self (scene old worker streams); within = few; rest = takes_responded; one = refl; all = refl },
  )

  pub does_responded : {most left : ℕ} → (until : Bool) → (until ≡ true → is_logged (demand_of old.role request) ≡ true → ¬ (IsClosing worker)) → length (queue_of old) ≤ QUEUE_BYTES →
      left + 1 ≡ most → Does until most (scene old worker streams) (scene new later streams) true left
  unfolding takes_responded
  does_responded until room few one_less = record {
    fewer = omega (arith, one_less);
    within = responded_within few;
    takes = takes_responded;
    did_is = omega arith;
    in_time = λ is. responded_in_time (is_logged (demand_of old.role request)) refl (room is);
  }

-- a piece came, or none
module _ (old new : Conn) (worker : Worker) (before after : Inflow) (output : Outflow) (piece : List ℕ) (read : IsRead (holding_of old) piece [] (holding_of new)) (role : new.role ≡ old.role) (past : new.past ≡ old.past)
    (queue : queue_of new ≡ queue_of old) (shut : new.is_closed ≡ old.is_closed) (pulled : moved after.events ≡ moved before.events ++ piece) (consumed : Consumes before.left after.left piece)
    (unfailed : failures after.events ≡ failures before.events) (end : Remembers old.has_ended before new.has_ended after) (over : new.is_over ≡ old.is_over) where
  takes_fed : Takes (scene old worker (both before output)) (scene new worker (both after output))
  unfolding taken_none
  takes_fed = record {
    taken =
        taken_none old new worker (both before output) (both after output) piece [] pulled consumed (sym (append-nil (moved output.events))) role past queue (omega arith);
    reads = read;
    unfailed = (unfailed, refl);
    end = end;
    over = over_same old.is_over new.is_over over;
    shut = shut;
  }

  pub does_fed : {left : ℕ} → (until : Bool) → 0 < length piece → Does until left (scene old worker (both before output)) (scene new worker (both after output)) true left
  unfolding takes_fed taken_none
  does_fed until some = record { takes = takes_fed; did_is = omega (arith, some); in_time = λ is. inl refl; within = inl refl; fewer = omega arith }

  pub does_waited : {left : ℕ} → (until : Bool) → piece ≡ [] → Does until left (scene old worker (both before output)) (scene new worker (both after output)) false left
  unfolding takes_fed taken_none
  does_waited until none = record { takes = takes_fed; did_is = omega (arith, ap length none); in_time = λ is. inl refl; within = inl refl; fewer = omega arith }
