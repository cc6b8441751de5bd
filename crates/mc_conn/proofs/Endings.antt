-- How the parts of a turn make up its state, and a fault what it leaves.
use Rattle.std.proofs.Common.{◌≡◌, ◌≢◌, ◌⊎◌, ℕ, ◌+◌, ◌≤◌, ◌<◌, ◌||◌, ◌&&◌, Bool, true, false, List, [], ◌∷◌, ◌++◌, length, Option, Some, None, is_some, Result, Ok, Err, IfOk, sym, refl, ap, ◌∙◌, subst, inl, inr, ⊎_elim, arith, append-nil, length-append}
use Rattle.std.proofs.lemmas.Bool.{ltb-false}
use Rattle.std.specs.Bool.{MatchBool, ◌==◌}
use Rattle.std.specs.Prelude.{MatchResult, nat_lt}
use Rattle.mc_model.specs.declared.fault.Fault.{Fault}
use Rattle.mc_model.specs.declared.fault.Fault.TheVariants.{Memory, Taken, Input, Output}
use Rattle.mc_model.specs.declared.request.Request.{Request}
use Rattle.mc_stream.specs.Event.{Event, last_moved, moved, waits}
use Rattle.mc_stream.specs.Pushing.{Pushes}
use Rattle.mc_stream.specs.Stream.{Inflow, Outflow, both}
use Rattle.uc_worker.specs.Going.{Continues}
use Rattle.uc_worker.specs.declared.worker.Worker.{Worker}
use Rattle.uc_worker.specs.contracts.laws.WorkerGoesOn.TheImpl.{continues_self-value, continues_through-value}
use Rattle.mc_conn.specs.declared.conn.Conn.{Conn}
use Rattle.mc_conn.specs.declared.conn.TheConstants.{PULL_BYTES, QUEUE_BYTES, TURN_REQUESTS}
use Rattle.mc_conn.specs.declared.conn.Role.{Role}
use Rattle.mc_conn.specs.declared.conn.State.{State}
use Rattle.mc_conn.specs.declared.conn.State.TheVariants.{Closed, Idle, Busy, Full}
use Rattle.mc_conn.specs.ConnFault.{CellTaken, ConnFault, InputFailed, IsTold, OutOfMemory, OutputFailed, fault_of}
use Rattle.mc_conn.specs.Ending.{Breaks, BreaksInTime, BreaksLast, HoldsOnlyBehind, IsDone, IsState, IsStuck, LogsInTime, Pulls, PullsAfter, PullsLate, PullsOnce, Serves, ServesUntil, Stops, StopsUntil, Turns, TurnsUntil}
use Rattle.mc_conn.specs.Held.{HoldsNone, Holding}
use Rattle.mc_conn.specs.Owed.{Mark, Owes, mark_of}
use Rattle.mc_conn.specs.Parts.{Does, GoesRound, IsAtRest, IsHeldBehind, IsLeft, StateIs, StopsRound, TellsOf}
use Rattle.mc_conn.specs.Turn.{Scene, Takes, amount, holding_of, queue_of, scene}
use Rattle.mc_conn.proofs.Breakings.{breaks_in_time_later, breaks_later}
use Rattle.lists.proofs.Public.{appended_twice}
use Rattle.mc_conn.proofs.Awaiting.{left_later, none_left}
use Rattle.mc_conn.proofs.Takings.{does_trans, in_time_trans, sent_last, takes_trans}

or_left : (x y : Bool) → (x || y) ≡ false → x ≡ false
or_left true y is = is
or_left false y is = refl

or_right : (x y : Bool) → (x || y) ≡ false → y ≡ false
or_right true y is = let no : true ≡ false = is in cc
or_right false y is = is

did_none : (did : Bool) (n : ℕ) → did ≡ false → MatchBool did (0 < n) (n ≡ 0) → n ≡ 0
did_none true n is some = let no : true ≡ false = is in cc
did_none false n is none = none

did_much : (did : Bool) (n : ℕ) → did ≡ true → MatchBool did (0 < n) (n ≡ 0) → 0 < n
did_much true n is some = some
did_much false n is none = let no : false ≡ true = is in cc

done_rests : (conn : Conn) → IsDone conn → IsAtRest conn
done_rests conn done = (done.0, done.1.0, done.2)

no_some : (waiting : Option Request) → is_some waiting ≡ false → waiting ≡ None
no_some None none = refl
no_some (Some request) none = let no : true ≡ false = none in cc

-- no request waits before a pull, so that none is held whole
pub none_held : {allowed : ℕ} → (until : Bool) (worker : Worker) (old new : Conn) (some long ended : Bool) → holding_of new ≡ holding_of old → IsHeldBehind until allowed old worker → some ≡ is_some old.waiting → ((some || long) || ended) ≡ false →
    HoldsNone (holding_of new)
none_held {allowed} until worker old new some long ended same held is none =
    let free : old.waiting ≡ None = no_some old.waiting (sym is ∙ or_left some long (or_left (some || long) ended none)) in
    subst HoldsNone (sym same)
    (⊎_elim
    (λ (nothing : HoldsNone (holding_of old)). nothing)
    (λ (others : (old.waiting ≢ None) × ((allowed ≡ 0) ⊎ (QUEUE_BYTES < length (queue_of old))) ⊎ IsLeft until old worker).
    absurd (⊎_elim (λ (behind : (old.waiting ≢ None) × ((allowed ≡ 0) ⊎ (QUEUE_BYTES < length (queue_of old)))). behind.0 free) (λ left. none_left until old worker free left) others))
    held)

-- the queue isn't too long before a push, so it isn't after it
pub within_bound : (old new : List ℕ) (len : ℕ) (some ended : Bool) → len ≡ length old → ((some || nat_lt QUEUE_BYTES len) || ended) ≡ false → length new ≤ length old → length new ≤ QUEUE_BYTES
within_bound old new len some ended is none shorter =
    let short = ltb-false QUEUE_BYTES len (or_right some (nat_lt QUEUE_BYTES len) (or_left (some || nat_lt QUEUE_BYTES len) ended none)) in
    omega (arith, is, short, shorter)

and_left : (over empty : Bool) → empty ≡ true → (over && empty) ≡ false → over ≡ false
and_left true empty is none = let no : true ≡ false = sym is ∙ none in cc
and_left false empty is none = refl

-- if all is sent before a pull, no request has ended the stream
pub still_on : (queue : List ℕ) (over empty : Bool) (Stuck : Type 0) → empty ≡ (length queue == 0) → (over && empty) ≡ false → (queue ≡ []) ⊎ Stuck → (queue ≡ []) × (over ≡ false) ⊎ Stuck
still_on queue over empty Stuck is going left =
    ⊎_elim (λ (none : queue ≡ []). inl (none, and_left over empty (is ∙ ap (λ bytes. length bytes == 0) none) going)) inr left

-- a pull after a push
pulls_late : (a between z : Scene) → Takes a between → Continues between.worker z.worker → HoldsNone (holding_of between.conn) → length (queue_of between.conn) ≤ QUEUE_BYTES →
    (queue_of between.conn ≡ []) × (between.conn.is_over ≡ false) ⊎ (waits between.streams.output.events ≡ waits a.streams.output.events + 1) →
    (event : Event) → z.streams.input.events ≡ event ∷ between.streams.input.events → length (last_moved z.streams.input.events) ≤ PULL_BYTES →
    z.streams.output ≡ between.streams.output → PullsLate a z
pulls_late a between z first onward none within left event pull short same = inr (
  between,
  record {
    first = first;
    onward = onward;
    taken = none;
    within = within;
    sent = ⊎_elim inl (λ (full : waits between.streams.output.events ≡ waits a.streams.output.events + 1). inr (omega (arith, full))) left;
    event = event;
    pull = pull;
    short = short;
    later = [];
    pushed = ap (λ (output : Outflow). moved output.events) same ∙ sym (append-nil (moved between.streams.output.events));
    waited = omega (arith, ap (λ (output : Outflow). waits output.events) same);
  },
)

-- a pull after a push, unless memory ran out before it
pub pulls_once : (a between z : Scene) → Takes a between → Continues between.worker z.worker → between.streams.input ≡ a.streams.input → HoldsNone (holding_of between.conn) → length (queue_of between.conn) ≤ QUEUE_BYTES →
    (queue_of between.conn ≡ []) × (between.conn.is_over ≡ false) ⊎ (waits between.streams.output.events ≡ waits a.streams.output.events + 1) →
    PullsOnce between.streams.input z.streams.input → z.streams.output ≡ between.streams.output → Pulls a z
pulls_once a between z first onward before none within left once same =
    ⊎_elim
    (λ (still : z.streams.input ≡ between.streams.input). record { once = inl (still ∙ before); late = inl (still ∙ before) })
    (λ (pulled : (event : Event) × (z.streams.input.events ≡ event ∷ between.streams.input.events) × (length (last_moved z.streams.input.events) ≤ PULL_BYTES)). record {
      once = inr (pulled.0, pulled.1 ∙ ap (λ (input : Inflow). pulled.0 ∷ input.events) before, pulled.2);
      late = pulls_late a between z first onward none within left pulled.0 pulled.1 pulled.2 same;
    })
    once

-- more is sent after the last pull
late_more : (a n z : Scene) → PullsLate a n → Continues n.worker z.worker → z.streams.input ≡ n.streams.input → (more : List ℕ) → Pushes n.streams.output z.streams.output more →
    waits n.streams.output.events ≤ waits z.streams.output.events → PullsLate a z
late_more a n z late onward same more went waited =
    ⊎_elim
    (λ (none : n.streams.input ≡ a.streams.input). inl (same ∙ none))
    (λ (pulled : (between : Scene) × PullsAfter a between n). inr (
      pulled.0,
      record {
        first = pulled.1.first;
        onward = continues_through-value.it _ _ _ pulled.1.onward onward;
        taken = pulled.1.taken;
        within = pulled.1.within;
        sent = pulled.1.sent;
        event = pulled.1.event;
        pull = ap (λ (input : Inflow). input.events) same ∙ pulled.1.pull;
        short = subst (λ (input : Inflow). length (last_moved input.events) ≤ PULL_BYTES) (sym same) pulled.1.short;
        later = pulled.1.later ++ more;
        pushed = appended_twice _ _ _ pulled.1.later more pulled.1.pushed went;
        waited = omega (arith, pulled.1.waited, waited);
      },
    ))
    late

-- a last pull after what was done before
late_behind : (a m n between : Scene) → Takes a m → PullsAfter m between n → PullsLate a n
late_behind a m n between one pulled = inr (
  between,
  record {
    first = takes_trans a m between one pulled.first;
    onward = pulled.onward;
    taken = pulled.taken;
    within = pulled.within;
    sent = ⊎_elim inl (λ (full : waits m.streams.output.events < waits between.streams.output.events). inr (omega (arith, full, one.taken.waited))) pulled.sent;
    event = pulled.event;
    pull = pulled.pull;
    short = pulled.short;
    later = pulled.later;
    pushed = pulled.pushed;
    waited = pulled.waited;
  },
)

-- what is done before a pull and after it
late_within : (a m n z : Scene) → Takes a m → m.streams.input ≡ a.streams.input → PullsLate m n → Continues n.worker z.worker → z.streams.input ≡ n.streams.input → (more : List ℕ) →
    Pushes n.streams.output z.streams.output more → waits n.streams.output.events ≤ waits z.streams.output.events → PullsLate a z
late_within a m n z one before late onward after more went waited =
    ⊎_elim
    (λ (none : n.streams.input ≡ m.streams.input). inl (after ∙ (none ∙ before)))
    (λ (pulled : (between : Scene) × PullsAfter m between n). late_more a n z (late_behind a m n pulled.0 one pulled.1) onward after more went waited)
    late

pub pulls_within : (a m n z : Scene) → Takes a m → m.streams.input ≡ a.streams.input → Pulls m n → Continues n.worker z.worker → z.streams.input ≡ n.streams.input → (more : List ℕ) →
    Pushes n.streams.output z.streams.output more → waits n.streams.output.events ≤ waits z.streams.output.events → Pulls a z
pulls_within a m n z one before pulls onward after more went waited = record {
  once = subst (λ (input : Inflow). PullsOnce a.streams.input input) (sym after) (subst (λ (input : Inflow). PullsOnce input n.streams.input) before pulls.once);
  late = late_within a m n z one before pulls.late onward after more went waited;
}

-- turns after turns
pub late_later : (a b c : Scene) → Takes a b → PullsLate a b → PullsLate b c → Continues b.worker c.worker → (more : List ℕ) → Pushes b.streams.output c.streams.output more →
    waits b.streams.output.events ≤ waits c.streams.output.events → PullsLate a c
late_later a b c one first second onward more went waited =
    ⊎_elim
    (λ (none : c.streams.input ≡ b.streams.input). late_more a b c first onward none more went waited)
    (λ (pulled : (between : Scene) × PullsAfter b between c). late_behind a b c pulled.0 one pulled.1)
    second

-- what the client gets at a fault is sent after the last pull
untold_pushes : (before after : Outflow) → after ≡ before → (more : List ℕ) × Pushes before after more × (waits before.events ≤ waits after.events)
untold_pushes before after same = (
  [],
  ap (λ (output : Outflow). moved output.events) same ∙ sym (append-nil (moved before.events)),
  omega (arith, ap (λ (output : Outflow). waits output.events) same),
)

told_pushes : (cause : ConnFault) (queue : List ℕ) (before after : Outflow) → IsTold cause queue before after → (more : List ℕ) × Pushes before after more × (waits before.events ≤ waits after.events)
told_pushes OutOfMemory queue before after told = (told.0.1.front, told.0.1.went, told.1)
told_pushes CellTaken queue before after told = untold_pushes before after told
told_pushes InputFailed queue before after told = untold_pushes before after told
told_pushes OutputFailed queue before after told = untold_pushes before after told

late_told : (cause : ConnFault) (a : Scene) (old new : Conn) (worker : Worker) (input : Inflow) (between after : Outflow) (queue : List ℕ) →
    PullsLate a (scene old worker (both input between)) → IsTold cause queue between after → PullsLate a (scene new worker (both input after))
late_told cause a old new worker input between after queue late told =
    let more = told_pushes cause queue between after told in
    late_more a (scene old worker (both input between)) (scene new worker (both input after)) late (continues_self-value.it worker) refl more.0 more.1 more.2

-- what is sent up to a fault
pub stops_push : (fault : Fault) (a b : Scene) → Stops a b fault →
    (more : List ℕ) × Pushes a.streams.output b.streams.output more × (waits a.streams.output.events ≤ waits b.streams.output.events)
stops_push fault a b stops =
    let taken = stops.breaks.taken in
    let more = told_pushes stops.breaks.cause (queue_of b.conn) stops.told_from b.streams.output stops.told in
    (taken.sent ++ more.0, appended_twice _ _ _ taken.sent more.0 taken.pushed more.1, omega (arith, taken.waited, more.2))

-- nothing is owed for no request
owed_none : (worker : Worker) (role : Role) (from to : Mark) (requests : List Request) (bytes : List ℕ) → length requests ≡ 0 → Owes worker role from requests bytes to → length bytes ≡ 0
owed_none worker role from to [] bytes none owes = ap length owes.0
owed_none worker role from to (request ∷ requests) bytes none owes = absurd (omega (arith, none))

nothing_in : (bytes : List ℕ) → length bytes ≡ 0 → bytes ≡ []
nothing_in [] none = refl
nothing_in (byte ∷ bytes) none = absurd (omega (arith, none))

module _ {early late : ℕ} (until : Bool) (a m n z : Scene) (before pulled last : Bool) (one : Does until TURN_REQUESTS a m before early) (two : Does until early m n pulled late) (three : Does until late n z last late)
    (held : IsHeldBehind until late n.conn n.worker) (worker : z.worker ≡ n.worker) (role : z.conn.role ≡ n.conn.role) (same : holding_of z.conn ≡ holding_of n.conn) (ended : z.conn.has_ended ≡ n.conn.has_ended) (over : z.conn.is_over ≡ n.conn.is_over)
    (stuck : pulled ≡ false → (waits n.streams.input.events ≡ waits m.streams.input.events + 1) ⊎ ((n.conn.has_ended ≡ true) ⊎ ((QUEUE_BYTES < length (queue_of n.conn)) ⊎ ((n.conn.is_over ≡ true) × (queue_of n.conn ≡ []) ⊎ (IsLeft until n.conn n.worker ⊎ (late ≡ 0))))))
    (first_input : m.streams.input ≡ a.streams.input) (last_input : z.streams.input ≡ n.streams.input)
    (left : (queue_of z.conn ≡ []) ⊎ (waits z.streams.output.events ≡ waits n.streams.output.events + 1)) where
  all : Does until TURN_REQUESTS a z ((before || pulled) || last) late
  all = does_trans until a n z (before || pulled) last (does_trans until a m n before pulled one two) three

  -- the queue before the last push was sent by it or is still there
  queue_left : length (queue_of n.conn) ≤ length three.takes.taken.sent + length (queue_of z.conn)
  queue_left = omega (arith, ap length three.takes.taken.bytes, length-append three.takes.taken.sent (queue_of z.conn), length-append (queue_of n.conn) three.takes.taken.owed)

  sent_all : length three.takes.taken.sent ≤ length all.takes.taken.sent
  unfolding all
  sent_all = sent_last until a n z (before || pulled) last (does_trans until a m n before pulled one two) three

  waits_so_far : waits a.streams.output.events ≤ waits n.streams.output.events
  waits_so_far = omega (arith, one.takes.taken.waited, two.takes.taken.waited)

  first_waits : waits m.streams.input.events ≡ waits a.streams.input.events
  first_waits = ap (λ (input : Inflow). waits input.events) first_input

  last_waits : waits z.streams.input.events ≡ waits n.streams.input.events
  last_waits = ap (λ (input : Inflow). waits input.events) last_input

  -- what is left after the pull is left at the end
  still_left : IsLeft until n.conn n.worker → IsLeft until z.conn z.worker
  still_left left = left_later until n.conn z.conn n.worker z.worker worker role (ap (λ (h : Holding). h.waiting) same) left

  held_behind : HoldsOnlyBehind all.takes ⊎ IsLeft until z.conn z.worker
  held_behind =
      ⊎_elim
      (λ (none : HoldsNone (holding_of n.conn)). inl (inl (subst HoldsNone (sym same) none)))
      (λ (others : (n.conn.waiting ≢ None) × ((late ≡ 0) ⊎ (QUEUE_BYTES < length (queue_of n.conn))) ⊎ IsLeft until n.conn n.worker). ⊎_elim
      (λ (behind : (n.conn.waiting ≢ None) × ((late ≡ 0) ⊎ (QUEUE_BYTES < length (queue_of n.conn)))).
      inl (inr (
        (λ none. behind.0 (sym (ap (λ (h : Holding). h.waiting) same) ∙ none)),
        ⊎_elim
            (λ (spent : late ≡ 0). inl (omega (arith, spent, all.fewer)))
            (λ (long : QUEUE_BYTES < length (queue_of n.conn)). inr (omega (arith, long, queue_left, sent_all)))
            behind.1,
      )))
      (λ left. inr (still_left left))
      others)
      held

  full_of : (queue_of z.conn ≢ []) → waits a.streams.output.events < waits z.streams.output.events
  full_of some =
      ⊎_elim
      (λ (none : queue_of z.conn ≡ []). absurd (some none))
      (λ (full : waits z.streams.output.events ≡ waits n.streams.output.events + 1). omega (arith, full, waits_so_far))
      left

  -- a request has ended the stream, and all is sent
  over_rests : ¬ (IsLeft until z.conn z.worker) → (late ≢ 0) → amount three.takes ≡ 0 → n.conn.is_over ≡ true → queue_of n.conn ≡ [] → IsAtRest z.conn
  over_rests unleft unspent still is empty =
      let owed = owed_none z.worker n.conn.role (mark_of n.worker) (mark_of z.worker) three.takes.taken.requests three.takes.taken.owed (omega (arith, still)) three.takes.taken.owes in
      let queue =
      nothing_in (queue_of z.conn)
      (omega (arith, ap length three.takes.taken.bytes, length-append three.takes.taken.sent (queue_of z.conn), length-append (queue_of n.conn) three.takes.taken.owed, owed, ap length empty))
      in
      ⊎_elim
      (λ (none : HoldsNone (holding_of n.conn)). (inr (over ∙ is), ap (λ (h : Holding). h.waiting) same ∙ none.0, queue))
      (λ (others : (n.conn.waiting ≢ None) × ((late ≡ 0) ⊎ (QUEUE_BYTES < length (queue_of n.conn))) ⊎ IsLeft until n.conn n.worker). absurd (⊎_elim
      (λ (behind : (n.conn.waiting ≢ None) × ((late ≡ 0) ⊎ (QUEUE_BYTES < length (queue_of n.conn)))).
      ⊎_elim (λ (spent : late ≡ 0). unspent spent) (λ (long : QUEUE_BYTES < length (queue_of n.conn)). omega (arith, long, ap length empty)) behind.1)
      (λ left. unleft (still_left left))
      others))
      held

  -- where nothing was done no request was taken
  all_left : ((before || pulled) || last) ≡ false → late ≢ 0
  all_left none spent = let nothing : amount all.takes ≡ 0 = did_none _ _ none all.did_is in omega (arith, nothing, all.fewer, spent)

  is_stuck : ¬ (IsAtRest z.conn) → ¬ (IsLeft until z.conn z.worker) → ((before || pulled) || last) ≡ false → IsStuck a z
  is_stuck undone unleft none =
      let still : amount three.takes ≡ 0 = did_none last _ (or_right (before || pulled) last none) three.did_is in
      let unspent : late ≢ 0 = all_left none in
      let long : (QUEUE_BYTES < length (queue_of n.conn)) → IsStuck a z =
      λ (behind : QUEUE_BYTES < length (queue_of n.conn)).
      let there : QUEUE_BYTES < length (queue_of z.conn) = omega (arith, behind, queue_left, still) in
      inr (full_of (λ empty. omega (arith, there, ap length empty)), inr there)
      in
      ⊎_elim
      (λ (waited : waits n.streams.input.events ≡ waits m.streams.input.events + 1). inl (omega (arith, waited, first_waits, last_waits)))
      (λ (rest : (n.conn.has_ended ≡ true) ⊎ ((QUEUE_BYTES < length (queue_of n.conn)) ⊎ ((n.conn.is_over ≡ true) × (queue_of n.conn ≡ []) ⊎ (IsLeft until n.conn n.worker ⊎ (late ≡ 0))))).
      ⊎_elim
      (λ (end : n.conn.has_ended ≡ true).
      ⊎_elim
      (λ (nothing : HoldsNone (holding_of n.conn)).
      inr (full_of (λ empty. undone (inl (ended ∙ end), ap (λ (h : Holding). h.waiting) same ∙ nothing.0, empty)), inl (ended ∙ end)))
      (λ (others : (n.conn.waiting ≢ None) × ((late ≡ 0) ⊎ (QUEUE_BYTES < length (queue_of n.conn))) ⊎ IsLeft until n.conn n.worker). ⊎_elim
      (λ (behind : (n.conn.waiting ≢ None) × ((late ≡ 0) ⊎ (QUEUE_BYTES < length (queue_of n.conn)))). ⊎_elim (λ (spent : late ≡ 0). absurd (unspent spent)) long behind.1)
      (λ left. absurd (unleft (still_left left)))
      others)
      held)
      (⊎_elim long
      (λ (last : (n.conn.is_over ≡ true) × (queue_of n.conn ≡ []) ⊎ (IsLeft until n.conn n.worker ⊎ (late ≡ 0))). absurd (⊎_elim
      (λ (over : (n.conn.is_over ≡ true) × (queue_of n.conn ≡ [])). undone (over_rests unleft unspent still over.0 over.1))
      (λ (others : IsLeft until n.conn n.worker ⊎ (late ≡ 0)). ⊎_elim (λ left. unleft (still_left left)) (λ (spent : late ≡ 0). unspent spent) others)
      last)))
      rest)
      (stuck (or_right before pulled (or_left (before || pulled) last none)))

  done_held : IsAtRest z.conn → IsDone z.conn
  done_held done =
      ⊎_elim
      (λ (none : HoldsNone (holding_of n.conn)). (done.0, subst HoldsNone (sym same) none, done.2))
      (λ (others : (n.conn.waiting ≢ None) × ((late ≡ 0) ⊎ (QUEUE_BYTES < length (queue_of n.conn))) ⊎ IsLeft until n.conn n.worker). absurd (⊎_elim
      (λ (behind : (n.conn.waiting ≢ None) × ((late ≡ 0) ⊎ (QUEUE_BYTES < length (queue_of n.conn)))). behind.0 (sym (ap (λ (h : Holding). h.waiting) same) ∙ done.1))
      (λ left. none_left until z.conn z.worker done.1 (still_left left))
      others))
      held

  state_of : (state : State) → StateIs until z.conn z.worker ((before || pulled) || last) state → IsState all.takes state
  state_of Closed done = done_held done
  state_of Idle is = ((λ done. is.0 (done_rests z.conn done)), did_none _ _ is.2 all.did_is, is_stuck is.0 is.1 is.2)
  state_of Busy is = ((λ done. is.0 (done_rests z.conn done)), did_much _ _ is.2 all.did_is)
  state_of Full left = left.1

  full_of_left : (state : State) → StateIs until z.conn z.worker ((before || pulled) || last) state → IsLeft until z.conn z.worker → state ≡ Full
  full_of_left Closed done left = absurd (none_left until z.conn z.worker done.1 left)
  full_of_left Idle is left = absurd (is.1 left)
  full_of_left Busy is left = absurd (is.1 left)
  full_of_left Full is left = refl

  left_of_full : (state : State) → StateIs until z.conn z.worker ((before || pulled) || last) state → state ≡ Full → until ≡ true
  left_of_full Closed done is = let no : Closed ≡ Full = is in cc
  left_of_full Idle idle is = let no : Idle ≡ Full = is in cc
  left_of_full Busy busy is = let no : Busy ≡ Full = is in cc
  left_of_full Full left is = left.0

  pub goes_round : (state : State) → StateIs until z.conn z.worker ((before || pulled) || last) state → GoesRound until a z state
  goes_round state is = record {
    takes = all.takes;
    state_is = state_of state is;
    full = full_of_left state is;
    only = left_of_full state is;
    held = ⊎_elim inr (λ left. inl (full_of_left state is left)) held_behind;
    few = omega (arith, all.fewer);
    in_time = all.in_time;
    within = all.within;
    left = ⊎_elim inl (λ full. inr (omega (arith, full, waits_so_far))) left;
  }

-- a turn that takes all commands, and one that leaves some to the next log
pub turns : (a z : Scene) (state : State) → GoesRound false a z state → Turns a z state × (state ≢ Full)
turns a z state round =
    let unfull : state ≢ Full = λ full. let no : false ≡ true = round.only full in cc in (
      record {
        takes = round.takes;
        state_is = round.state_is;
        held = ⊎_elim (λ (full : state ≡ Full). absurd (unfull full)) (λ held. held) round.held;
        few = round.few;
        within = round.within;
        left = round.left;
      },
      unfull,
    )

pub never_full : (closed : Bool) (result : Result State Fault) (a z : Scene) → (closed ≡ false → MatchResult result (GoesRound false a z) (StopsRound false a z)) → (closed ≡ true → result ≡ Ok Closed) →
    IfOk result (λ state. state ≢ Full)
never_full false (Ok state) a z goes stays = (turns a z state (goes refl)).1
never_full true (Ok state) a z goes stays = λ full. let is : Ok state ≡ Ok Closed = stays refl in cc
never_full closed (Err fault) a z goes stays = tt

pub turns_until : (a z : Scene) (state : State) → GoesRound true a z state → TurnsUntil a z state
turns_until a z state round = record {
  takes = round.takes;
  state_is = round.state_is;
  full = λ awaits. round.full (refl, awaits);
  held = round.held;
  few = round.few;
  in_time = round.in_time refl;
  within = round.within;
  left = round.left;
}

-- what closing reports of a fault is what is reported of its cause
told_of : (cause : ConnFault) (fault : Fault) (queue : List ℕ) (before after : Outflow) → fault ≡ fault_of cause → TellsOf fault queue before after → IsTold cause queue before after
told_of OutOfMemory fault queue before after is tells = tells.0 is
told_of CellTaken fault queue before after is tells = tells.1 (λ memory. let no : Taken ≡ Memory = sym is ∙ memory in cc)
told_of InputFailed fault queue before after is tells = tells.1 (λ memory. let no : Input ≡ Memory = sym is ∙ memory in cc)
told_of OutputFailed fault queue before after is tells = tells.1 (λ memory. let no : Output ≡ Memory = sym is ∙ memory in cc)

-- a fault that was reported to the client, after which the connection is closed
module _ (before : Scene) (old new : Conn) (worker : Worker) (input : Inflow) (between after : Outflow) (fault : Fault) (same : (new.role ≡ old.role) × (queue_of new ≡ queue_of old)) (past : new.past ≡ old.past)
    (breaks : Breaks before (scene old worker (both input between)) fault) (tells : TellsOf fault (queue_of old) between after) where
  closed : Breaks before (scene new worker (both input between)) fault
  closed = record {
    cause = breaks.cause;
    is = breaks.is;
    to = breaks.to;
    taken = record {
      came = breaks.taken.came;
      requests = breaks.taken.requests;
      owed = breaks.taken.owed;
      sent = breaks.taken.sent;
      pulled = breaks.taken.pulled;
      consumed = breaks.taken.consumed;
      pushed = breaks.taken.pushed;
      role = same.0 ∙ breaks.taken.role;
      onward = breaks.taken.onward;
      owes = breaks.taken.owes;
      bytes = ap (λ rest. breaks.taken.sent ++ rest) same.1 ∙ breaks.taken.bytes;
      waited = breaks.taken.waited;
      counted = breaks.taken.counted;
      counts = breaks.taken.counts;
      past = past ∙ breaks.taken.past;
    };
    met = breaks.met;
    reads = breaks.reads;
    meets = breaks.meets;
    failures = breaks.failures;
  }

  pub stops : new.is_closed ≡ true → Stops before (scene new worker (both input after)) fault
  unfolding closed
  stops shut = record {
    told_from = between;
    breaks = closed;
    told = subst (λ bytes. IsTold breaks.cause bytes between after) (sym same.1) (told_of breaks.cause fault (queue_of old) between after breaks.is tells);
    shut = shut;
  }

  -- in time, if the fault was
  pub stops_in_time : (shut : new.is_closed ≡ true) → BreaksInTime breaks → BreaksInTime (stops shut).breaks
  unfolding stops closed
  stops_in_time shut = ⊎_elim
      inl
      (λ (last : (moment : Scene) × BreaksLast before moment (scene old worker (both input between)) fault breaks). inr (
        last.0,
        record { first = last.1.first; room = last.1.room; onward = last.1.onward; rest = last.1.rest; one = last.1.one; all = last.1.all },
      ))

  pub pulls_told : Pulls before (scene old worker (both input between)) → Pulls before (scene new worker (both input after))
  pulls_told pulls = record {
    once = pulls.once;
    late = late_told breaks.cause before old new worker input between after (queue_of old) pulls.late (told_of breaks.cause fault (queue_of old) between after breaks.is tells);
  }

-- a fault after turns that went well
pub stops_later : (fault : Fault) (a b c : Scene) → Takes a b → Stops b c fault → Stops a c fault
unfolding breaks_later
stops_later fault a b c one two = record {
  told_from = two.told_from;
  breaks = breaks_later fault a b (scene c.conn c.worker (both c.streams.input two.told_from)) one two.breaks;
  told = two.told;
  shut = two.shut;
}

-- and in time, if both are
pub stops_until_later : (fault : Fault) (a b c : Scene) (one : Takes a b) → LogsInTime one → StopsUntil b c fault → StopsUntil a c fault
unfolding stops_later
stops_until_later fault a b c one first two = record {
  stops = stops_later fault a b c one two.stops;
  in_time = breaks_in_time_later fault a b (scene c.conn c.worker (both c.streams.input two.stops.told_from)) one two.stops.breaks first two.in_time;
}

-- turns that went well, and one that closes
pub serves : (a b c : Scene) (state : State) → Takes a b → Turns b c state → state ≡ Closed → Serves a c
serves a b c Closed one two is = record { takes = takes_trans a b c one two.takes; done = two.state_is }
serves a b c Idle one two is = let no : Idle ≡ Closed = is in cc
serves a b c Busy one two is = let no : Busy ≡ Closed = is in cc
serves a b c Full one two is = let no : Full ≡ Closed = is in cc

-- turns that left no command to the next log in time, and one that closes or leaves one
pub serves_closed : (a b c : Scene) (state : State) (one : Takes a b) → LogsInTime one → TurnsUntil b c state → state ≡ Closed → ServesUntil a c Closed
serves_closed a b c state one before two is =
    let done : IsState two.takes Closed = subst (λ state. IsState two.takes state) is two.state_is in
    record { takes = takes_trans a b c one two.takes; ended = inl (refl, done); in_time = in_time_trans a b c one two.takes before two.in_time }

pub serves_full : (a b c : Scene) (state : State) (one : Takes a b) → LogsInTime one → TurnsUntil b c state → state ≡ Full → ServesUntil a c Full
serves_full a b c state one before two is =
    let awaits : IsState two.takes Full = subst (λ state. IsState two.takes state) is two.state_is in
    record { takes = takes_trans a b c one two.takes; ended = inr (refl, awaits); in_time = in_time_trans a b c one two.takes before two.in_time }
