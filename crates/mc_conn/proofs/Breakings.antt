-- A fault after parts that went well, and where it comes from.
use Rattle.std.proofs.Common.{◌≡◌, ℕ, ◌+◌, Bool, true, false, cond, List, [], ◌∷◌, ◌++◌, length, take, drop, slice_get, Some, sym, refl, ap, ◌∙◌, subst, inl, inr, ⊎_elim, arith, append_assoc, append-nil, length-append}
use Rattle.std.proofs.lemmas.List.{take-append-drop}
use Rattle.std.specs.Io.KnownBytes.{Consumes}
use Rattle.std.proofs.KnownBytes.{Consumes-nil}
use Rattle.mc_model.specs.declared.fault.Fault.{Fault}
use Rattle.mc_model.specs.declared.fault.Fault.TheVariants.{Memory, Output}
use Rattle.mc_model.specs.declared.request.Request.{Request}
use Rattle.mc_stream.specs.Event.{moved, waits}
use Rattle.mc_stream.specs.Pushing.{FailsOnce, Pushes}
use Rattle.mc_stream.specs.Stream.{Inflow, Outflow, Streams, both}
use Rattle.uc_worker.specs.Cited.{Sighting}
use Rattle.uc_worker.specs.declared.worker.Worker.{Worker}
use Rattle.uc_worker.specs.Worker.{IsClosing, announced_of}
use Rattle.lists.proofs.Public.{last_at}
use Rattle.mc_conn.specs.declared.conn.Conn.{Conn}
use Rattle.mc_conn.specs.ConnFault.{CellTaken, ConnFault, CountsFailures, InputFailed, OutOfMemory, OutputFailed, fault_of}
use Rattle.mc_conn.specs.Ending.{Breaks, BreaksInTime, BreaksLast, LogsInTime, LogsLast, MayStandBehind, Meets}
use Rattle.mc_conn.specs.Held.{HoldsOn, IsRead}
use Rattle.mc_conn.specs.Onward.{own_sighting}
use Rattle.uc_worker.specs.Going.{Continues}
use Rattle.mc_conn.specs.Owed.{Demand, Logs, Says, count_logged, demand_of, is_logged, mark_of}
use Rattle.mc_conn.specs.Parts.{BreaksFor, Does, IsTakeFault, LooksForNext, MayAnnounceFor, Refuses}
use Rattle.mc_conn.specs.Turn.{NeitherFails, Scene, Taken, Takes, holding_of, queue_of, scene}
use Rattle.mc_conn.proofs.Owings.{same_sighting}
use Rattle.uc_worker.specs.contracts.laws.WorkerGoesOn.TheImpl.{continues_through-value}
use Rattle.mc_conn.proofs.Takings.{count_logged-append, taken_none, taken_still, taken_trans, takes_self, takes_trans}

pub counts_later : (cause : ConnFault) (first second third : Streams) → NeitherFails first second → CountsFailures cause second third → CountsFailures cause first third
counts_later OutOfMemory first second third one two = (two.0 ∙ one.0, two.1 ∙ one.1)
counts_later CellTaken first second third one two = (two.0 ∙ one.0, two.1 ∙ one.1)
counts_later InputFailed first second third one two = (two.0 ∙ ap (λ n. n + 1) one.0, two.1 ∙ one.1)
counts_later OutputFailed first second third one two = (two.0 ∙ one.0, two.1 ∙ ap (λ n. n + 1) one.1)

-- a fault after a part that went well
unfoldable pub breaks_later : (fault : Fault) (a b c : Scene) → Takes a b → Breaks b c fault → Breaks a c fault
unfolding taken_trans
breaks_later fault a b c one two = record {
  cause = two.cause;
  is = two.is;
  to = two.to;
  taken = taken_trans a b c two.to one.taken two.taken;
  met = two.met;
  reads = λ more all reads.
      let begun = (one.reads (two.taken.came ++ more) all).0 (subst (λ bytes. HoldsOn (holding_of a.conn) bytes all) (append_assoc one.taken.came two.taken.came more) reads) in
      let ended = two.reads more begun.0 begun.2 in (
        ended.0,
        begun.1 ∙ (ap (λ (list : List Request). one.taken.requests ++ list) ended.1 ∙ sym (append_assoc one.taken.requests two.taken.requests (two.met ++ ended.0))),
      );
  meets = subst (λ role. Meets c.worker role two.to two.met) one.taken.role two.meets;
  failures = counts_later two.cause a.streams b.streams c.streams one.unfailed two.failures;
}

-- and in time, if both are
pub breaks_in_time_later : (fault : Fault) (a b c : Scene) (one : Takes a b) (two : Breaks b c fault) → LogsInTime one → BreaksInTime two → BreaksInTime (breaks_later fault a b c one two)
unfolding breaks_later takes_trans taken_trans
breaks_in_time_later fault a b c one two first second =
    let ones = one.taken.requests in
    let twos = two.taken.requests ++ two.met in
    let all : (ones ++ two.taken.requests) ++ two.met ≡ ones ++ twos = append_assoc ones two.taken.requests two.met in
    let sum = count_logged-append a.conn.role ones twos in
    let same : count_logged b.conn.role twos ≡ count_logged a.conn.role twos = ap (λ role. count_logged role twos) one.taken.role in
    ⊎_elim
    (λ (none : count_logged b.conn.role twos ≡ 0). ⊎_elim
    (λ (nothing : count_logged a.conn.role ones ≡ 0). inl (ap (λ (list : List Request). count_logged a.conn.role list) all ∙ omega (arith, sum, same, none, nothing)))
    (λ (last : (between : Scene) × LogsLast a between b one).
    let rests = last.1.rest.taken.requests in
    let both = count_logged-append a.conn.role rests twos in
    inr (
      last.0,
      record {
        first = last.1.first;
        room = last.1.room;
        onward = continues_through-value.it last.0.worker b.worker c.worker last.1.rest.taken.onward two.taken.onward;
        rest = rests ++ twos;
        one = omega (arith, both, same, none, last.1.one);
        all = all ∙ (ap (λ (list : List Request). list ++ twos) last.1.all ∙ append_assoc last.1.first.taken.requests rests twos);
      },
    ))
    first)
    (λ (last : (between : Scene) × BreaksLast b between c fault two). inr (
      last.0,
      record {
        first = takes_trans a b last.0 one last.1.first;
        room = last.1.room;
        onward = last.1.onward;
        rest = last.1.rest;
        one = ap (λ role. count_logged role last.1.rest) (sym one.taken.role) ∙ last.1.one;
        all = all ∙ (ap (λ (list : List Request). ones ++ list) last.1.all ∙ sym (append_assoc ones last.1.first.taken.requests last.1.rest));
      },
    ))
    second

pub fails_later : {most left : ℕ} → (until : Bool) (fault : Fault) (a b c : Scene) (did : Bool) → Does until most a b did left → BreaksFor until b c fault → BreaksFor until a c fault
fails_later until fault a b c did one two = record {
  breaks = breaks_later fault a b c one.takes two.breaks;
  in_time = λ is. breaks_in_time_later fault a b c one.takes two.breaks (one.in_time is) (two.in_time is);
}

-- no request was taken, and none met the fault
breaks_here : (cause : ConnFault) (old new : Conn) (worker : Worker) (before after : Streams) →
    (taken : Taken (scene old worker before) (scene new worker after) (mark_of worker)) → taken.requests ≡ [] → CountsFailures cause before after →
    Breaks (scene old worker before) (scene new worker after) (fault_of cause)
breaks_here cause old new worker before after taken none counts = record {
  cause = cause;
  is = refl;
  to = mark_of worker;
  taken = taken;
  met = [];
  reads = λ more all reads. (all, ap (λ (list : List Request). list ++ all) (sym none));
  meets = refl;
  failures = counts;
}

fails_here : (until : Bool) (cause : ConnFault) (old new : Conn) (worker : Worker) (before after : Streams) →
    (taken : Taken (scene old worker before) (scene new worker after) (mark_of worker)) → taken.requests ≡ [] → CountsFailures cause before after →
    BreaksFor until (scene old worker before) (scene new worker after) (fault_of cause)
unfolding breaks_here
fails_here until cause old new worker before after taken none counts = record {
  breaks = breaks_here cause old new worker before after taken none counts;
  in_time = λ is. inl (ap (λ (list : List Request). count_logged old.role (list ++ [])) none);
}

-- while a front of the queue was pushed
pub fails_pushing : (until : Bool) (old new : Conn) (worker : Worker) (input : Inflow) (before after : Outflow) (count : ℕ) → queue_of new ≡ drop count (queue_of old) → new.role ≡ old.role → new.past ≡ old.past →
    Pushes before after (take count (queue_of old)) → FailsOnce before after → waits after.events ≡ waits before.events →
    BreaksFor until (scene old worker (both input before)) (scene new worker (both input after)) Output
unfolding taken_none
fails_pushing until old new worker input before after count left role past went failed waited =
    fails_here until OutputFailed old new worker (both input before) (both input after)
    (taken_none old new worker (both input before) (both input after) [] (take count (queue_of old)) (sym (append-nil (moved input.events))) (Consumes-nil input.left) went role past
    (ap (λ rest. take count (queue_of old) ++ rest) left ∙ take-append-drop count (queue_of old)) (omega (arith, waited)))
    refl (refl, failed)

-- while bytes were pulled, or kept
pub fails_pulling : (until : Bool) (cause : ConnFault) (old new : Conn) (worker : Worker) (before after : Inflow) (output : Outflow) (piece : List ℕ) → queue_of new ≡ queue_of old → new.role ≡ old.role → new.past ≡ old.past →
    moved after.events ≡ moved before.events ++ piece → Consumes before.left after.left piece → CountsFailures cause (both before output) (both after output) →
    BreaksFor until (scene old worker (both before output)) (scene new worker (both after output)) (fault_of cause)
unfolding taken_none
fails_pulling until cause old new worker before after output piece queue role past pulled consumed counts =
    fails_here until cause old new worker (both before output) (both after output)
    (taken_none old new worker (both before output) (both after output) piece [] pulled consumed (sym (append-nil (moved output.events))) role past queue (omega arith)) refl counts

-- while a request was looked for
pub fails_looking : (until : Bool) (old new : Conn) (worker : Worker) (streams : Streams) → LooksForNext old new → BreaksFor until (scene old worker streams) (scene new worker streams) Memory
unfolding taken_still taken_none
fails_looking until old new worker streams looks =
    fails_here until OutOfMemory old new worker streams streams (taken_still old new worker streams looks.role looks.past looks.queue) refl (refl, refl)

-- what the request that met a fault announced
meets_one : (worker later : Worker) (demand : Demand) → Continues worker later → MayAnnounceFor worker later demand → MayStandBehind later (mark_of worker) demand
meets_one worker later (Logs tenant command quiet) on may =
    ⊎_elim
    (λ (same : announced_of later ≡ announced_of worker). inl (ap (λ (list : List Sighting). length list) same))
    (λ (more : announced_of later ≡ announced_of worker ++ own_sighting worker (length (announced_of worker)) tenant command ∷ []). inr (
      ap (λ (list : List Sighting). length list) more ∙ length-append (announced_of worker) (own_sighting worker (length (announced_of worker)) tenant command ∷ []),
      ap (λ (list : List Sighting). slice_get list (length (announced_of worker))) more
          ∙ (last_at (announced_of worker) _ ∙ ap (λ (seen : Sighting). Some seen) (same_sighting worker later on (length (announced_of worker)) tenant command)),
    ))
    may
meets_one worker later (Says said) on may = ap (λ (list : List Sighting). length list) may

-- the cause of a fault at which a request was taken
take_cause : (fault : Fault) (streams : Streams) → IsTakeFault fault → (cause : ConnFault) × (fault ≡ fault_of cause) × CountsFailures cause streams streams
take_cause fault streams which = ⊎_elim (λ is. (OutOfMemory, is, (refl, refl))) (λ is. (CellTaken, is, (refl, refl))) which

-- while a request was taken
breaks_taking : (fault : Fault) (old new : Conn) (worker later : Worker) (streams : Streams) (request : Request) → IsRead (holding_of old) [] (request ∷ []) (holding_of new) →
    new.role ≡ old.role → new.past ≡ old.past → Continues worker later → Refuses worker later old.role request (queue_of old) (queue_of new) fault →
    Breaks (scene old worker streams) (scene new later streams) fault
breaks_taking fault old new worker later streams request read role past on refuses =
    let why = take_cause fault streams refuses.is in
    record {
      cause = why.0;
      is = why.1;
      to = mark_of worker;
      taken = record {
        came = [];
        requests = [];
        owed = [];
        sent = [];
        pulled = sym (append-nil (moved streams.input.events));
        consumed = Consumes-nil streams.input.left;
        pushed = sym (append-nil (moved streams.output.events));
        role = role;
        onward = on;
        owes = (refl, refl, omega arith);
        bytes = refuses.unchanged ∙ sym (append-nil (queue_of old));
        waited = omega arith;
        counted = [];
        counts = (refl, refl);
        past = past ∙ sym (append-nil old.past);
      };
      met = request ∷ [];
      reads = λ more all reads. let follows = (read more all).0 reads in (follows.0, follows.1);
      meets = (refl, meets_one worker later (demand_of old.role request) on refuses.announced);
      failures = why.2;
    }

-- and if it is to be logged, its log wasn't closing
module _ (fault : Fault) (old new : Conn) (worker later : Worker) (streams : Streams) (request : Request) (read : IsRead (holding_of old) [] (request ∷ []) (holding_of new))
    (role : new.role ≡ old.role) (past : new.past ≡ old.past) (on : Continues worker later) (refuses : Refuses worker later old.role request (queue_of old) (queue_of new) fault) where
  taking : Breaks (scene old worker streams) (scene new later streams) fault
  taking = breaks_taking fault old new worker later streams request read role past on refuses

  taking_in_time : (logged : Bool) → is_logged (demand_of old.role request) ≡ logged → (logged ≡ true → ¬ (IsClosing worker)) → BreaksInTime taking
  unfolding taking breaks_taking takes_self taken_still taken_none
  taking_in_time true is room = inr (
    scene old worker streams,
    record {
      first = takes_self (scene old worker streams);
      room = room refl;
      onward = on;
      rest = request ∷ [];
      one = ap (λ logged. cond logged 1 0 + 0) is;
      all = refl;
    },
  )
  taking_in_time false is room = inl (ap (λ logged. cond logged 1 0 + 0) is)

  pub fails_taking : (until : Bool) → (until ≡ true → is_logged (demand_of old.role request) ≡ true → ¬ (IsClosing worker)) →
      BreaksFor until (scene old worker streams) (scene new later streams) fault
  fails_taking until room = record { breaks = taking; in_time = λ is. taking_in_time (is_logged (demand_of old.role request)) refl (room is) }
