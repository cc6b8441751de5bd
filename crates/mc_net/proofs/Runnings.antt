-- Worker threads, what came back of them, and their event loops, place by place.
use Rattle.std.proofs.Common.{◌≡◌, ℕ, ◌<◌, suc, Bool, true, false, List, [], ◌∷◌, length, map, ap, refl, sym, subst, ◌++◌, arith, slice_index_or, take, drop, All, Bor, ◌∙◌, Ok, Err, Result, MatchResult, IfErr, inl, inr, ⊎_elim}
use Rattle.std.specs.List.{AllZip}
use Rattle.std.proofs.Math.Seq.{take-append_seam}
use Rattle.std.proofs.lemmas.List.Elements.{AllZip-get_or, All-cons, All-head, All-nil, All-tail, length_all_zip}
use Rattle.mc_connections.specs.Asking.{HaveBeenAsked, WereAnsweredAsAsked}
use Rattle.mc_connections.specs.InTurn.{HaveServedInTurn, InTurn, nobody, no_worker, one_on_next_log}
use Rattle.mc_connections.specs.Working.{IsEmpty, Standing, Works, standing}
use Rattle.mc_connections.specs.declared.connections.Connections.{Connections}
use Rattle.mc_net.specs.Returning.{HasAnswered, HasBeenAsked, HasServed, returned_of, returned_worker}
use Rattle.mc_net.specs.Running.{EndsWith, HasBeenServedBy, HasRun, HasServedAt, HasStopped, HasWorked, HaveRun, HaveServedAt, IsEmptyLoop, IsFor, IsNewLoop, each_followed_by, event_loops_of, no_more, one_more, standing_at, workers_of}
use Rattle.mc_net.specs.declared.ended.Ended.{Ended}
use Rattle.mc_net.specs.declared.ended.Ended.TheVariants.{Done, Full}
use Rattle.mc_net.specs.declared.event_loop.EventLoop.{EventLoop}
use Rattle.mc_net.specs.declared.halt.Halt.{Halt}
use Rattle.mc_net.specs.declared.worker_thread.Returned.{Returned}
use Rattle.mc_net.specs.declared.worker_thread.WorkerThread.{WorkerThread}
use Rattle.uc_log.specs.declared.log.Log.{Log}
use Rattle.uc_worker.specs.Going.{CatchesUp, Continues}
use Rattle.uc_worker.specs.Worker.{tenants_of}
use Rattle.uc_worker.specs.declared.worker.Worker.{Worker}

-- what comes before the rest
pub taken_whole : {A : Type 0} (n : ℕ) (all rest : List A) → n ≡ length all → take n (all ++ rest) ≡ all
taken_whole n all rest is = rw is (take-append_seam all rest)

-- one more thread, in front of the workers that are left
pub one_more_worker : {G : Type 0} (worker_threads : List (WorkerThread G)) (worker_thread : WorkerThread G) (left : List Worker) →
    workers_of (worker_threads ++ worker_thread ∷ []) ++ left ≡ workers_of worker_threads ++ worker_thread.worker ∷ left
one_more_worker [] worker_thread left = refl
one_more_worker (first ∷ worker_threads) worker_thread left = ap (λ (list : List Worker). first.worker ∷ list) (one_more_worker worker_threads worker_thread left)

-- one more thread, in front of the event loops that are left
pub one_more_loop : {G : Type 0} (worker_threads : List (WorkerThread G)) (worker_thread : WorkerThread G) (left : List EventLoop) →
    event_loops_of (worker_threads ++ worker_thread ∷ []) ++ left ≡ event_loops_of worker_threads ++ worker_thread.event_loop ∷ left
one_more_loop [] worker_thread left = refl
one_more_loop (first ∷ worker_threads) worker_thread left = ap (λ (list : List EventLoop). first.event_loop ∷ list) (one_more_loop worker_threads worker_thread left)

-- one more element, in front of those that are left
pub append_one : {A : Type 0} (front : List A) (x : A) (left : List A) → (front ++ x ∷ []) ++ left ≡ front ++ x ∷ left
append_one [] x left = refl
append_one (y ∷ front) x left = ap (λ list. y ∷ list) (append_one front x left)

-- how a thread's loop ended
pub ends_with : {G : Type 0} (last : Ended) (worker_thread : WorkerThread G) (found : Ended) → worker_thread.outcome ≡ Ok found → (found ≡ Full → last ≡ Full) → EndsWith last worker_thread
ends_with last worker_thread Done is at_least = inl is
ends_with last worker_thread Full is at_least = inr (is, at_least refl)

-- what holds in any case holds if a loop has failed
pub if_failed : {X E : Type 0} {P : Type 0} (result : Result X E) → P → IfErr result (λ _. P)
if_failed (Ok x) holds = tt
if_failed (Err error) holds = holds

-- a loop that has failed had worked up to then
pub has_stopped : (until : Bool) (before after : Standing) → Works until before after → HasStopped until before after
has_stopped until before after works = record { last = after; works = works; worker = refl; left = inl refl }

-- a worker whose loop has ended well
served_at : {G : Type 0} (until : Bool) (ended : Ended) (old new : WorkerThread G) → HasRun until old new → EndsWith ended new →
    HasServedAt until ended old.worker old.event_loop new.worker new.event_loop
served_at {G} until ended old new run well =
    let worked = HasWorked until (standing_at old.worker old.event_loop) (standing_at new.worker new.event_loop) in
    let stopped = λ (halt : Halt). HasStopped until (standing_at old.worker old.event_loop) (standing_at new.worker new.event_loop) in
    ⊎_elim
    (λ (done : new.outcome ≡ Ok Done).
    let it : worked Done = subst (λ (outcome : Result Ended Halt). MatchResult outcome worked stopped) done run in
    record { works = it.works; over = inl it.over })
    (λ full.
    let it : worked Full = subst (λ (outcome : Result Ended Halt). MatchResult outcome worked stopped) full.0 run in
    record { works = it.works; over = inr (it.over, full.1) })
    well

all_served_at : {G : Type 0} (until : Bool) (ended : Ended) (old new : List (WorkerThread G)) → length new ≡ length old →
    ((i : ℕ) (d : WorkerThread G) → i < length old → HasRun until (slice_index_or old i d) (slice_index_or new i d)) → All (EndsWith ended) new →
    HaveServedAt until ended (workers_of old) (event_loops_of old) (workers_of new) (event_loops_of new)
all_served_at until ended [] [] long each well = no_more
all_served_at until ended [] (y ∷ ys) long each well = let no : ⊥ = omega (arith, long) in absurd no
all_served_at until ended (x ∷ xs) [] long each well = let no : ⊥ = omega (arith, long) in absurd no
all_served_at until ended (x ∷ xs) (y ∷ ys) long each well =
    one_more x.worker x.event_loop y.worker y.event_loop (workers_of xs) (event_loops_of xs) (workers_of ys) (event_loops_of ys)
    (served_at until ended x y (each 0 x (omega arith)) (All-head (EndsWith ended) y ys well))
    (all_served_at until ended xs ys (omega (arith, long)) (λ i d inside. each (suc i) d (omega (arith, inside))) (All-tail (EndsWith ended) y ys well))

-- What came back of threads that ran: the slice that was lent to them is all of them.
pub front_served : {G : Type 0} (until : Bool) (ended : Ended) (first lent last : List (WorkerThread G)) (many : ℕ) (workers back : List Worker) (before after : List EventLoop) →
    lent ≡ first → HaveRun until lent last → many ≡ length first → All (EndsWith ended) (take many (last ++ drop (length last) first)) →
    back ≡ workers_of (take many (last ++ drop (length last) first)) → after ≡ event_loops_of (take many (last ++ drop (length last) first)) →
    workers_of first ≡ workers → event_loops_of first ≡ before → HaveServedAt until ended workers before back after
front_served {G} until ended first lent last many workers back before after same run long well backs afters firsts befores =
    let ran : HaveRun until first last = subst (λ (old : List (WorkerThread G)). HaveRun until old last) same run in
    let whole = taken_whole many last (drop (length last) first) (long ∙ sym ran.long) in
    let ends : All (EndsWith ended) last = subst (All (EndsWith ended)) whole well in
    let is_back : workers_of last ≡ back = sym (backs ∙ ap workers_of whole) in
    let is_after : event_loops_of last ≡ after = sym (afters ∙ ap event_loops_of whole) in
    subst (λ (workers : List Worker). HaveServedAt until ended workers before back after) firsts
    (subst (λ (before : List EventLoop). HaveServedAt until ended (workers_of first) before back after) befores
    (subst (λ (back : List Worker). HaveServedAt until ended (workers_of first) (event_loops_of first) back after) is_back
    (subst (λ (after : List EventLoop). HaveServedAt until ended (workers_of first) (event_loops_of first) (workers_of last) after) is_after
    (all_served_at until ended first last ran.long ran.each ends))))

-- where no command is left to another log no connection is left, so that all loops are done
pub last_is_done : (ended : Ended) (workers : List Worker) (before : List EventLoop) (back : List Worker) (after : List EventLoop) → HaveServedAt false ended workers before back after →
    HaveServedAt false Done workers before back after
last_is_done ended _ _ _ _ no_more = no_more
last_is_done ended _ _ _ _ (one_more worker before back after workers befores backs afters served more) =
    one_more worker before back after workers befores backs afters
    (record { works = served.works; over = ⊎_elim (λ empty. inl empty) (λ full. let no : false ≡ true = full.0 in cc) served.over })
    (last_is_done ended workers befores backs afters more)

-- whoever has served before, now these have too
pub served_in_turn : (until : Bool) (ended : Ended) (workers : List Worker) (before : List EventLoop) (back : List Worker) (after : List EventLoop) →
    HaveServedAt until ended workers before back after → (past : List InTurn) → AllZip HasBeenServedBy past before → AllZip HasBeenServedBy (each_followed_by past workers back) after
served_in_turn until ended _ _ _ _ no_more [] all = tt
served_in_turn until ended _ _ _ _ no_more (who ∷ others) all = absurd all
served_in_turn until ended _ _ _ _ (one_more worker before back after workers befores backs afters served more) [] all = absurd all
served_in_turn until ended _ _ _ _ (one_more worker before back after workers befores backs afters served more) (who ∷ others) all = (
  one_on_next_log who before.ready.connections after.ready.connections until worker back all.0 served.works,
  served_in_turn until ended workers befores backs afters more others all.1,
)

-- once all loops are done no connection is left
pub empty_if_done : (until : Bool) (ended : Ended) (workers : List Worker) (before : List EventLoop) (back : List Worker) (after : List EventLoop) →
    HaveServedAt until ended workers before back after → ended ≡ Done → All IsEmptyLoop after
empty_if_done until ended _ _ _ _ no_more done = All-nil IsEmptyLoop
empty_if_done until ended _ _ _ _ (one_more worker before back after workers befores backs afters served more) done =
    All-cons IsEmptyLoop after afters (⊎_elim (λ empty. empty) (λ full. let no : Full ≡ Done = sym full.1 ∙ done in cc) served.over) (empty_if_done until ended workers befores backs afters more done)

-- the laws of work
abbrev pub GoesOn : Type 0
GoesOn = (until : Bool) (a b : Standing) → Works until a b → Continues a.worker b.worker

abbrev pub StaysKnown : Type 0
StaysKnown = (until : Bool) (a b : Standing) → Works until a b → a.connections.tenants ≡ length (tenants_of a.worker) → b.connections.tenants ≡ length (tenants_of b.worker)

-- each worker is the same, later on
pub served_onward : GoesOn → (until : Bool) (ended : Ended) (workers : List Worker) (before : List EventLoop) (back : List Worker) (after : List EventLoop) →
    HaveServedAt until ended workers before back after → AllZip Continues workers back
served_onward goes_on until ended _ _ _ _ no_more = tt
served_onward goes_on until ended _ _ _ _ (one_more worker before back after workers befores backs afters served more) =
    (goes_on until (standing_at worker before) (standing_at back after) served.works, served_onward goes_on until ended workers befores backs afters more)

-- the event loops are for as many tenants as before
pub served_known : GoesOn → StaysKnown → (log : Log) (until : Bool) (ended : Ended) (workers : List Worker) (before : List EventLoop) (back : List Worker) (after : List EventLoop) →
    HaveServedAt until ended workers before back after → All (λ (worker : Worker). worker.log.now ≡ log) workers → All (IsFor (length log.settings.tenants)) before →
    All (IsFor (length log.settings.tenants)) after
served_known goes_on known log until ended _ _ _ _ no_more of all = All-nil (IsFor (length log.settings.tenants))
served_known goes_on known log until ended _ _ _ _ (one_more worker before back after workers befores backs afters served more) of all =
    let Of = λ (worker : Worker). worker.log.now ≡ log in
    let For = IsFor (length log.settings.tenants) in
    let here : worker.log.now ≡ log = All-head Of worker workers of in
    let on = goes_on until (standing_at worker before) (standing_at back after) served.works in
    let still = known until (standing_at worker before) (standing_at back after) served.works
    (All-head For before befores all ∙ sym (ap (λ (log : Log). length log.settings.tenants) here)) in
    let there : back.log.now ≡ log = ap (λ (log : Bor Log). log.now) on.log ∙ here in
    All-cons For after afters (still ∙ ap (λ (log : Log). length log.settings.tenants) there)
    (served_known goes_on known log until ended workers befores backs afters more (All-tail Of worker workers of) (All-tail For before befores all))

-- as many come back
pub served_many : (until : Bool) (ended : Ended) (workers : List Worker) (before : List EventLoop) (back : List Worker) (after : List EventLoop) →
    HaveServedAt until ended workers before back after → (length back ≡ length workers) × (length after ≡ length before)
served_many until ended _ _ _ _ no_more = (refl, refl)
served_many until ended _ _ _ _ (one_more worker before back after workers befores backs afters served more) =
    let many = served_many until ended workers befores backs afters more in (ap (λ n. suc n) many.0, ap (λ n. suc n) many.1)

-- a worker that came back from a new event loop
pub served_anew : GoesOn → (tenants : ℕ) (ended : Ended) (workers : List Worker) (before : List EventLoop) (back : List Worker) (after : List EventLoop) →
    HaveServedAt false ended workers before back after → All (IsNewLoop tenants) before → AllZip HasServed workers (returned_of back after)
served_anew goes_on tenants ended _ _ _ _ no_more new = tt
served_anew goes_on tenants ended _ _ _ _ (one_more worker before back after workers befores backs afters served more) new = (
  record {
    onward = goes_on false (standing_at worker before) (standing_at back after) served.works;
    first = before.ready.connections;
    last = after.ready.connections;
    new = (All-head (IsNewLoop tenants) before befores new).1;
    works = served.works;
    over = ⊎_elim (λ empty. empty) (λ full. let no : false ≡ true = full.0 in cc) served.over;
    ended = refl;
  },
  served_anew goes_on tenants ended workers befores backs afters more (All-tail (IsNewLoop tenants) before befores new),
)

pub all_onward : (workers : List Worker) (back : List Returned) → AllZip HasServed workers back → AllZip Continues workers (map returned_worker back)
all_onward [] [] all = tt
all_onward [] (back ∷ backs) all = absurd all
all_onward (worker ∷ workers) [] all = absurd all
all_onward (worker ∷ workers) (back ∷ backs) all = (all.0.onward, all_onward workers backs all.1)

-- who served on one log
one_log : (worker : Worker) (back : Returned) (served : HasServed worker back) →
    HaveServedInTurn (record { begun = worker ∷ []; served = back.worker ∷ [] }) served.last
one_log worker back served =
    one_on_next_log nobody served.first served.last false worker back.worker (no_worker served.first served.new) served.works

-- the laws of what was answered and asked
abbrev pub AreAnswered : Type 0
AreAnswered = (who : InTurn) (connections : Connections) → HaveServedInTurn who connections → IsEmpty connections → WereAnsweredAsAsked who.begun who.served connections.ended.connections

abbrev pub AreAsked : Type 0
AreAsked = (who : InTurn) (connections : Connections) → HaveServedInTurn who connections → IsEmpty connections → HaveBeenAsked who.begun who.served connections.ended.connections

pub all_have_answered : AreAnswered → (workers : List Worker) (back : List Returned) → AllZip HasServed workers back → AllZip HasAnswered workers back
all_have_answered law [] [] served = tt
all_have_answered law [] (z ∷ zs) served = absurd served
all_have_answered law (x ∷ xs) [] served = absurd served
all_have_answered law (x ∷ xs) (z ∷ zs) served = (
  subst (λ past. WereAnsweredAsAsked (x ∷ []) (z.worker ∷ []) past.connections) served.0.ended
      (law (record { begun = x ∷ []; served = z.worker ∷ [] }) served.0.last (one_log x z served.0) served.0.over),
  all_have_answered law xs zs served.1,
)

pub all_have_been_asked : AreAsked → (workers : List Worker) (back : List Returned) → AllZip HasServed workers back → AllZip HasBeenAsked workers back
all_have_been_asked law [] [] served = tt
all_have_been_asked law [] (z ∷ zs) served = absurd served
all_have_been_asked law (x ∷ xs) [] served = absurd served
all_have_been_asked law (x ∷ xs) (z ∷ zs) served = (
  subst (λ past. HaveBeenAsked (x ∷ []) (z.worker ∷ []) past.connections) served.0.ended
      (law (record { begun = x ∷ []; served = z.worker ∷ [] }) served.0.last (one_log x z served.0) served.0.over),
  all_have_been_asked law xs zs served.1,
)

-- workers that have gone on are still of the log that they were of
pub all_of : (log : Log) (old new : List Worker) → AllZip Continues old new → All (λ (worker : Worker). worker.log.now ≡ log) old → All (λ (worker : Worker). worker.log.now ≡ log) new
all_of log old new onward of = λ i d inside.
    let within : i < length old = rw (length_all_zip Continues old new onward) inside in
    ap (λ (log : Bor Log). log.now) (AllZip-get_or Continues old new i d d onward within).log ∙ of i d within

-- the law of a worker that catches up after its work
abbrev pub CatchesUpAfter : Type 0
CatchesUpAfter = (until : Bool) (a : Standing) (old new : Worker) (connections : Connections) → Works until a (standing old connections) → CatchesUp old new →
    Works until a (standing new connections)

-- workers that have caught up since they served have served
pub served_later : CatchesUpAfter → (until : Bool) (ended : Ended) (workers : List Worker) (before : List EventLoop) (back : List Worker) (after : List EventLoop) (later : List Worker) →
    HaveServedAt until ended workers before back after → AllZip CatchesUp back later → HaveServedAt until ended workers before later after
served_later law until ended _ _ _ _ [] no_more caught = no_more
served_later law until ended _ _ _ _ (z ∷ later) no_more caught = absurd caught
served_later law until ended _ _ _ _ [] (one_more worker before back after workers befores backs afters served more) caught = absurd caught
served_later law until ended _ _ _ _ (z ∷ later) (one_more worker before back after workers befores backs afters served more) caught =
    one_more worker before z after workers befores later afters
    (record { works = law until (standing_at worker before) back z after.ready.connections served.works caught.0; over = served.over })
    (served_later law until ended workers befores backs afters later more caught.1)

-- the workers of those that came back
pub returned_are : (until : Bool) (ended : Ended) (workers : List Worker) (before : List EventLoop) (back : List Worker) (after : List EventLoop) →
    HaveServedAt until ended workers before back after → map returned_worker (returned_of back after) ≡ back
returned_are until ended _ _ _ _ no_more = refl
returned_are until ended _ _ _ _ (one_more worker before back after workers befores backs afters served more) =
    ap (λ (list : List Worker). back ∷ list) (returned_are until ended workers befores backs afters more)
