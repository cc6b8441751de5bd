-- Logs one after another: workers that close one, and what those come to that have
-- served on all of them.
use Rattle.std.proofs.Common.{◌≡◌, ◌∙◌, ◌⊎◌, ◌<◌, ◌≤◌, ℕ, ◌+◌, ◌-◌, ◌^◌, min, zero, suc, Bool, true, false, List, [], ◌∷◌, ◌++◌, Err, IfOk, Ok, Result, take, Some, All, length, map, slice_get, slice_index_or, ap, arith, refl, sym, subst, inl, inr, ⊎_elim}
use Rattle.std.proofs.Math.Nat.{min-eq_left}
use Rattle.std.proofs.Math.Seq.{take-append_seam}
use Rattle.std.proofs.lemmas.List.Elements.{All-cons, All-contains, All-head, All-nil, All-tail}
use Rattle.std.proofs.lemmas.Option.{none-some, same_Some}
use Rattle.std.proofs.lemmas.Slice.Zip.{AllZip-long}
use Rattle.std.specs.List.{AllZip}
use Rattle.mc_connections.specs.Asking.{WereAnsweredAsAsked}
use Rattle.mc_connections.specs.InTurn.{HaveServedInTurn, InTurn, no_worker, nobody}
use Rattle.mc_connections.specs.Working.{IsEmpty}
use Rattle.mc_connections.specs.declared.connections.Connections.{Connections}
use Rattle.mc_model.specs.declared.shown.LogSize.{LogSize}
use Rattle.mc_model.specs.Replay.{EachStands, HaveRoom}
use Rattle.mc_model.specs.Settings.{Configuration}
use Rattle.mc_model.specs.State.{TableState}
use Rattle.mc_net.specs.Running.{HasBeenServedBy, IsEmptyLoop, IsNewLoop}
use Rattle.mc_net.specs.declared.ended.Ended.{Ended}
use Rattle.mc_connections.specs.declared.connection.Connection.{Connection}
use Rattle.mc_net.specs.declared.event_loop.EventLoop.{EventLoop}
use Rattle.mc_net.specs.declared.front.Front.{Front}
use Rattle.mc_server.proofs.NetworkRuns.{are_workers}
use Rattle.mc_server.specs.Crew.{AreWorkersOf}
use Rattle.mc_server.specs.Logs.{CanBeFollowed, Closes, EndsThere, IsAnsweredBy, IsFrontOf, ServesInTwo, ServesLast, WereServed, WereServedAt}
use Rattle.uc_worker.specs.Cited.{entries}
use Rattle.uc_log.specs.declared.log.Log.{Log}
use Rattle.uc_worker.specs.Cited.{Sighting}
use Rattle.uc_worker.specs.AllWorkers.{AreOnOneRun}
use Rattle.uc_worker.specs.Going.{CatchesUp, Continues}
use Rattle.uc_worker.specs.TurningOver.{CanTurnOver, HaveOneHistory, IsAsBefore, IsUpToDateAt}
use Rattle.uc_worker.specs.Worker.{IsUpToDate, history_of, openings_of, seat_of, tables_of}
use Rattle.uc_worker.specs.declared.worker.Worker.{Worker}

-- the law of catching up again and again
abbrev pub CatchesUpThrough : Type 0
CatchesUpThrough = (first second third : Worker) → CatchesUp first second → CatchesUp second third → CatchesUp first third

-- workers that are as they were before have announced nothing more
pub all_caught_up : CatchesUpThrough → (old now new : List Worker) → AllZip CatchesUp old now → AllZip IsAsBefore now new → AllZip CatchesUp old new
all_caught_up through [] [] [] one two = tt
all_caught_up through [] [] (z ∷ zs) one two = absurd two
all_caught_up through [] (y ∷ ys) new one two = absurd one
all_caught_up through (x ∷ xs) [] new one two = absurd one
all_caught_up through (x ∷ xs) (y ∷ ys) [] one two = absurd two
all_caught_up through (x ∷ xs) (y ∷ ys) (z ∷ zs) one two = (through x y z one.0 two.0.caught_up, all_caught_up through xs ys zs one.1 two.1)

all_at : (log : Log) (used : ℕ) (settings : Configuration) (now new : List Worker) → All (CanTurnOver log used settings) now → AllZip IsAsBefore now new → All (IsUpToDateAt used) new
all_at log used settings [] [] can same = All-nil (IsUpToDateAt used)
all_at log used settings [] (z ∷ zs) can same = absurd same
all_at log used settings (y ∷ ys) [] can same = absurd same
all_at log used settings (y ∷ ys) (z ∷ zs) can same =
    let at = (All-head (CanTurnOver log used settings) y ys can).up_to_date in
    let long = ap length same.0.history in
    All-cons (IsUpToDateAt used) z zs (long ∙ at.0 ∙ sym (ap length same.0.learned), long ∙ at.1)
    (all_at log used settings ys zs (All-tail (CanTurnOver log used settings) y ys can) same.1)

first_stands : (now new : List Worker) (tables : List TableState) → AllZip IsAsBefore now new →
    ((first : Worker) → slice_get now 0 ≡ Some first → EachStands (openings_of first) (entries (history_of first)) tables) →
    (first : Worker) → slice_get new 0 ≡ Some first → EachStands (openings_of first) (entries (history_of first)) tables
first_stands [] [] tables same stands first at = absurd (none-some first at)
first_stands [] (z ∷ zs) tables same stands first at = absurd same
first_stands (y ∷ ys) [] tables same stands first at = absurd same
first_stands (y ∷ ys) (z ∷ zs) tables same stands first at =
    let is : z ≡ first = same_Some z first at in
    subst (λ (first : Worker). EachStands (openings_of first) (entries (history_of first)) tables) is
    (subst (λ openings. EachStands openings (entries (history_of z)) tables) (sym same.0.openings)
    (subst (λ (history : List Sighting). EachStands (openings_of y) (entries history) tables) (sym same.0.history) (stands y refl)))

-- workers that have caught up and turned over have closed their log
pub closes : CatchesUpThrough → (log : Log) (used : ℕ) (settings : Configuration) (old now new : List Worker) (tables : List TableState) → AllZip CatchesUp old now →
    All (CanTurnOver log used settings) now → AllZip IsAsBefore now new →
    HaveOneHistory new → AreOnOneRun new → ((first : Worker) → slice_get now 0 ≡ Some first → EachStands (openings_of first) (entries (history_of first)) tables) → Closes old used tables
closes through log used settings old now new tables later can same one run stands = record {
  closes = record {
    closed = new;
    later = all_caught_up through old now new later same;
    up_to_date = all_at log used settings now new can same;
    same = one;
    run = run;
  };
  stands = first_stands now new tables same stands;
}

-- workers of a log that can be followed can turn over
pub can_all : (log : Log) (used : ℕ) (settings : Configuration) (workers : List Worker) (places : ℕ) → places ≡ settings.places → All (λ (worker : Worker). worker.log.now ≡ log) workers →
    All IsUpToDate workers → All (CanBeFollowed used places) workers → All (CanTurnOver log used settings) workers
can_all log used settings workers places is of all can = λ i d inside. record {
  of = of i d inside;
  up_to_date = (all i d inside, (can i d inside).0);
  room = subst (HaveRoom (tables_of (slice_index_or workers i d))) is (can i d inside).1;
}

-- workers that have caught up have gone on
pub all_on : (old new : List Worker) → AllZip CatchesUp old new → AllZip Continues old new
all_on [] [] all = tt
all_on [] (y ∷ ys) all = absurd all
all_on (x ∷ xs) [] all = absurd all
all_on (x ∷ xs) (y ∷ ys) all = (all.0.continues, all_on xs ys all.1)

-- the first worker has replayed no more places than its log has
pub few_used : (log : Log) (workers : List Worker) → All (λ (worker : Worker). worker.log.now ≡ log) workers → (first : Worker) → slice_get workers 0 ≡ Some first →
    length (history_of first) ≤ log.settings.places
few_used log [] of first at = absurd (none-some first at)
few_used log (worker ∷ workers) of first at = subst (λ (it : Worker). length (history_of it) ≤ log.settings.places) (same_Some worker first at) (omega (arith, worker.short, worker.pass.desk.law.few, size))
  where
    size : (seat_of worker).size.places ≡ log.settings.places
    size = ap (λ (size : LogSize). size.places) worker.of.1 ∙ ap (λ (log : Log). log.settings.places) (of 0 worker (omega arith))

-- what comes before the rest
pub taken_whole : {A : Type 0} (n : ℕ) (all rest : List A) → n ≡ length all → take n (all ++ rest) ≡ all
taken_whole n all rest is = rw is (take-append_seam all rest)

-- what follows for what was returned without a fault
pub if_ok : {A E : Type 0} (result : Result A E) (P Q : A → Type 0) → ((a : A) → P a → Q a) → IfOk result P → IfOk result Q
if_ok (Ok a) P Q follows p = follows a p
if_ok (Err e) P Q follows p = p

-- a log that is followed by another isn't the last one
pub not_last : (is : Bool) (ended : Ended) → (is ≡ true → ended ≡ Ended.Done) → ended ≡ Ended.Full → is ≡ false
not_last false ended last full = refl
not_last true ended last full = let no : Ended.Full ≡ Ended.Done = sym full ∙ last refl in cc

-- the first of some logs is one of them
pub first_few : (most : ℕ) → (most ≡ 0) ⊎ (1 ≡ 0 + 1) × (0 < most)
first_few zero = inl refl
first_few (suc most) = inr (refl, omega arith)

-- one more of some logs is one of them, if it isn't the last one
pub one_more_few : (logs number most next : ℕ) → (most ≡ 0) ⊎ (number < most) → number ≡ logs + 1 → most ≤ 2 ^ 64 - 1 → next ≡ min (number + 1) (2 ^ 64 - 1) → (most ≡ 0) ⊎ (next ≡ (logs + 1) + 1) × (logs + 1 < most)
one_more_few logs number most next more is fits then =
    ⊎_elim
    (λ none. inl none)
    (λ below.
    let exact : min (number + 1) (2 ^ 64 - 1) ≡ number + 1 = min-eq_left (omega (arith, below, fits)) in
    inr (omega (arith, is, then, exact), omega (arith, is, below)))
    more

-- the law of what was answered and asked
abbrev pub AreAnswered : Type 0
AreAnswered = (who : InTurn) (connections : Connections) → HaveServedInTurn who connections → IsEmpty connections → WereAnsweredAsAsked who.begun who.served connections.ended.connections

-- the connections that have ended at the event loop, the latest first
abbrev ended_at : EventLoop → List Connection
ended_at event_loop = event_loop.ready.connections.ended.connections

all_answered : AreAnswered → (who : List InTurn) (loops : List EventLoop) → AllZip HasBeenServedBy who loops → All IsEmptyLoop loops → AllZip IsAnsweredBy who (map ended_at loops)
all_answered answered [] [] by over = tt
all_answered answered [] (z ∷ zs) by over = absurd by
all_answered answered (x ∷ xs) [] by over = absurd by
all_answered answered (x ∷ xs) (z ∷ zs) by over = (
  record {
    answered = answered x z.ready.connections by.0 (All-head IsEmptyLoop z zs over);
    last = z.ready.connections;
    in_turn = by.0;
    none_left = All-head IsEmptyLoop z zs over;
    are = refl;
  },
  all_answered answered xs zs by.1 (All-tail IsEmptyLoop z zs over),
)

were_served : AreAnswered → (settings : Configuration) (most logs places last number : ℕ) (front : Front) → IsFrontOf settings front → EndsThere settings logs places last front →
    (most ≡ 0) ⊎ (logs < most) → number ≡ places + last → WereServed settings most number
were_served answered settings most logs places last number front fits ends few total = record {
  logs = logs;
  places = places;
  last = last;
  all = ends.all;
  many = omega (arith, AllZip-long HasBeenServedBy ends.all front.event_loops.items ends.by, front.event_loops.ok.0, fits.loops);
  served = ends.served;
  serves = ends.serves;
  few = few;
  run = ends.run;
  met = ends.met;
  closes = ends.closes;
  ended = map ended_at front.event_loops.items;
  answered = all_answered answered ends.all front.event_loops.items ends.by ends.over;
  in_total = total;
}

pub were_served_at : AreAnswered → (settings : Configuration) (most logs places last number : ℕ) (front : Front) → IsFrontOf settings front → EndsThere settings logs places last front →
    (most ≡ 0) ⊎ (logs < most) → number ≡ places + last → WereServedAt settings most number front
unfolding were_served
were_served_at answered settings most logs places last number front fits ends few total = record {
  were = were_served answered settings most logs places last number front fits ends few total;
  by = ends.by;
  over = ends.over;
}

-- at a new front nobody has served yet
abbrev pub nobody_at : List EventLoop → List InTurn
nobody_at loops = map (λ (loop : EventLoop). nobody) loops

pub nobody_there : (loops : List EventLoop) → All (λ (one : InTurn). one ≡ nobody) (nobody_at loops)
nobody_there [] = All-nil (λ (one : InTurn). one ≡ nobody)
nobody_there (x ∷ xs) = All-cons (λ (one : InTurn). one ≡ nobody) nobody (nobody_at xs) refl (nobody_there xs)

pub served_by_nobody : (tenants : ℕ) (loops : List EventLoop) → All (IsNewLoop tenants) loops → AllZip HasBeenServedBy (nobody_at loops) loops
served_by_nobody tenants [] new = tt
served_by_nobody tenants (x ∷ xs) new =
    (no_worker x.ready.connections (All-head (IsNewLoop tenants) x xs new).1, served_by_nobody tenants xs (All-tail (IsNewLoop tenants) x xs new))

-- the workers of the last log, as they come back
pub workers_back : (settings : Configuration) (logs places : ℕ) (all : List InTurn) (served : List Worker) (serves : ServesLast settings logs places all served) → AreWorkersOf settings serves.log served
workers_back settings logs places all served serves =
    let first = serves.opened.all in
    ⊎_elim
    (λ one. are_workers settings serves.log serves.begun served one.0 first)
    (λ (two : ServesInTwo serves.who serves.begun served all).
    are_workers settings serves.log two.again served two.second
    (are_workers settings serves.log two.full two.again (all_on two.full two.again two.between)
    (are_workers settings serves.log serves.begun two.full two.first first)))
    serves.parts

-- no more places of the last log are used than it has
pub last_fits : (settings : Configuration) (logs places last : ℕ) (front : Front) → EndsThere settings logs places last front → last ≤ settings.places
last_fits settings logs places last front ends =
    let met = ends.met in
    let one = met.one in
    let back = workers_back settings logs places ends.all ends.served ends.serves in
    let of : met.first.log.now ≡ ends.serves.log = All-contains (λ (worker : Worker). worker.log.now ≡ ends.serves.log) ends.served met.first back.of met.among in
    let log : one.log.now ≡ ends.serves.log = ap (λ lent. lent.now) met.later.continues.log ∙ of in
    let size : (seat_of one).size.places ≡ settings.places =
    ap (λ (size : LogSize). size.places) one.of.1 ∙ ap (λ (log : Log). log.settings.places) log ∙ ap (λ (settings : Configuration). settings.places) back.opened in
    omega (arith, one.short, one.pass.desk.law.few, size, met.long)
