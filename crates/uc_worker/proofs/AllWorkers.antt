-- What the workers of a log keep of its run adds up to one run of all of them.
use Rattle.std.proofs.Common.{◌≡◌, ℕ, zero, suc, ◌+◌, ◌<◌, List, [], ◌∷◌, length, map, get_or, slice_get, slice_set, Some, All, Bor, sym, refl, ap, subst, ◌∙◌, arith}
use Rattle.std.proofs.lemmas.Option.{get_or_from_slice_get, none-some, same_Some, slice_get_within}
use Rattle.std.proofs.lemmas.List.Elements.{AllZip-get_or, length_all_zip}
use Rattle.std.specs.List.{AllZip}
use mathlib.Core.Logic.{dite}
use native.Mathlib.Decide.{ℕ_discrete}
use Rattle.lists.proofs.Public.{begins_same, begins_self, begins_through}
use Rattle.lists.specs.Lists.{BeginsWith}
use Rattle.mc_model.specs.declared.shown.LogSize.{LogSize}
use Rattle.mc_model.specs.declared.shown.ShownState.{ShownState}
use Rattle.mc_model.specs.Lawful.{IsWorker, LeadOn, ShownEvent}
use Rattle.mc_model.specs.Shown.{new_log}
use Rattle.mc_replica.specs.declared.replica.Replica.{Replica}
use Rattle.uc_log.specs.declared.log.Log.{Log}
use Rattle.uc_places.specs.declared.view.Part.{Part}
use Rattle.uc_places.specs.Calls.{WitnessWith, Witnesses}
use Rattle.uc_places.specs.OneRun.{RunsBetween}
use Rattle.uc_places.specs.Run.{HasMade, witnessed_by}
use Rattle.uc_worker.specs.declared.worker.Worker.{Worker}
use Rattle.uc_worker.specs.AllWorkers.{AreOfLog, AreOnOneRun, TakesNoStep, WasSo, own_part}
use Rattle.uc_worker.specs.Going.{CatchesUp}
use Rattle.uc_worker.specs.TurningOver.{IsAsBefore}
use Rattle.uc_worker.specs.Worker.{announced_of, history_of, own_desk, seat_of}
use Rattle.uc_worker.proofs.TurningOver.{get_or_any, still_on, zip_set}

-- the run that the worker's seat keeps
abbrev pub kept_by : Worker → List ShownEvent
kept_by worker = witnessed_by (seat_of worker)

pub none_taken : (worker : Worker) → TakesNoStep worker worker
none_taken worker = record { log = refl; replica = refl; announced = refl; part = refl }

pub none_through : (first second third : Worker) → TakesNoStep first second → TakesNoStep second third → TakesNoStep first third
none_through first second third one two = record {
  log = two.log ∙ one.log;
  replica = two.replica ∙ one.replica;
  announced = two.announced ∙ one.announced;
  part = two.part ∙ one.part;
}

-- a worker that takes no step is as it was
pub as_before : (old new : Worker) → TakesNoStep old new → IsAsBefore old new
as_before old new still = record {
  log = still.log;
  openings = ap (λ (r : Replica). r.openings) still.replica;
  history = history;
  tables = ap (λ (r : Replica). r.tables) still.replica;
  learned = ap (λ (p : Part). p.state.learned) still.part;
  caught_up = record {
    continues = record {
      log = still.log;
      openings = ap (λ (r : Replica). r.openings) still.replica;
      same = (ap (λ (p : Part). p.size) still.part, ap (λ (p : Part). p.worker) still.part);
      history = begins_same (history_of new) (history_of old) history;
      announced = begins_same (announced_of new) (announced_of old) still.announced;
      learned = begins_same (seat_of new).state.learned (seat_of old).state.learned (ap (λ (p : Part). p.state.learned) still.part);
    };
    announced = still.announced;
  };
}
  where
    history : history_of new ≡ history_of old
    history = ap (λ (r : Replica). r.history) still.replica

-- lists of such workers
pub all_through : (first second third : List Worker) → AllZip IsAsBefore first second → AllZip TakesNoStep second third → AllZip IsAsBefore first third
all_through [] [] [] one two = tt
all_through [] [] (z ∷ third) one two = absurd two
all_through [] (y ∷ second) third one two = absurd one
all_through (x ∷ first) [] third one two = absurd one
all_through (x ∷ first) (y ∷ second) [] one two = absurd two
all_through (x ∷ first) (y ∷ second) (z ∷ third) one two =
    (still_on x y z one.0 (as_before y z two.0), all_through first second third one.1 two.1)

pub each_through : (first second third : List Worker) → AllZip TakesNoStep first second → AllZip TakesNoStep second third → AllZip TakesNoStep first third
each_through [] [] [] one two = tt
each_through [] [] (z ∷ third) one two = absurd two
each_through [] (y ∷ second) third one two = absurd one
each_through (x ∷ first) [] third one two = absurd one
each_through (x ∷ first) (y ∷ second) [] one two = absurd two
each_through (x ∷ first) (y ∷ second) (z ∷ third) one two = (none_through x y z one.0 two.0, each_through first second third one.1 two.1)

-- all are still of one log
pub logs_stay : (one one_now : Worker) (others others_now : List Worker) → one_now.log ≡ one.log → AllZip TakesNoStep others others_now →
    All (λ other. other.log.now ≡ one.log.now) others → All (λ other. other.log.now ≡ one_now.log.now) others_now
logs_stay one one_now others others_now same still logs k d below =
    let long = length_all_zip TakesNoStep others others_now still in let inside : k < length others = omega (arith, long, below) in
    ap (λ (lent : Bor Log). lent.now) (AllZip-get_or TakesNoStep others others_now k d d still inside).log
    ∙ (logs k d inside ∙ sym (ap (λ (lent : Bor Log). lent.now) same))

pub logs_stay_before : (one one_now : Worker) (others others_now : List Worker) → one_now.log ≡ one.log → AllZip IsAsBefore others others_now →
    All (λ other. other.log.now ≡ one.log.now) others → All (λ other. other.log.now ≡ one_now.log.now) others_now
logs_stay_before one one_now others others_now same still logs k d below =
    let long = length_all_zip IsAsBefore others others_now still in let inside : k < length others = omega (arith, long, below) in
    ap (λ (lent : Bor Log). lent.now) (AllZip-get_or IsAsBefore others others_now k d d still inside).log
    ∙ (logs k d inside ∙ sym (ap (λ (lent : Bor Log). lent.now) same))

pub all_as_before : (old new : List Worker) → AllZip TakesNoStep old new → AllZip IsAsBefore old new
all_as_before [] [] still = tt
all_as_before [] (y ∷ new) still = absurd still
all_as_before (x ∷ old) [] still = absurd still
all_as_before (x ∷ old) (y ∷ new) still = (as_before x y still.0, all_as_before old new still.1)

pub all_quiet : (old new : List Worker) → AllZip TakesNoStep old new → AllZip CatchesUp old new
all_quiet [] [] still = tt
all_quiet [] (y ∷ new) still = absurd still
all_quiet (x ∷ old) [] still = absurd still
all_quiet (x ∷ old) (y ∷ new) still = ((as_before x y still.0).caught_up, all_quiet old new still.1)

-- workers of a log are of one with the first of them
pub are_of_first : (log : Log) (workers : List Worker) → AreOfLog log workers → (first : Worker) (others : List Worker) → workers ≡ first ∷ others →
    All (λ (other : Worker). other.log.now ≡ first.log.now) others
are_of_first log workers of first others is =
    let all : AreOfLog log (first ∷ others) = subst (AreOfLog log) is of in λ k d below. all (suc k) d (omega (arith, below)) ∙ sym (all 0 first (omega arith))

-- One more was so.
module _ (one one_now : Worker) (others others_now : List Worker) (here : ℕ) (w : Worker) (one_still : TakesNoStep one one_now)
    (still : AllZip TakesNoStep others others_now) (inside : here < length others) (is : w ≡ get_or others_now here w) where
  was : TakesNoStep (get_or others here w) w
  was = subst (λ (v : Worker). TakesNoStep (get_or others here w) v) (sym is) (AllZip-get_or TakesNoStep others others_now here w w still inside)

  pub same_log : All (λ other. other.log.now ≡ one.log.now) others → one_now.log.now ≡ w.log.now
  same_log logs = ap (λ (lent : Bor Log). lent.now) one_still.log ∙ sym (ap (λ (lent : Bor Log). lent.now) was.log ∙ logs here w inside)

  module _ (one_new new : Worker) (one_on : TakesNoStep one_now one_new) (on : TakesNoStep w new) where
    pub none_all : TakesNoStep one one_new × AllZip TakesNoStep others (slice_set others_now here new)
    none_all = (
      none_through one one_now one_new one_still one_on,
      zip_set TakesNoStep others others_now here new still
          (subst (λ (v : Worker). TakesNoStep v new) (get_or_any others here w new inside) (none_through (get_or others here w) w new was on)),
    )

    pub seen_more : WitnessWith (own_desk one_now) (own_desk w) (own_desk one_new) (own_desk new) → BeginsWith (kept_by one_now) (kept_by one) →
        ((k : ℕ) (d : Worker) → k < here → WasSo (own_part one).size (kept_by one) (kept_by one_now) (own_part (get_or others k d))) →
        (k : ℕ) (d : Worker) → k < here + 1 → WasSo (own_part one).size (kept_by one) (kept_by one_new) (own_part (get_or others k d))
    seen_more with goes_on before k d below =
        dite (ℕ_discrete k here)
        (λ at. subst (WasSo (own_part one).size (kept_by one) (kept_by one_new))
        (was.part ∙ (ap own_part (get_or_any others here w d inside) ∙ ap (λ (n : ℕ). own_part (get_or others n d)) (sym at))) this)
        (λ apart. let b = before k d (omega arith) in record {
          run = b.run;
          after = b.after;
          before = begins_through (kept_by one_new) (kept_by one_now) b.run with.first.goes_on b.before;
          state = b.state;
          lead = b.lead;
          sized = b.sized;
          shown = b.shown;
          made = b.made;
        })
      where
        sized : (own_part one_now).size ≡ (own_part one).size
        sized = ap (λ (p : Part). p.size) one_still.part

        this : WasSo (own_part one).size (kept_by one) (kept_by one_new) (own_part w)
        this = let seen = with.first in record {
          run = kept_by one_new;
          after = begins_through (kept_by one_new) (kept_by one_now) (kept_by one) seen.goes_on goes_on;
          before = begins_self (kept_by one_new);
          state = seen.log;
          lead = subst (λ (z : LogSize × List ShownEvent). LeadOn z.0 (new_log z.0) z.1 seen.log) (λ i. (sized i, seen.is i)) seen.one.lead;
          sized = seen.one.sized 1 (own_part w) refl ∙ sized;
          shown = seen.one.shown 1 (own_part w) refl;
          made = subst (λ (run : List ShownEvent). HasMade run (own_part w).worker (own_part w).calls) seen.is (seen.one.own 1 (own_part w) refl);
        }

-- a worker so, with these calls, at the end of a run
abbrev StandsIn : LogSize → List ShownEvent → ShownState → Part → Type 0
StandsIn size run log part = (part.size ≡ size) × HasMade run part.worker part.calls × IsWorker log part.worker part.state

-- an element of a list of results is one of them
pub mapped : {X Y : Type 0} (f : X → Y) (xs : List X) (k : ℕ) (y : Y) → slice_get (map f xs) k ≡ Some y → (x : X) × (slice_get xs k ≡ Some x) × (f x ≡ y)
mapped f [] k y at = absurd (none-some y at)
mapped f (x ∷ xs) zero y at = (x, refl, same_Some _ _ at)
mapped f (x ∷ xs) (suc k) y at = mapped f xs k y at

-- nobody is on a run of nothing
pub nobody_on_one_run : (workers : List Worker) → length workers ≡ 0 → AreOnOneRun workers
nobody_on_one_run [] none = (
  record { workers = 0; places = 0 },
  new_log (record { workers = 0; places = 0 }),
  record {
    run = [];
    lead = refl;
    sized = λ place part at. absurd (none-some part at);
    shown = λ place part at. absurd (none-some part at);
    own = λ place part at. absurd (none-some part at);
    each = λ number inside. let no : ⊥ = omega (arith, inside) in absurd no;
  },
)
nobody_on_one_run (x ∷ workers) none = absurd (omega (arith, none))

-- The worker kept the run together with each other, then by itself, and then with each other again.
pub one_run_of_all : RunsBetween → (start one two three : Worker) (before between after : List Worker) → TakesNoStep one two → TakesNoStep two three →
    AllZip TakesNoStep before between → AllZip TakesNoStep between after →
    All (λ other. WasSo (own_part start).size (kept_by start) (kept_by one) (own_part other)) before →
    Witnesses (own_desk one) (own_desk two) (own_part one ∷ []) →
    All (λ other. WasSo (own_part two).size (kept_by two) (kept_by three) (own_part other)) between →
    AreOnOneRun (three ∷ after)
one_run_of_all law start one two three before between after still on first_still later_still first here later = (
  (own_part two).size,
  here.log,
  record {
    run = kept_by two;
    lead = lead;
    sized = λ place part at. sized place part at;
    shown = λ place part at. shown place part at;
    own = λ place part at. made place part at;
    each = λ number inside.
        let calls = here.one.each number (subst (λ (z : LogSize). number < z.workers) (sym same_size) inside) in
        (calls.0, subst (λ (run : List ShownEvent). HasMade run number calls.0) here.is calls.1);
  },
)
  where
    size : LogSize
    size = (own_part two).size

    same_size : (own_part one).size ≡ size
    same_size = sym (ap (λ (p : Part). p.size) still.part)

    lead : LeadOn size (new_log size) (kept_by two) here.log
    lead = subst (λ (z : LogSize × List ShownEvent). LeadOn z.0 (new_log z.0) z.1 here.log) (λ i. (same_size i, here.is i)) here.one.lead

    own : own_part one ≡ own_part three
    own = sym (on.part ∙ still.part)

    -- the others, each by both rounds
    stands : (place : ℕ) (part : Part) → slice_get (map own_part after) place ≡ Some part → StandsIn size (kept_by two) here.log part
    stands place part at =
        let found = mapped own_part after place part at in let v = found.0 in
        let long = length_all_zip TakesNoStep before between first_still in let longer = length_all_zip TakesNoStep between after later_still in
        let inside = slice_get_within after place v found.1 in
        let in_before : place < length before = omega (arith, long, longer, inside) in
        let in_between : place < length between = omega (arith, long, longer, inside) in
        let once = AllZip-get_or TakesNoStep before between place v v first_still in_before in
        let again = AllZip-get_or TakesNoStep between after place v v later_still in_between in
        let to_between : own_part (get_or between place v) ≡ part = sym again.part ∙ (ap own_part (get_or_from_slice_get after place v v found.1) ∙ found.2) in
        let to_before : own_part (get_or before place v) ≡ part = sym once.part ∙ to_between in
        let was = subst (WasSo (own_part start).size (kept_by start) (kept_by one)) to_before (first place v in_before) in
        let is = subst (WasSo size (kept_by two) (kept_by three)) to_between (later place v in_between) in
        let stays = law size part.worker part.calls part.state was.run (kept_by two) is.run here.log is.state was.made
        (begins_through (kept_by two) (kept_by one) was.run here.goes_on was.before) lead is.after is.lead is.made is.shown in
        (is.sized, stays.0, stays.1)

    all : (place : ℕ) (part : Part) → slice_get (own_part three ∷ map own_part after) place ≡ Some part → StandsIn size (kept_by two) here.log part
    all zero part at = subst (StandsIn size (kept_by two) here.log) (own ∙ same_Some _ _ at) (
      same_size,
      subst (λ (run : List ShownEvent). HasMade run (own_part one).worker (own_part one).calls) here.is (here.one.own 0 (own_part one) refl),
      here.one.shown 0 (own_part one) refl,
    )
    all (suc place) part at = stands place part at

    sized : (place : ℕ) (part : Part) → slice_get (own_part three ∷ map own_part after) place ≡ Some part → part.size ≡ size
    sized place part at = (all place part at).0

    made : (place : ℕ) (part : Part) → slice_get (own_part three ∷ map own_part after) place ≡ Some part → HasMade (kept_by two) part.worker part.calls
    made place part at = (all place part at).1

    shown : (place : ℕ) (part : Part) → slice_get (own_part three ∷ map own_part after) place ≡ Some part → IsWorker here.log part.worker part.state
    shown place part at = (all place part at).2
