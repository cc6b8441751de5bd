-- Workers that have replayed the same number of places stay what they are when they meet.
use Rattle.std.proofs.Common.{◌≡◌, ℕ, zero, suc, ◌<◌, List, [], ◌∷◌, length, get_or, slice_get, Option, Some, ◌+◌, slice_set, All, Bor, sym, refl, ap, subst, ◌∙◌, arith}
use Rattle.std.proofs.lemmas.Option.{get_or_from_slice_get, none-some, same_Some, slice_get_within}
use mathlib.Core.Logic.{dite}
use native.Mathlib.Decide.{ℕ_discrete}
use Rattle.std.proofs.lemmas.List.Elements.{AllZip-get_or, length_all_zip}
use Rattle.std.specs.List.{AllZip}
use Rattle.mc_model.specs.declared.request.Entry.{Entry}
use Rattle.mc_model.specs.declared.shown.WorkerState.{WorkerState}
use Rattle.mc_model.specs.Replay.{EachStands, HaveRoom}
use Rattle.mc_model.specs.Settings.{Configuration}
use Rattle.mc_model.specs.State.{TableState}
use Rattle.model_lemmas.proofs.Replays.{EachStands-length}
use Rattle.uc_cells.specs.Sighting.{Sighting, entries}
use Rattle.uc_log.specs.declared.log.Log.{Log}
use Rattle.uc_worker.specs.declared.worker.Worker.{Worker}
use Rattle.uc_worker.specs.Going.{CatchesUp, StandsStill}
use Rattle.uc_worker.specs.contracts.laws.WorkerGoesOn.TheImpl.{continues_self-value, continues_through-value}
use Rattle.uc_worker.specs.TurningOver.{AllCanTurnOver, CanMeetAll, HaveOneHistory, CanTurnOver, IsAsBefore, IsUpToDateAt}
use Rattle.uc_worker.specs.Worker.{history_of, openings_of, tables_of}

-- a log leaves one list of tables
abbrev pub OneList : Type 0
OneList = (openings : List TableState) (log : List (Option Entry)) (tables others : List TableState) →
    EachStands openings log tables → EachStands openings log others → tables ≡ others

-- a worker that stands still keeps its history, and so its tables
pub is_still : OneList → (old new : Worker) → CatchesUp old new → StandsStill old new →
    EachStands (openings_of old) (entries (history_of old)) (tables_of old) → EachStands (openings_of new) (entries (history_of new)) (tables_of new) → IsAsBefore old new
is_still one_list old new caught stays stands stands_new =
    let openings = caught.continues.openings in
    let history = stays.history in record {
      caught_up = caught;
      log = caught.continues.log;
      openings = openings;
      history = history;
      learned = ap (λ (state : WorkerState). state.learned) stays.seat.state;
      tables = one_list (openings_of new) (entries (history_of new)) (tables_of new) (tables_of old) stands_new
          (subst (λ (both : List TableState × List Sighting). EachStands both.0 (entries both.1) (tables_of old)) (λ i. (sym openings i, sym history i)) stands);
    }

pub still_self : (worker : Worker) → IsAsBefore worker worker
still_self worker = record {
  log = refl;
  openings = refl;
  history = refl;
  tables = refl;
  learned = refl;
  caught_up = record { continues = continues_self-value.it worker; announced = refl };
}

pub still_on : (first second third : Worker) → IsAsBefore first second → IsAsBefore second third → IsAsBefore first third
still_on first second third one two = record {
  log = two.log ∙ one.log;
  openings = two.openings ∙ one.openings;
  history = two.history ∙ one.history;
  tables = two.tables ∙ one.tables;
  learned = two.learned ∙ one.learned;
  caught_up = record {
    continues = continues_through-value.it first second third one.caught_up.continues two.caught_up.continues;
    announced = two.caught_up.announced ∙ one.caught_up.announced;
  };
}

pub still_at : (replayed : ℕ) (old new : Worker) → IsAsBefore old new → IsUpToDateAt replayed old → IsUpToDateAt replayed new
still_at replayed old new still at = (ap length still.history ∙ at.0 ∙ sym (ap length still.learned), ap length still.history ∙ at.1)

-- lists place by place
module _ {X : Type 0} (R : X → X → Type 0) where
  pub zip_same : ((x : X) → R x x) → (xs : List X) → AllZip R xs xs
  zip_same same [] = tt
  zip_same same (x ∷ xs) = (same x, zip_same same xs)

  pub zip_set : (xs ys : List X) (i : ℕ) (x : X) → AllZip R xs ys → R (get_or xs i x) x → AllZip R xs (slice_set ys i x)
  zip_set [] [] i x all here = tt
  zip_set [] (y ∷ ys) i x all here = absurd all
  zip_set (z ∷ xs) [] i x all here = absurd all
  zip_set (z ∷ xs) (y ∷ ys) zero x all here = (here, all.1)
  zip_set (z ∷ xs) (y ∷ ys) (suc i) x all here = (all.0, zip_set xs ys i x all.1 here)

-- inside a list no other value is read
pub get_or_any : {X : Type 0} (xs : List X) (i : ℕ) (d e : X) → i < length xs → get_or xs i d ≡ get_or xs i e
get_or_any [] i d e inside = absurd (omega (arith, inside))
get_or_any (x ∷ xs) zero d e inside = refl
get_or_any (x ∷ xs) (suc i) d e inside = get_or_any xs i d e (omega (arith, inside))

-- one more of a list is what those before it are
pub one_more_is : {X : Type 0} (P : X → Type 0) (xs : List X) (number : ℕ) (new : X) → ((k : ℕ) (d : X) → k < number → P (get_or xs k d)) → P new → number < length xs →
    (k : ℕ) (d : X) → k < number + 1 → P (get_or (slice_set xs number new) k d)
one_more_is P [] number new before is inside k d below = absurd (omega (arith, inside))
one_more_is P (x ∷ xs) zero new before is inside zero d below = is
one_more_is P (x ∷ xs) zero new before is inside (suc k) d below = absurd (omega (arith, below))
one_more_is P (x ∷ xs) (suc number) new before is inside zero d below = before zero d (omega arith)
one_more_is P (x ∷ xs) (suc number) new before is inside (suc k) d below =
    one_more_is P xs number new (λ j e less. before (suc j) e (omega (arith, less))) is (omega (arith, inside)) k d (omega (arith, below))

-- workers catch up one after another
pub none_catches_up : (workers : List Worker) → AllZip CatchesUp workers workers
none_catches_up = zip_same CatchesUp (λ worker. record { continues = continues_self-value.it worker; announced = refl })

pub one_more_catches_up : (old now : List Worker) (number : ℕ) (worker new : Worker) → AllZip CatchesUp old now → worker ≡ get_or now number worker → CatchesUp worker new → number < length old →
    AllZip CatchesUp old (slice_set now number new)
one_more_catches_up old now number worker new all is on inside =
    let was : CatchesUp (get_or old number worker) worker = subst (CatchesUp (get_or old number worker)) (sym is) (AllZip-get_or CatchesUp old now number worker worker all inside) in
    let through : CatchesUp (get_or old number worker) new = record {
      continues = continues_through-value.it (get_or old number worker) worker new was.continues on.continues;
      announced = on.announced ∙ was.announced;
    } in
    zip_set CatchesUp old now number new all (subst (λ (v : Worker). CatchesUp v new) (get_or_any old number worker new inside) through)

-- One more has met it.
module _ (one one_now : Worker) (others others_now : List Worker) (here : ℕ) (w : Worker) (one_still : IsAsBefore one one_now) (still : AllZip IsAsBefore others others_now)
    (inside : here < length others) (is : w ≡ get_or others_now here w) where
  was : IsAsBefore (get_or others here w) w
  was = subst (λ (v : Worker). IsAsBefore (get_or others here w) v) (sym is) (AllZip-get_or IsAsBefore others others_now here w w still inside)

  pub meets_log : All (λ (other : Worker). other.log.now ≡ one.log.now) others → one_now.log.now ≡ w.log.now
  meets_log logs = ap (λ (lent : Bor Log). lent.now) one_still.log ∙ sym (ap (λ (lent : Bor Log). lent.now) was.log ∙ logs here w inside)

  pub meets_at : (replayed : ℕ) → All (IsUpToDateAt replayed) (one ∷ others) → IsUpToDateAt replayed one_now × IsUpToDateAt replayed w
  meets_at replayed all =
      (still_at replayed one one_now one_still (all 0 one (omega arith)), still_at replayed (get_or others here w) w was (all (suc here) w (omega (arith, inside))))

  module _ (one_new new : Worker) (one_on : IsAsBefore one_now one_new) (on : IsAsBefore w new) where
    pub still_all : IsAsBefore one one_new × AllZip IsAsBefore others (slice_set others_now here new)
    still_all = (
      still_on one one_now one_new one_still one_on,
      zip_set IsAsBefore others others_now here new still (subst (λ (v : Worker). IsAsBefore v new) (get_or_any others here w new inside) (still_on (get_or others here w) w new was on)),
    )

    pub same_more : ((k : ℕ) (d : Worker) → k < here → history_of (get_or others k d) ≡ history_of one) → history_of one_new ≡ history_of new →
        (k : ℕ) (d : Worker) → k < here + 1 → history_of (get_or others k d) ≡ history_of one
    same_more before met k d below =
        dite (ℕ_discrete k here)
        (λ at. ap (λ (n : ℕ). history_of (get_or others n d)) at ∙ ap history_of (get_or_any others here d w inside) ∙ sym (was.history) ∙ sym on.history
        ∙ sym met ∙ one_on.history ∙ one_still.history)
        (λ apart. before k d (omega arith))

-- The first of a list, and what is behind it.
pub ready_beside : (settings : Configuration) (workers : List Worker) → AllCanTurnOver settings workers → (first : Worker) (others : List Worker) → workers ≡ first ∷ others →
    CanMeetAll first others
ready_beside settings workers ready first others is =
    let each : All (CanTurnOver ready.log ready.replayed settings) (first ∷ others) = subst (All (CanTurnOver ready.log ready.replayed settings)) is ready.each in
    let head = each 0 first (omega arith) in record {
      replayed = ready.replayed;
      log = λ k d below. (each (suc k) d (omega (arith, below))).of ∙ sym head.of;
      up_to_date = λ k d below. (each k d below).up_to_date;
    }

pub base_is : (old new : List Worker) (base : List TableState) → AllZip IsAsBefore old new → ((first : Worker) → slice_get new 0 ≡ Some first → base ≡ tables_of first) →
    (first : Worker) → slice_get old 0 ≡ Some first → base ≡ tables_of first
base_is [] new base still is first at = absurd (none-some first at)
base_is (x ∷ xs) [] base still is first at = absurd still
base_is (x ∷ xs) (y ∷ ys) base still is first at = is y refl ∙ still.0.tables ∙ ap tables_of (same_Some x first at)

pub base_stands : (old new : List Worker) (base : List TableState) → AllZip IsAsBefore old new →
    ((first : Worker) → slice_get new 0 ≡ Some first → EachStands (openings_of first) (entries (history_of first)) base) →
    (first : Worker) → slice_get old 0 ≡ Some first → EachStands (openings_of first) (entries (history_of first)) base
base_stands [] new base still is first at = absurd (none-some first at)
base_stands (x ∷ xs) [] base still is first at = absurd still
base_stands (x ∷ xs) (y ∷ ys) base still is first at =
    subst (λ (w : Worker). EachStands (openings_of w) (entries (history_of w)) base) (same_Some x first at)
    (subst (λ (it : List TableState × List Sighting). EachStands it.0 (entries it.1) base) (λ i. (still.0.openings i, still.0.history i)) (is y refl))

pub base_room : (settings : Configuration) (workers : List Worker) (base : List TableState) → AllCanTurnOver settings workers →
    ((first : Worker) → slice_get workers 0 ≡ Some first → base ≡ tables_of first) → HaveRoom base settings.places
base_room settings [] base ready is = absurd (let some = ready.some in omega arith)
base_room settings (x ∷ xs) base ready is = subst (λ tables. HaveRoom tables settings.places) (sym (is x refl)) (ready.each 0 x (omega arith)).room

pub base_tenants : (settings : Configuration) (workers : List Worker) (base : List TableState) → AllCanTurnOver settings workers →
    ((first : Worker) → slice_get workers 0 ≡ Some first → EachStands (openings_of first) (entries (history_of first)) base) → length base ≡ length settings.tenants
base_tenants settings [] base ready stands = absurd (let some = ready.some in omega arith)
base_tenants settings (x ∷ xs) base ready stands =
    EachStands-length (openings_of x) (entries (history_of x)) base (stands x refl) ∙ x.opened.1
    ∙ ap (λ (log : Log). length log.settings.tenants) (ready.each 0 x (omega arith)).of ∙ ready.tenants

pub all_same : (old new : List Worker) → AllZip IsAsBefore old new →
    ((first : Worker) (others : List Worker) → old ≡ first ∷ others → All (λ other. history_of other ≡ history_of first) others) → HaveOneHistory new
all_same [] [] still same = λ i j v w at there. absurd (none-some v at)
all_same [] (y ∷ ys) still same = absurd still
all_same (x ∷ xs) [] still same = absurd still
all_same (x ∷ xs) (y ∷ ys) still same = λ i j v w at there. by i v at ∙ sym (by j w there)
  where
    by : (i : ℕ) (v : Worker) → slice_get (y ∷ ys) i ≡ Some v → history_of v ≡ history_of x
    by zero v at = ap history_of (sym (same_Some y v at)) ∙ still.0.history
    by (suc i) v at =
        let inside = slice_get_within ys i v at in
        let long = length_all_zip IsAsBefore xs ys still.1 in
        ap history_of (sym (get_or_from_slice_get ys i v v at)) ∙ (AllZip-get_or IsAsBefore xs ys i v v still.1 (omega arith)).history ∙ same x xs refl i v (omega arith)
