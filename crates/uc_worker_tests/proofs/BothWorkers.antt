-- The workers of a log that is turned over: both, or one alone.
use Rattle.std.proofs.Common.{◌≡◌, ◌∙◌, ◌<◌, ℕ, Bor, ap, zero, suc, List, [], ◌∷◌, All, length, slice_get, slice_index_or, IfOk, Ok, Err, Result, Some, sym, subst, arith}
use Rattle.std.proofs.lemmas.List.Elements.{AllZip-get_or, length_all_zip}
use Rattle.std.proofs.lemmas.Option.{slice_get_within}
use Rattle.std.specs.List.{AllZip}
use Rattle.mc_model.specs.Replay.{HaveRoom}
use Rattle.mc_model.specs.declared.shown.LogSize.{LogSize}
use Rattle.mc_model.specs.Settings.{Configuration}
use Rattle.uc_log.specs.declared.log.Log.{Log}
use Rattle.mc_model.specs.declared.fault.Fault.{Fault}
use Rattle.uc_worker.specs.declared.turning_over.Next.{Next}
use Rattle.uc_worker.specs.declared.worker.Worker.{Worker}
use Rattle.uc_worker.specs.Going.{CatchesUp}
use Rattle.uc_worker.specs.TurningOver.{AllCanTurnOver, CanTurnOver, IsUpToDateAt}
use Rattle.uc_worker.specs.Worker.{HasReplayedAll, IsUpToDate, history_of, seat_of, tables_of}

-- a worker that has replayed all places has replayed all that it has learned
up_to_date : (log : Log) (worker : Worker) → worker.log.now ≡ log → HasReplayedAll worker → IsUpToDateAt log.settings.places worker
up_to_date log worker of done =
    let size : (seat_of worker).size.places ≡ worker.log.now.settings.places = ap (λ (size : LogSize). size.places) worker.of.1 in
    (omega (arith, worker.short, worker.pass.desk.law.few, size, done), done ∙ ap (λ (log : Log). log.settings.places) of)

-- what holds of two holds of all of their list
both_all : {X : Type 0} (P : X → Type 0) (x y : X) → P x → P y → All P (x ∷ y ∷ [])
both_all P x y one other zero d below = one
both_all P x y one other (suc zero) d below = other
both_all P x y one other (suc (suc place)) d below = absurd (omega (arith, below))

-- what holds of one holds of all of its list
one_all : {X : Type 0} (P : X → Type 0) (x : X) → P x → All P (x ∷ [])
one_all P x one zero d below = one
one_all P x one (suc place) d below = absurd (omega (arith, below))

pub ready_alone : (log : Log) (w : Worker) (list : List Worker) → list ≡ w ∷ [] → w.log.now ≡ log →
    (settings : Configuration) → length log.settings.tenants ≡ length settings.tenants →
    HasReplayedAll w × HaveRoom (tables_of w) settings.places → AllCanTurnOver settings list
ready_alone log w list is of settings tenants ready = subst (AllCanTurnOver settings) (sym is) (record {
  log = log;
  replayed = log.settings.places;
  tenants = tenants;
  some = omega arith;
  each = one_all (CanTurnOver log log.settings.places settings) w (record { of = of; up_to_date = up_to_date log w of ready.0; room = ready.1 });
})

module _ (log : Log) (v w : Worker) (list : List Worker) (is : list ≡ v ∷ w ∷ []) (of : v.log.now ≡ log) (of_too : w.log.now ≡ log) where
  pub ready_both : (settings : Configuration) → length log.settings.tenants ≡ length settings.tenants →
      HasReplayedAll v × HaveRoom (tables_of v) settings.places → HasReplayedAll w × HaveRoom (tables_of w) settings.places → AllCanTurnOver settings list
  ready_both settings tenants ready ready_too = subst (AllCanTurnOver settings) (sym is) (record {
    log = log;
    replayed = log.settings.places;
    tenants = tenants;
    some = omega arith;
    each = both_all (CanTurnOver log log.settings.places settings) v w (record { of = of; up_to_date = up_to_date log v of ready.0; room = ready.1 })
        (record { of = of_too; up_to_date = up_to_date log w of_too ready_too.0; room = ready_too.1 });
  })

-- workers that have caught up with each other
pub ready_all : (log : Log) (used : ℕ) (old workers : List Worker) → AllZip CatchesUp old workers → All (λ (worker : Worker). worker.log.now ≡ log) old → 0 < length workers →
    (settings : Configuration) → length log.settings.tenants ≡ length settings.tenants → (places : ℕ) → places ≡ settings.places → All IsUpToDate workers →
    All (λ (worker : Worker). (length (history_of worker) ≡ used) × HaveRoom (tables_of worker) places) workers → AllCanTurnOver settings workers
ready_all log used old workers catches of some settings tenants places same all can =
    let long = length_all_zip CatchesUp old workers catches in record {
      log = log;
      replayed = used;
      tenants = tenants;
      some = some;
      each = λ i d inside. record {
        of = ap (λ (lent : Bor Log). lent.now) (AllZip-get_or CatchesUp old workers i d d catches (omega (arith, inside, long))).continues.log ∙ of i d (omega (arith, inside, long));
        up_to_date = (all i d inside, (can i d inside).0);
        room = subst (HaveRoom (tables_of (slice_index_or workers i d))) same (can i d inside).1;
      };
    }

-- both are of the log
pub both_of : (log : Log) (v w : Worker) → v.log.now ≡ log → w.log.now ≡ log → All (λ (worker : Worker). worker.log.now ≡ log) (v ∷ w ∷ [])
both_of log v w of of_too = both_all (λ (worker : Worker). worker.log.now ≡ log) v w of of_too

-- a list that has a first one isn't empty
pub some_first : (workers : List Worker) (first : Worker) → slice_get workers 0 ≡ Some first → 0 < length workers
some_first workers first at = slice_get_within workers 0 first at

-- the next log has the settings that were given, and its tables have room for its changes
pub room_of : (result : Result Next Fault) (settings : Configuration) → IfOk result (λ next. next.log.settings ≡ settings) →
    IfOk result (λ next. HaveRoom next.base.tables.items settings.places) → IfOk result (λ next. HaveRoom next.base.tables.items next.log.settings.places)
room_of (Ok next) settings is room = subst (λ (known : Configuration). HaveRoom next.base.tables.items known.places) (sym is) room
room_of (Err fault) settings is room = tt
