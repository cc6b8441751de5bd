-- A log whose workers have replayed the same number of places is closed, and a new one is opened
-- over their tables. Herlihy's universal construction (Wait-Free Synchronization, TOPLAS 1991) has
-- one log without an end; that it is cut into logs is this project's profile.
use Rattle.std.specs.Prelude.{◌≡◌, ◌<◌, ◌∷◌, ℕ, All, List, length, Some, slice_get}
use Rattle.mc_model.specs.Replay.{HaveRoom}
use Rattle.mc_model.specs.Settings.{Configuration}
use Rattle.uc_log.specs.declared.log.Log.{Log}
use Rattle.uc_worker.specs.declared.worker.Worker.{Worker}
use Rattle.uc_worker.specs.Going.{CatchesUp}
use Rattle.uc_worker.specs.Worker.{IsUpToDate, history_of, openings_of, seat_of, tables_of}

-- it has replayed all that it has learned, and that is this many places
abbrev pub IsUpToDateAt : ℕ → Worker → Type 0
IsUpToDateAt places worker = IsUpToDate worker × (length (history_of worker) ≡ places)

-- a worker of the log that has replayed this many places, which are all that it has learned, and in
-- whose tables as many changes as a log of these settings has places can get uniques
pub record CanTurnOver (log : Log) (replayed : ℕ) (settings : Configuration)
    (worker : Worker) : Type 0 where
  pub of : worker.log.now ≡ log
  pub up_to_date : IsUpToDateAt replayed worker
  pub room : HaveRoom (tables_of worker) settings.places

-- some workers of one log with as many tenants as the settings have, each of which can turn over
-- and has replayed as many places as the others
pub record AllCanTurnOver (settings : Configuration) (workers : List Worker) : Type 0 where
  pub log : Log
  pub replayed : ℕ
  pub tenants : length log.settings.tenants ≡ length settings.tenants
  pub some : 0 < length workers
  pub each : All (CanTurnOver log replayed settings) workers

-- the same worker, with the log, opening tables, history and tables that it had; it has learned and
-- announced nothing
pub record IsAsBefore (old new : Worker) : Type 0 where
  pub log : new.log ≡ old.log
  pub openings : openings_of new ≡ openings_of old
  pub history : history_of new ≡ history_of old
  pub tables : tables_of new ≡ tables_of old
  pub learned : (seat_of new).state.learned ≡ (seat_of old).state.learned
  pub caught_up : CatchesUp old new

-- any two of the workers have replayed the same, entry by entry
abbrev pub HaveOneHistory : List Worker → Type 0
HaveOneHistory workers = (one other : ℕ) (first second : Worker) →
    slice_get workers one ≡ Some first → slice_get workers other ≡ Some second →
    history_of first ≡ history_of second

-- the worker and the others are of one log, and have replayed this many places, which are all that
-- they have learned
pub record CanMeetAll (worker : Worker) (others : List Worker) : Type 0 where
  pub replayed : ℕ
  pub log : All (λ (other : Worker). other.log.now ≡ worker.log.now) others
  pub up_to_date : All (IsUpToDateAt replayed) (worker ∷ others)
