-- What the loops leave; this project's profile.
use Rattle.std.specs.Prelude.{◌≡◌, ◌<◌, ◌⊎◌, ℕ, Bool, true, List, [], ◌∷◌, All, length, map, slice_index_or, MatchResult, Ok}
use Rattle.mc_conn.specs.declared.conn.Role.{Role}
use Rattle.mc_connections.specs.InTurn.{HaveServedInTurn, InTurn, followed_by}
use Rattle.mc_connections.specs.Working.{IsEmpty, IsNewFor, KeepsPlaces, Standing, Works, standing}
use Rattle.mc_net.specs.declared.ended.Ended.{Ended}
use Rattle.mc_net.specs.declared.ended.Ended.TheVariants.{Done, Full}
use Rattle.mc_net.specs.declared.event_loop.EventLoop.{EventLoop}
use Rattle.mc_net.specs.declared.listener.RoleListener.{RoleListener}
use Rattle.mc_net.specs.declared.worker_thread.WorkerThread.{WorkerThread}
use Rattle.uc_log.specs.declared.log.Log.{Log}
use Rattle.uc_worker.specs.AllWorkers.{AreOfLog}
use Rattle.uc_worker.specs.declared.worker.Worker.{Worker}

-- the role and the listener of each
abbrev pub listeners_of : {L : Type 0} → List (RoleListener L) → List (Role × L)
listeners_of listeners = map (λ listener. (listener.role, listener.socket)) listeners

-- the worker of each thread
abbrev pub workers_of : {G : Type 0} → List (WorkerThread G) → List Worker
workers_of worker_threads = map (λ worker_thread. worker_thread.worker) worker_threads

-- the event loop of each thread
abbrev pub event_loops_of : {G : Type 0} → List (WorkerThread G) → List EventLoop
event_loops_of worker_threads = map (λ worker_thread. worker_thread.event_loop) worker_threads

-- the event loop is for a log of this many tenants
abbrev pub IsFor : ℕ → EventLoop → Type 0
IsFor tenants event_loop = event_loop.ready.connections.tenants ≡ tenants

-- the event loop is for a log of this many tenants, and has served nothing yet
abbrev pub IsNewLoop : ℕ → EventLoop → Type 0
IsNewLoop tenants event_loop = IsNewFor tenants event_loop.ready.connections

-- at the event loop this many places are kept for each tenant
abbrev pub KeepsAt : ℕ → EventLoop → Type 0
KeepsAt reserve event_loop = KeepsPlaces reserve event_loop.ready.connections

-- at the event loop a log is closed once its commands keep this many bytes
abbrev pub ClosesAt : ℕ → EventLoop → Type 0
ClosesAt bytes event_loop = event_loop.most_bytes ≡ bytes

-- no connection is left at the event loop
abbrev pub IsEmptyLoop : EventLoop → Type 0
IsEmptyLoop event_loop = IsEmpty event_loop.ready.connections

-- each worker is of the log, and there are a gate and an event loop for each, for the log's tenants
pub record FitTogether {G : Type 0} (log : Log) (workers : List Worker) (gates : List G)
    (event_loops : List EventLoop) : Type 0 where
  pub logs : AreOfLog log workers
  pub a_gate_each : length gates ≡ length workers
  pub a_loop_each : length event_loops ≡ length workers
  pub tenants : All (IsFor (length log.settings.tenants)) event_loops

-- a worker with the connections of the event loop that it serves
abbrev pub standing_at : Worker → EventLoop → Standing
standing_at worker event_loop = standing worker event_loop.ready.connections

-- how a loop ends without a fault: no connection is left; or, where commands are left to the next
-- log, with connections that go on there
abbrev pub EndsAs : Bool → Ended → Standing → Type 0
EndsAs until Done after = IsEmpty after.connections
EndsAs until Full after = until ≡ true

-- a loop has worked to its end
pub record HasWorked (until : Bool) (before after : Standing) (ended : Ended) : Type 0 where
  pub works : Works until before after
  pub over : EndsAs until ended after

-- A loop that has failed had worked up to then, and at most closed its connections afterwards.
pub record HasStopped (until : Bool) (before after : Standing) : Type 0 where
  pub last : Standing
  pub works : Works until before last
  pub worker : after.worker ≡ last.worker
  pub left : (after.connections ≡ last.connections) ⊎ IsEmpty after.connections

-- a thread's loop has ended well and its worker has worked to that end, or it has failed
abbrev pub HasRun : {G : Type 0} → Bool → WorkerThread G → WorkerThread G → Type 0
HasRun until old new =
    let before = standing_at old.worker old.event_loop in
    let after = standing_at new.worker new.event_loop in
    MatchResult new.outcome (HasWorked until before after) (λ _. HasStopped until before after)

-- the same for each thread
pub record HaveRun {G : Type 0} (until : Bool) (old new : List (WorkerThread G)) : Type 0 where
  pub long : length new ≡ length old
  pub each : (i : ℕ) (d : WorkerThread G) → i < length old →
      HasRun until (slice_index_or old i d) (slice_index_or new i d)

-- a thread's loop has ended well: as all of them if all are done
abbrev pub EndsWith : {G : Type 0} → Ended → WorkerThread G → Type 0
EndsWith ended worker_thread =
    (worker_thread.outcome ≡ Ok Done) ⊎ (worker_thread.outcome ≡ Ok Full) × (ended ≡ Full)

-- A worker went on from the first of its event loop's connections to the others: none is left, or
-- commands are left to the next log, and not all loops are done.
pub record HasServedAt (until : Bool) (ended : Ended) (worker : Worker) (before : EventLoop)
    (back : Worker) (after : EventLoop) : Type 0 where
  pub works : Works until (standing_at worker before) (standing_at back after)
  pub over : IsEmptyLoop after ⊎ (until ≡ true) × (ended ≡ Full)

-- the same for each worker, at the event loop of its index
pub data HaveServedAt (until : Bool) (ended : Ended) : List Worker → List EventLoop →
    List Worker → List EventLoop → Type 0 where
  no_more : HaveServedAt until ended [] [] [] []
  one_more : (worker : Worker) (before : EventLoop) (back : Worker) (after : EventLoop)
      (workers : List Worker) (befores : List EventLoop) (backs : List Worker)
      (afters : List EventLoop) → HasServedAt until ended worker before back after →
      HaveServedAt until ended workers befores backs afters →
      HaveServedAt until ended (worker ∷ workers) (before ∷ befores) (back ∷ backs)
      (after ∷ afters)

-- these have served at the event loop, one after another
abbrev pub HasBeenServedBy : InTurn → EventLoop → Type 0
HasBeenServedBy who event_loop = HaveServedInTurn who event_loop.ready.connections

-- at each event loop one more worker has served, from how it was in the first list to how it is in
-- the second
abbrev pub each_followed_by : List InTurn → List Worker → List Worker → List InTurn
each_followed_by [] befores afters = []
each_followed_by (who ∷ others) [] afters = []
each_followed_by (who ∷ others) (before ∷ befores) [] = []
each_followed_by (who ∷ others) (before ∷ befores) (after ∷ afters) =
    followed_by who before after ∷ each_followed_by others befores afters
