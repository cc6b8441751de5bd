-- What the logs of a run of wfmc come to, one after another. Herlihy's universal construction
-- (Wait-Free Synchronization, TOPLAS 1991) has one log without an end; that it is cut into logs of
-- a fixed number of places is this project's profile.
use denote.Struct.Props.{props}
use Rattle.std.specs.List.{AllZip}
use Rattle.std.specs.Prelude.{◌≡◌, ◌⊎◌, ◌<◌, ◌≤◌, ⊤, ℕ, ◌+◌, Bool, false, List, [], All, MatchResult, Option, None, Result, Some, length, slice_get, vec_len}
use Rattle.mc_connections.specs.Asking.{WereAnsweredAsAsked}
use Rattle.mc_connections.specs.InTurn.{HaveServedInTurn, InTurn, nobody}
use Rattle.mc_connections.specs.Working.{IsEmpty}
use Rattle.mc_connections.specs.declared.connection.Connection.{Connection}
use Rattle.mc_connections.specs.declared.connections.Connections.{Connections}
use Rattle.mc_model.specs.declared.fault.Fault.{Fault}
use Rattle.mc_model.specs.declared.fault.Fault.TheVariants.{Memory}
use Rattle.mc_model.specs.Replay.{EachStands, HaveRoom, empty_tables}
use Rattle.mc_model.specs.Settings.{Configuration}
use Rattle.mc_model.specs.State.{TableState}
use Rattle.mc_net.specs.Running.{HasBeenServedBy, IsEmptyLoop, each_followed_by}
use Rattle.mc_net.specs.declared.front.Front.{Front}
use Rattle.mc_server.specs.Crew.{AreWorkersOf, HasDoneNothing, HaveClosed, HaveMet}
use Rattle.mc_server.specs.declared.generations.Served.{Served}
use Rattle.mc_server.specs.declared.generations.Served.TheVariants.{Done, Full}
use Rattle.uc_worker.specs.Cited.{entries}
use Rattle.uc_log.specs.declared.log.Log.{Log}
use Rattle.uc_log.specs.declared.pass.Pass.{Pass}
use Rattle.uc_log.specs.Passes.{IsNew, IsUnusedPass, seat}
use Rattle.uc_refinement.specs.Refinement.{AreOver}
use Rattle.uc_worker.specs.AllWorkers.{AreOnOneRun}
use Rattle.uc_worker.specs.Going.{CatchesUp, Continues}
use Rattle.uc_worker.specs.Worker.{history_of, openings_of, seat_of, tables_of}
use Rattle.uc_worker.specs.declared.turning_over.Base.{Base}
use Rattle.uc_worker.specs.declared.turning_over.Next.{Next}
use Rattle.uc_worker.specs.declared.worker.Worker.{Worker}

-- All workers of a log with these settings were opened over these tables, and have done nothing.
pub record AreOpenedOver (settings : Configuration) (log : Log) (tables : List TableState)
    (workers : List Worker) : Type 0 where
  pub all : AreWorkersOf settings log workers
  pub new : All HasDoneNothing workers
  pub over : AreOver tables workers

-- the tables with which a log begins: empty ones, or those of a base
abbrev pub tables_over : Log → Option Base → List TableState
tables_over log None = empty_tables log.settings.tenants
tables_over log (Some base) = base.tables.items

-- a log may be opened over a base that has a table for each tenant, with room for the log's changes
abbrev pub FitsOver : Log → Option Base → Type 0
FitsOver log None = ⊤
FitsOver log (Some base) = (length base.tables.items ≡ length log.settings.tenants)
    × HaveRoom base.tables.items log.settings.places

-- in at most one way
pub FitsOver-prop : (log : Log) (base : Option Base) → IsProp (FitsOver log base)
FitsOver-prop log None = hlevel props
FitsOver-prop log (Some base) = hlevel props

-- a worker with this pass of the log was opened over these tables, and has done nothing; or memory
-- ran out
abbrev pub OpensOver : Log → List TableState → Pass → Result Worker Fault → Type 0
OpensOver log tables pass result = MatchResult result
    (λ worker. (worker.log.now ≡ log) × (seat_of worker ≡ seat pass) × (history_of worker ≡ [])
    × (openings_of worker ≡ tables))
    (λ fault. fault ≡ Memory)

-- Workers have closed their log, and these tables are the ones that it was opened over, each after
-- its tenant's own commands in the history that they have.
pub record Closes (workers : List Worker) (used : ℕ) (tables : List TableState) : Type 0 where
  pub closes : HaveClosed workers used
  pub stands : (first : Worker) → slice_get closes.closed 0 ≡ Some first →
      EachStands (openings_of first) (entries (history_of first)) tables

-- Logs with these settings were served one after another, and each is closed: this many logs, of
-- which this many places were used in total. These workers have served at the event loops, log
-- after log; the first log began with empty tables, and each later one with those that the one
-- before it has left. The next one is to begin with these.
pub data LogsWere (settings : Configuration) : ℕ → ℕ → List InTurn → List TableState →
    Type 0 where
  no_log_yet : (who : List InTurn) → All (λ (one : InTurn). one ≡ nobody) who →
      LogsWere settings 0 0 who (empty_tables settings.tenants)
  one_more_log : (logs places used : ℕ) (who : List InTurn) (tables after : List TableState)
      (log : Log) (begun served : List Worker) → LogsWere settings logs places who tables →
      AreOpenedOver settings log tables begun → AllZip Continues begun served →
      Closes served used after →
      LogsWere settings (logs + 1) (places + used) (each_followed_by who begun served) after

-- Workers served on one log twice: after the first time they caught up, and as no log could follow,
-- they went on with it.
pub record ServesInTwo (who : List InTurn) (begun served : List Worker)
    (all : List InTurn) : Type 0 where
  pub full : List Worker
  pub again : List Worker
  pub first : AllZip Continues begun full
  pub between : AllZip CatchesUp full again
  pub second : AllZip Continues again served
  pub in_turn : all ≡ each_followed_by (each_followed_by who begun full) again served

-- The last log was served, once or twice, after these logs: its workers come back as these,
-- and all who have served are these.
pub record ServesLast (settings : Configuration) (logs places : ℕ) (all : List InTurn)
    (served : List Worker) : Type 0 where
  pub who : List InTurn
  pub tables : List TableState
  pub earlier : LogsWere settings logs places who tables
  pub log : Log
  pub begun : List Worker
  pub opened : AreOpenedOver settings log tables begun
  pub parts : AllZip Continues begun served × (all ≡ each_followed_by who begun served)
      ⊎ ServesInTwo who begun served all

-- Each connection that has ended was answered over all logs, by commands that it has asked for, no
-- two connections by one command, and each command that these workers have announced since they
-- began was asked for by one of the connections. The workers served one after another, from when
-- there was no connection until none was left.
pub record IsAnsweredBy (who : InTurn) (ended : List Connection) : Type 0 where
  pub answered : WereAnsweredAsAsked who.begun who.served ended
  pub last : Connections
  pub in_turn : HaveServedInTurn who last
  pub none_left : IsEmpty last
  pub are : last.ended.connections ≡ ended

-- Tenants were served over at most so many logs with these settings, one after another (0: without
-- an end), and this many places were used in total: those of the earlier logs, and those of the
-- last one, whose workers have met and closed it, and of which one run has all that they have done
-- while they served. All who have served are as many as each log has workers.
pub record WereServed (settings : Configuration) (most number : ℕ) : Type 0 where
  pub logs : ℕ
  pub places : ℕ
  pub last : ℕ
  pub all : List InTurn
  pub many : length all ≡ settings.workers
  pub served : List Worker
  pub serves : ServesLast settings logs places all served
  pub few : (most ≡ 0) ⊎ (logs < most)
  pub run : AreOnOneRun served
  pub met : HaveMet served last
  pub closes : HaveClosed served last
  pub ended : List (List Connection)
  pub answered : AllZip IsAnsweredBy all ended
  pub in_total : number ≡ places + last

-- Tenants were served so at this front: whoever has served there is one of these, and no connection
-- is left there.
pub record WereServedAt (settings : Configuration) (most number : ℕ) (front : Front) :
    Type 0 where
  pub were : WereServed settings most number
  pub by : AllZip HasBeenServedBy were.all front.event_loops.items
  pub over : All IsEmptyLoop front.event_loops.items

-- a front for the workers and tenants of logs with these settings
pub record IsFrontOf (settings : Configuration) (front : Front) : Type 0 where
  pub loops : vec_len front.event_loops ≡ settings.workers
  pub tenants : front.tenants ≡ length settings.tenants

-- a log with these settings, on which nothing has been done, and tables for it with room for its
-- changes
pub record IsNextLog (settings : Configuration) (next : Next) : Type 0 where
  pub settings_are : next.log.settings ≡ settings
  pub passes : (number : ℕ) (pass : Pass) → slice_get next.passes.items number ≡ Some pass →
      IsNew next.log number pass
  pub unused : (number : ℕ) (pass : Pass) → slice_get next.passes.items number ≡ Some pass →
      IsUnusedPass next.log pass
  pub count : length next.passes.items ≡ settings.workers
  pub tenants : length next.base.tables.items ≡ length settings.tenants
  pub room : HaveRoom next.base.tables.items settings.places

-- these have served at the front
abbrev pub AreServedBy : List InTurn → Front → Type 0
AreServedBy who front = AllZip HasBeenServedBy who front.event_loops.items

-- a worker has replayed this many places of its log, and in its tables `places` more changes can
-- get uniques
abbrev pub CanBeFollowed : ℕ → ℕ → Worker → Type 0
CanBeFollowed used places worker =
    (length (history_of worker) ≡ used) × HaveRoom (tables_of worker) places

-- the last log was served until no connection was left, one run of it has all that its workers have
-- done, and they have met and closed it: this many places of it were used
pub record EndsThere (settings : Configuration) (logs places last : ℕ) (front : Front) :
    Type 0 where
  pub all : List InTurn
  pub served : List Worker
  pub serves : ServesLast settings logs places all served
  pub run : AreOnOneRun served
  pub met : HaveMet served last
  pub closes : HaveClosed served last
  pub by : AreServedBy all front
  pub over : All IsEmptyLoop front.event_loops.items

-- the log is closed after `used` places, and is followed by the next one
pub record GoesOnWith (settings : Configuration) (logs places used : ℕ) (next : Next)
    (front : Front) : Type 0 where
  pub fits : IsNextLog settings next
  pub few : used ≤ settings.places
  pub who : List InTurn
  pub were : LogsWere settings (logs + 1) (places + used) who next.base.tables.items
  pub by : AreServedBy who front

-- what serving one more log has come to, after these; no log follows the last one
abbrev pub ServesTo : Configuration → Bool → ℕ → ℕ → Front → Served → Type 0
ServesTo settings is_last logs places front (Done last) =
    EndsThere settings logs places last front
ServesTo settings is_last logs places front (Full used next) =
    (is_last ≡ false) × GoesOnWith settings logs places used next front
