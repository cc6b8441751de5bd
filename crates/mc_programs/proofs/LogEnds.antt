-- How a log ends for a client: the client has ended, a fault came, or the next log goes on.
use Rattle.std.proofs.Common.{◌≡◌, ◌⊎◌, ◌∙◌, ℕ, ◌+◌, ◌*◌, ◌≤◌, Bool, false, Option, Some, None, Result, Ok, Err, length, true, sym, refl, ap, subst, inl, inr, ⊎_elim}
use Rattle.std.specs.Prelude.{MatchResult}
use Rattle.mc_model.specs.declared.fault.Fault.{Fault}
use Rattle.mc_model.specs.declared.settings.Limits.{Limits}
use Rattle.mc_model.specs.Replay.{EachStands, HaveRoom}
use Rattle.mc_conn.specs.Alone.{commands_of, first_mark}
use Rattle.mc_conn.specs.declared.conn.Conn.{Conn}
use Rattle.mc_conn.specs.declared.conn.State.TheVariants.{Closed, Full as FullState}
use Rattle.mc_conn.specs.declared.conn.Role.TheVariants.{Tenant}
use Rattle.mc_conn.specs.Ending.{AwaitsLog, IsDone, LogsInTime, PullsLate, Serves, ServesUntil, Stops}
use Rattle.mc_conn.specs.Owed.{mark_of}
use Rattle.mc_conn.specs.Turn.{Scene, Takes, scene}
use Rattle.mc_programs.specs.Generations.{IsForOne, ServesLog}
use Rattle.mc_programs.specs.Serving.{IsNotFollowed, ServesClient, StopsByLogs, no_room, not_needed, out_of_memory, settings_alone}
use Rattle.mc_programs.proofs.Served.{Begins, serves, serves_with, stops}
use Rattle.mc_programs.proofs.Following.{Full, InTime, LateThrough, StopsSend, StopsThrough, TakesThrough, few_taken, filled, served_more, serves_on, stops_on, stops_on_late, tables_more}
use Rattle.mc_stream.specs.Stream.{Streams}
use Rattle.uc_cells.specs.Sighting.{entries}
use Rattle.uc_log.specs.declared.log.Log.{Log}
use Rattle.uc_worker.specs.declared.turning_over.Next.{Next}
use Rattle.uc_worker.specs.declared.worker.Worker.{Worker}
use Rattle.uc_worker.specs.Worker.{HasReplayedAll, IsClosing, history_of, openings_of, seat_of, tables_of}

-- turns that leave commands ended at the end, or at a command that awaits the next log
until_done : (a b : Scene) → ServesUntil a b Closed → IsDone b.conn
until_done a b until =
    ⊎_elim
    (λ (closed : (Closed ≡ Closed) × IsDone b.conn). closed.1)
    (λ (full : (Closed ≡ FullState) × AwaitsLog b.conn b.worker). let no : Closed ≡ FullState = full.0 in cc)
    until.ended

until_closing : (a b : Scene) → ServesUntil a b FullState → IsClosing b.worker
until_closing a b until =
    ⊎_elim
    (λ (closed : (FullState ≡ Closed) × IsDone b.conn). let no : FullState ≡ Closed = closed.0 in cc)
    (λ (full : (FullState ≡ FullState) × AwaitsLog b.conn b.worker). full.1.1)
    until.ended

-- the law of a log that is closing
abbrev pub Done : Type 0
Done = (before after : Scene) (takes : Takes before after) → (seat_of after.worker).size.workers ≡ 1 → before.conn.role ≡ Tenant 0 → mark_of before.worker ≡ first_mark → LogsInTime takes →
    IsClosing after.worker → HasReplayedAll after.worker

-- the one worker of a log has replayed it once a command is left to the next log
pub replayed : (a b : Scene) (log : Log) → ServesUntil a b FullState → a.worker.log.now ≡ log → IsForOne log → a.conn.role ≡ Tenant 0 → mark_of a.worker ≡ first_mark → Done → HasReplayedAll b.worker
replayed a b log until of one role fresh law =
    let before : (seat_of a.worker).size.workers ≡ 1 = ap (λ size. size.workers) a.worker.of.1 ∙ (ap (λ (it : Log). it.settings.workers) of ∙ one.0) in
    law a b until.takes (ap (λ size. size.workers) until.takes.taken.onward.same.0 ∙ before) role fresh until.in_time (until_closing a b until)

module _ (refused : Worker → Type 0) (limits : Limits) (places logs : ℕ) (first : Streams) (start : Scene) (begins : Begins limits places logs first start) where
  -- the last log served the client to its end
  pub ends_last : (result : Result (Option Next) Fault) (is_last : Bool) (after : Scene) → is_last ≡ true → MatchResult result (λ next. (next ≡ None) × Serves start after) (Stops start after) →
      PullsLate start after → MatchResult result (ServesLog refused limits places logs is_last first after.conn after.streams) (StopsByLogs limits places (logs + 1) first after.streams)
  ends_last (Ok None) is_last after last is late = (serves limits places logs first start begins after is.1, inl last)
  ends_last (Ok (Some next)) is_last after last is late = let no : Some next ≡ None = is.0 in cc
  ends_last (Err fault) is_last after last is late = stops limits places logs first start begins fault after is late

  -- the client ended before it needed another one
  pub ends_closed : (is_last : Bool) (after : Scene) → ServesUntil start after Closed → InTime → ServesLog refused limits places logs is_last first after.conn after.streams None
  ends_closed is_last after until in_time =
      let all = serves_with limits places logs first start begins after (record { takes = until.takes; done = until_done start after until }) in
      let few = few_taken limits places logs first start begins after until.takes until.in_time in_time in (
        all.0,
        inr (not_needed (subst (λ requests. length (commands_of requests) ≤ (logs + 1) * places) (sym all.1) few)),
      )

  module _ (conn : Conn) (old : Worker) (streams : Streams) (until : ServesUntil start (scene conn old streams) FullState) (late : PullsLate start (scene conn old streams)) (in_time : InTime) (full : Full)
      (done : HasReplayedAll old) where
    -- it is full and isn't followed by another
    module _ (stands : EachStands (openings_of old) (entries (history_of old)) (tables_of old)) (none : ¬ (HaveRoom (tables_of old) places) ⊎ refused old) (through : TakesThrough) (late_through : LateThrough) (stops_through : StopsThrough) (sends : StopsSend) where
      not_followed : (after : Scene) → Serves (scene conn old streams) after → (all : ServesClient limits places (logs + 1) first after.streams) →
          IsNotFollowed refused limits places (logs + 1) all.comes.requests
      not_followed after is all =
          let fills =
          filled limits places logs first start begins (scene conn old streams) until.takes until.in_time done in_time full late after.streams all.comes is.takes.taken.came is.takes.taken.pulled stands
          in
          ⊎_elim (λ (no : ¬ (HaveRoom (tables_of old) places)). no_room old fills no) (λ (starved : refused old). out_of_memory old fills starved) none

      pub ends_on : (result : Result (Option Next) Fault) (is_last : Bool) (after : Scene) → MatchResult result (λ next. (next ≡ None) × Serves (scene conn old streams) after) (Stops (scene conn old streams) after) →
          PullsLate (scene conn old streams) after → MatchResult result (ServesLog refused limits places logs is_last first after.conn after.streams) (StopsByLogs limits places (logs + 1) first after.streams)
      ends_on (Ok None) is_last after is more =
          let all = serves limits places logs first start begins after (serves_on start (scene conn old streams) until.takes late through late_through after is.1) in
          (all, inr (not_followed after is.1 all))
      ends_on (Ok (Some next)) is_last after is more = let no : Some next ≡ None = is.0 in cc
      ends_on (Err fault) is_last after is more =
          stops limits places logs first start begins fault after (stops_on start (scene conn old streams) until.takes late through late_through stops_through fault after is)
          (stops_on_late start (scene conn old streams) until.takes late through late_through sends fault after is more)

    -- it is full, and the next one is opened
    pub goes_on : (next : Next) → next.log.settings ≡ settings_alone limits places → EachStands (openings_of old) (entries (history_of old)) next.base.tables.items →
        ServesLog refused limits places logs false first conn streams (Some next)
    goes_on next settings stands = (
      refl,
      (
        served_more limits places logs first start begins (scene conn old streams) until.takes until.in_time done in_time full late,
        record {
          settings = settings;
          tables = tables_more limits places logs first start begins (scene conn old streams) until.takes until.in_time done in_time full late next.base.tables.items stands;
        },
      ),
    )
