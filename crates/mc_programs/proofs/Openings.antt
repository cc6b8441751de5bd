-- A log as it is opened for a client, over the table after the commands of earlier logs.
use Rattle.std.proofs.Common.{refl, ◌≡◌, ℕ, Result, Ok, Err, IfOk, IfSome, ◌+◌, ◌*◌, ◌≤◌, zero, suc, All, Some, List, [], ◌∷◌, ◌++◌, length, slice_get, sym, ap, ◌∙◌, subst, inl, arith, append_assoc, append-nil}
use Rattle.std.specs.Result.{result_ok}
use Rattle.mc_model.specs.declared.fault.Fault.{Fault}
use Rattle.mc_model.specs.declared.fault.Fault.TheVariants.{Memory}
use Rattle.mc_model.specs.declared.reply.Reply.TheVariants.{Refused}
use Rattle.mc_model.specs.declared.reply.TheConstants.WireNo.{OUT_OF_MEMORY}
use Rattle.mc_model.specs.declared.request.Request.{Request}
use Rattle.mc_model.specs.declared.settings.Limits.{Limits}
use Rattle.mc_model.specs.History.{state_after}
use Rattle.mc_model.specs.declared.shown.LogSize.{LogSize}
use Rattle.mc_model.specs.Replay.{HaveRoom, empty_tables}
use Rattle.mc_model.specs.Settings.{Configuration}
use Rattle.model_lemmas.proofs.Histories.{state_after-none}
use Rattle.lists.proofs.Public.{appended_twice}
use Rattle.mc_read.specs.Line.{asked}
use Rattle.mc_read.specs.Reading.{HasReading, ReadsAs}
use Rattle.mc_conn.specs.Alone.{commands_of, first_mark}
use Rattle.mc_conn.specs.ConnFault.{OutOfMemory, TellsStarved}
use Rattle.mc_conn.specs.declared.conn.Conn.{Conn}
use Rattle.mc_conn.specs.declared.conn.Role.{Role}
use Rattle.mc_conn.specs.declared.conn.Role.TheVariants.{Tenant}
use Rattle.mc_conn.specs.Owed.{FitsLog, mark_of}
use Rattle.mc_conn.specs.Turn.{queue_of}
use Rattle.mc_programs.specs.Generations.{IsForOne, IsFreshOver, IsNextForOne, LogsHaveServed}
use Rattle.mc_programs.specs.Serving.{AnswersRequests, IsCaughtUp, NeverWaits, ServesInPart, StopsByLogs, owed_by_logs, settings_alone}
use Rattle.mc_programs.proofs.Served.{nothing_in, told_counts}
use Rattle.mc_stream.specs.Event.{last_moved}
use Rattle.stream_lemmas.proofs.Pushed.{same_stop}
use Rattle.mc_stream.specs.Stream.{Outflow, Streams, both}
use Rattle.mc_write.specs.Text.{text}
use Rattle.uc_cells.specs.Sighting.{Sighting}
use Rattle.uc_log.specs.declared.log.Log.{Log}
use Rattle.uc_log.specs.declared.pass.Pass.{Pass}
use Rattle.uc_log.specs.Passes.{IsNew, seat, size_of}
use Rattle.uc_places.specs.Told.{new_seat}
use Rattle.uc_places.specs.declared.view.View.{View}
use Rattle.uc_worker.specs.declared.turning_over.Next.{Next}
use Rattle.uc_worker.specs.declared.worker.Worker.{Worker}
use Rattle.uc_worker.specs.TurningOver.{AllCanTurnOver, CanTurnOver}
use Rattle.uc_worker.specs.Worker.{HasReplayedAll, IsUpToDate, announced_of, history_of, openings_of, seat_of, tables_of}

-- a tenant's connection fits a log for one tenant
pub fits : (role : Role) (worker : Worker) (log : Log) → role ≡ Tenant 0 → worker.log.now ≡ log → IsForOne log → FitsLog role worker
fits role worker log is same one =
    subst (λ role. FitsLog role worker) (sym is)
    (let count = ap (λ (log : Log). length log.settings.tenants) same in omega (arith, count, one.1))

-- a worker with which nothing was done
pub fresh_mark : (log : Log) (pass : Pass) (worker : Worker) → IsNew log 0 pass → seat_of worker ≡ seat pass → history_of worker ≡ [] → mark_of worker ≡ first_mark
fresh_mark log pass worker unused seated empty =
    let none : length (announced_of worker) ≡ 0 = worker.pass.count ∙ ap (λ (view : View). view.state.announced) (seated ∙ unused.1) in
    λ i. record { number = none i; place = (ap (λ (list : List Sighting). length list) empty) i }

pub fresh_over : (limits : Limits) (places : ℕ) (requests : List Request) (log : Log) (pass : Pass) (worker : Worker) → log.settings ≡ settings_alone limits places → IsNew log 0 pass →
    seat_of worker ≡ seat pass → history_of worker ≡ [] → openings_of worker ≡ state_after limits (commands_of requests) ∷ [] → IsFreshOver limits places requests worker
fresh_over limits places requests log pass worker settings unused seated empty over =
    let new : seat_of worker ≡ new_seat (size_of log) 0 = seated ∙ unused.1 in
    record {
      alone = record {
        workers = ap (λ (view : View). view.size.workers) new ∙ ap (λ settings. settings.workers) settings;
        long = ap (λ (view : View). view.size.places) new ∙ ap (λ settings. settings.places) settings;
        openings = over;
      };
      mark = fresh_mark log pass worker unused seated empty;
    }

-- the first log's table is empty
pub opens_empty : (limits : Limits) (places : ℕ) (requests : List Request) (log : Log) (worker : Worker) → log.settings ≡ settings_alone limits places → length (commands_of requests) ≡ 0 * places →
    openings_of worker ≡ empty_tables log.settings.tenants → openings_of worker ≡ state_after limits (commands_of requests) ∷ []
opens_empty limits places requests log worker settings none over =
    let no_command : commands_of requests ≡ [] = nothing_in (commands_of requests) (omega (arith, none)) in
    over ∙ (ap (λ settings. empty_tables settings.tenants) settings
    ∙ (ap (λ state. state ∷ []) (sym (state_after-none limits)) ∙ ap (λ list. state_after limits list ∷ []) (sym no_command)))

-- the next log couldn't be opened, as memory ran out, which was reported to the client
module _ (limits : Limits) (places logs : ℕ) (first : Streams) (conn : Conn) (now : Streams) (served : LogsHaveServed limits places logs first conn now)
    (reading : (bytes : List ℕ) → HasReading asked bytes) (some : 1 ≤ logs) (output : Outflow) (told : TellsStarved (queue_of conn) now.output output) where
  owes_is : served.owes ≡ owed_by_logs limits places logs served.requests
  owes_is = served.is_owed (logs * places) (omega arith)

  front : List ℕ
  front = told.0.1.front

  still_caught_up : NeverWaits first (both now.input output) → IsCaughtUp limits places logs served.came (last_moved now.input.events) (served.sent ++ front)
  still_caught_up never =
      let before = served.late (omega (arith, never, served.waited, told.1)) logs some (omega arith) in
      record {
        logs = before.logs;
        few = before.few;
        earlier = before.earlier;
        piece = before.piece;
        requests = before.requests;
        later = before.later ++ front;
        is_bytes = before.is_bytes;
        is_last = before.is_last;
        is_short = before.is_short;
        reads = before.reads;
        is_sent = ap (λ bytes. bytes ++ front) before.is_sent ∙ append_assoc (owed_by_logs limits places before.logs before.requests) before.later front;
      }

  told_part : ServesInPart limits places logs first (both now.input output) (text (Refused OUT_OF_MEMORY))
  unfolding front
  told_part =
      let whole = reading served.came in
      let reads : ReadsAs asked (served.came ++ []) whole.0 = subst (λ bytes. ReadsAs asked bytes whole.0) (sym (append-nil served.came)) (whole.1, whole.2) in
      let follows = (served.read [] whole.0).0 reads in
      record {
        comes = record { bytes = served.came; requests = whole.0; rest = whole.1; came = served.pulled; consumed = served.consumed; reads = whole.2 };
        answered = served.requests;
        others = follows.0;
        split = follows.1;
        answers = subst (AnswersRequests limits places logs served.requests) owes_is served.answers;
        sent = served.sent ++ told.0.1.front;
        unsent = told.0.0;
        owes =
            ap (λ bytes. bytes ++ text (Refused OUT_OF_MEMORY)) (sym owes_is ∙ sym served.bytes)
            ∙ (append_assoc served.sent (queue_of conn) (text (Refused OUT_OF_MEMORY))
            ∙ (ap (λ bytes. served.sent ++ bytes) told.0.1.split ∙ sym (append_assoc served.sent told.0.1.front told.0.0)));
        went = appended_twice _ _ _ served.sent told.0.1.front served.pushed told.0.1.went;
        caught_up = still_caught_up;
      }

  pub unopened_next : (fault : Fault) → fault ≡ Memory → StopsByLogs limits places (logs + 1) first (both now.input output) fault
  unfolding told_part
  unopened_next fault is =
      let failed = told_counts told.0.0 now.output output told.0.2 in (
        OutOfMemory,
        is,
        (
          logs,
          (some, omega arith),
          (
            inl (told_part, same_stop told.0.0 first.output now.output output served.unfailed.1 served.waited told.0.2),
            served.unfailed.0,
            omega (arith, failed.0, served.unfailed.1),
            omega (arith, failed.1, served.unfailed.1),
          ),
        ),
      )

-- what stops a service over some logs stops it over more
pub stops_within : (limits : Limits) (places most more : ℕ) (before after : Streams) (fault : Fault) → most ≤ more → StopsByLogs limits places most before after fault → StopsByLogs limits places more before after fault
stops_within limits places most more before after fault few (cause, is, (logs, among, ends)) = (cause, is, (logs, (among.0, omega (arith, among.1, few)), ends))

-- the one worker of a log can turn over
pub can_turn_over : (log : Log) (settings : Configuration) (worker : Worker) → settings ≡ log.settings → worker.log.now ≡ log → HasReplayedAll worker → HaveRoom (tables_of worker) settings.places →
    AllCanTurnOver settings (worker ∷ [])
can_turn_over log settings worker same of done room = record {
  log = log;
  replayed = length (history_of worker);
  tenants = ap (λ (it : Configuration). length it.tenants) (sym same);
  some = omega arith;
  each = alone;
}
  where
    places : (seat_of worker).size.places ≡ worker.log.now.settings.places
    places = ap (λ (size : LogSize). size.places) worker.of.1

    up_to_date : IsUpToDate worker
    up_to_date = omega (arith, worker.short, worker.pass.desk.law.few, places, done)

    alone : All (CanTurnOver log (length (history_of worker)) settings) (worker ∷ [])
    alone zero other below = record { of = of; up_to_date = (up_to_date, refl); room = room }
    alone (suc number) other below = absurd (omega (arith, below))

-- the next log is for one too
pub next_for_one : (log : Log) (settings : Configuration) (result : Result Next Fault) → settings ≡ log.settings → IsForOne log → IfOk result (λ next. next.log.settings ≡ settings) →
    IfOk result (λ next. length next.passes.items ≡ settings.workers) →
    IfOk result (λ next. (number : ℕ) (pass : Pass) → slice_get next.passes.items number ≡ Some pass → IsNew next.log number pass) →
    IfOk result (λ next. length next.base.tables.items ≡ length settings.tenants) → IfOk result (λ next. HaveRoom next.base.tables.items settings.places) → IfSome (result_ok result) IsNextForOne
next_for_one log settings (Ok next) same one is count passes tenants room = record {
  alone = (ap (λ (it : Configuration). it.workers) (is ∙ same) ∙ one.0, ap (λ (it : Configuration). length it.tenants) (is ∙ same) ∙ one.1);
  count = count ∙ (ap (λ (it : Configuration). it.workers) same ∙ one.0);
  passes = passes;
  tables = tenants ∙ (ap (λ (it : Configuration). length it.tenants) same ∙ one.1);
  room = subst (HaveRoom next.base.tables.items) (ap (λ (it : Configuration). it.places) (sym is)) room;
}
next_for_one log settings (Err fault) same one is count passes tenants room = tt
