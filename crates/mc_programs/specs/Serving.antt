-- What a client is sent for its bytes if it is served over logs of its own, one after another, each
-- with one worker, by how the call that serves it ends; this project's profile. What is owed for
-- requests is defined in `mc_conn`, place by place over a worker's history (`Owes`); over logs of
-- its own it is a function of the requests (`owed`).
use Rattle.std.specs.Io.KnownBytes.{Consumes, IsAtEnd}
use Rattle.std.specs.List.{list_any}
use Rattle.std.specs.Prelude.{◌≡◌, ℕ, true, false, ◌+◌, ◌*◌, ◌≤◌, ◌⊎◌, List, [], ◌∷◌, ◌++◌, length}
use Rattle.mc_model.specs.declared.fault.Fault.{Fault}
use Rattle.mc_model.specs.declared.fault.Fault.TheVariants.{BadSettings}
use Rattle.mc_model.specs.declared.reply.Reply.TheVariants.{Refused}
use Rattle.mc_model.specs.declared.reply.TheConstants.WireNo.{OUT_OF_MEMORY}
use Rattle.mc_model.specs.declared.request.Request.{Request}
use Rattle.mc_model.specs.declared.settings.Limits.{Limits}
use Rattle.mc_model.specs.Log.{own}
use Rattle.mc_model.specs.Replay.{EachStands, HaveRoom}
use Rattle.mc_model.specs.Settings.{Configuration, IsBetween, IsLawful}
use Rattle.mc_read.specs.Line.{asked}
use Rattle.mc_read.specs.Reading.{Reads, ReadsAs, ends_stream}
use Rattle.mc_conn.specs.declared.conn.TheConstants.{PULL_BYTES}
use Rattle.mc_conn.specs.Alone.{IsAloneOver, commands_of, first_mark, owed}
use Rattle.mc_conn.specs.ConnFault.{CellTaken, ConnFault, CountsFailures, InputFailed, OutOfMemory, OutputFailed, fault_of}
use Rattle.mc_conn.specs.declared.conn.Role.TheVariants.{Tenant}
use Rattle.mc_conn.specs.Owed.{Mark, Owes}
use Rattle.mc_conn.specs.Turn.{NeitherFails}
use Rattle.mc_stream.specs.Event.{failures, has_ended, last_moved, moved, waits}
use Rattle.mc_stream.specs.Pushing.{IsAllOrStopped, Pushes, PushesAtOnce}
use Rattle.mc_stream.specs.Stream.{Inflow, Streams}
use Rattle.mc_write.specs.Text.{text}
use Rattle.uc_cells.specs.Sighting.{entries}
use Rattle.uc_worker.specs.declared.worker.Worker.{Worker}
use Rattle.uc_worker.specs.Worker.{history_of, openings_of, tables_of}

-- the settings of a log with one worker, for one tenant
abbrev pub settings_alone : Limits → ℕ → Configuration
settings_alone limits places = record { workers = 1; places = places; tenants = limits ∷ [] }

-- The bytes that came read as these requests and a rest. If the input's remaining bytes are known,
-- they have lost these at the front.
pub record Comes (before after : Streams) : Type 0 where
  pub bytes : List ℕ
  pub requests : List Request
  pub rest : List ℕ
  pub came : moved after.input.events ≡ moved before.input.events ++ bytes
  pub consumed : Consumes before.input.left after.input.left bytes
  pub reads : Reads asked bytes requests rest

-- Logs one after another, each with one worker and this many places, for a tenant with these
-- quotas: the first was opened over an empty table, and each later one over the table after the
-- commands that the earlier ones took. They took the requests in turn, and over their histories
-- this is owed for them.
pub data AnswersRequests (limits : Limits) (places : ℕ) : ℕ → List Request → List ℕ → Type 0 where
  before_all : AnswersRequests limits places 0 [] []
  then_log : (logs : ℕ) (earlier requests : List Request) (before bytes : List ℕ)
      (worker : Worker) (mark : Mark) → AnswersRequests limits places logs earlier before →
      IsAloneOver limits (commands_of earlier) places worker →
      Owes worker (Tenant 0) first_mark requests bytes mark →
      AnswersRequests limits places (logs + 1) (earlier ++ requests) (before ++ bytes)

-- what N logs owe: what one log with as many places as all of them owes
abbrev pub owed_by_logs : Limits → ℕ → ℕ → List Request → List ℕ
owed_by_logs limits places logs requests = owed limits (logs * places) requests

-- All that came, up to the end of the input or a request that ends the stream, was answered under
-- these quotas by this number of logs with this many places.
pub record ServesClient (limits : Limits) (places logs : ℕ) (before after : Streams) : Type 0 where
  pub comes : Comes before after
  pub answers : AnswersRequests limits places logs comes.requests
      (owed_by_logs limits places logs comes.requests)
  pub went : Pushes before.output after.output (owed_by_logs limits places logs comes.requests)
  pub end : (has_ended after.input.events ≡ true) × IsAtEnd after.input.left
      ⊎ (list_any ends_stream comes.requests ≡ true)
  pub unfailed : NeitherFails before after

-- All that came was answered, and more could have come.
pub record ServesOn (limits : Limits) (places logs : ℕ) (before after : Streams) : Type 0 where
  pub comes : Comes before after
  pub went : Pushes before.output after.output (owed_by_logs limits places logs comes.requests)
  pub goes_on : list_any ends_stream comes.requests ≡ false

-- What came before the last pull was answered, by the logs that were opened by then, and sent
-- first; or nothing came.
pub record IsCaughtUp (limits : Limits) (places most : ℕ)
    (bytes last_pull sent : List ℕ) : Type 0 where
  pub logs : ℕ
  pub few : IsBetween 1 most logs
  pub earlier : List ℕ
  pub piece : List ℕ
  pub requests : List Request
  pub later : List ℕ
  pub is_bytes : bytes ≡ earlier ++ piece
  pub is_last : (bytes ≡ []) ⊎ (piece ≡ last_pull)
  pub is_short : length piece ≤ PULL_BYTES
  pub reads : ReadsAs asked earlier requests
  pub is_sent : sent ≡ owed_by_logs limits places logs requests ++ later

-- the output took something whenever it was asked
abbrev pub NeverWaits : Streams → Streams → Type 0
NeverWaits before after = waits after.output.events ≡ waits before.output.events

-- The first requests that came were answered, and a prefix was sent of what is owed for them
-- followed by the words that report a fault. The others are all the requests that came after
-- these; the first of them may have met the fault, and then its command may stand in the log.
pub record ServesInPart (limits : Limits) (places logs : ℕ) (before after : Streams)
    (told : List ℕ) : Type 0 where
  pub comes : Comes before after
  pub answered : List Request
  pub others : List Request
  pub split : comes.requests ≡ answered ++ others
  pub answers : AnswersRequests limits places logs answered
      (owed_by_logs limits places logs answered)
  pub sent : List ℕ
  pub unsent : List ℕ
  pub owes : owed_by_logs limits places logs answered ++ told ≡ sent ++ unsent
  pub went : Pushes before.output after.output sent
  pub caught_up : NeverWaits before after →
      IsCaughtUp limits places logs comes.bytes (last_moved after.input.events) sent

-- Memory ran out, and that was reported to the client after its replies, as far as the output took
-- it at once; or memory ran out before a log could be opened, nothing was pulled, and that report
-- alone was sent.
abbrev pub ServesUntilStarved : Limits → ℕ → ℕ → Streams → Streams → Type 0
ServesUntilStarved limits places logs before after =
    ((part : ServesInPart limits places logs before after (text (Refused OUT_OF_MEMORY)))
    × IsAllOrStopped part.unsent before.output after.output)
    ⊎ (after.input ≡ before.input)
    × PushesAtOnce (text (Refused OUT_OF_MEMORY)) before.output after.output

-- the input didn't fail between the two states
abbrev pub IsUnfailedInput : Inflow → Inflow → Type 0
IsUnfailedInput before after = failures after.events ≡ failures before.events

-- What a client was sent if a fault of its connection ended the service, and how often the input
-- and the output failed: as the fault says, except for what may fail while it is reported.
abbrev pub EndsBy : Limits → ℕ → ℕ → ConnFault → Streams → Streams → Type 0
EndsBy limits places logs OutOfMemory before after =
    ServesUntilStarved limits places logs before after
    × IsUnfailedInput before.input after.input
    × (failures before.output.events ≤ failures after.output.events)
    × (failures after.output.events ≤ failures before.output.events + 1)
EndsBy limits places logs CellTaken before after =
    ServesInPart limits places logs before after [] × CountsFailures CellTaken before after
EndsBy limits places logs InputFailed before after =
    (ServesInPart limits places logs before after []
    × (NeverWaits before after → ServesOn limits places logs before after))
    × CountsFailures InputFailed before after
EndsBy limits places logs OutputFailed before after =
    ServesInPart limits places logs before after [] × CountsFailures OutputFailed before after

-- The worker of the last of these logs has replayed all its places: they have the commands of the
-- last of the requests up to there, and the log was opened over the table after the earlier ones.
-- Its own table is the one after the commands of both.
pub record FillsLast (limits : Limits) (places logs : ℕ) (requests : List Request)
    (worker : Worker) : Type 0 where
  pub earlier : List Request
  pub last : List Request
  pub others : List Request
  pub split : requests ≡ (earlier ++ last) ++ others
  pub alone : IsAloneOver limits (commands_of earlier) places worker
  pub replayed : own 0 (entries (history_of worker)) ≡ commands_of last
  pub stands : EachStands (openings_of worker) (entries (history_of worker)) (tables_of worker)
  pub long : length (commands_of last) ≡ places
  pub full : length (commands_of (earlier ++ last)) ≡ logs * places

-- Why these logs weren't followed by another: there was a place for each command; or once all
-- places were taken, as many changes as another log has places couldn't all get uniques; or what
-- turns the log over was asked for, and gave none.
pub data IsNotFollowed (refused : Worker → Type 0) (limits : Limits) (places logs : ℕ)
    (requests : List Request) : Type 0 where
  not_needed : length (commands_of requests) ≤ logs * places →
      IsNotFollowed refused limits places logs requests
  no_room : (worker : Worker) → FillsLast limits places logs requests worker →
      ¬ (HaveRoom (tables_of worker) places) → IsNotFollowed refused limits places logs requests
  out_of_memory : (worker : Worker) → FillsLast limits places logs requests worker →
      refused worker → IsNotFollowed refused limits places logs requests

-- A client was served to its end by logs one after another: by this many, or by fewer for a reason.
abbrev pub ServesByLogs : (Worker → Type 0) → Limits → ℕ → ℕ → Streams → Streams → Type 0
ServesByLogs refused limits places most before after =
    (logs : ℕ) × IsBetween 1 most logs × (serves : ServesClient limits places logs before after)
    × ((logs ≡ most) ⊎ IsNotFollowed refused limits places logs serves.comes.requests)

-- A fault of the connection ended the service, over no more logs than this.
abbrev pub StopsByLogs : Limits → ℕ → ℕ → Streams → Streams → Fault → Type 0
StopsByLogs limits places most before after fault =
    (cause : ConnFault) × (fault ≡ fault_of cause)
    × ((logs : ℕ) × IsBetween 1 most logs × EndsBy limits places logs cause before after)

-- The faults that end a service: those of its connection; or the quotas or the number of places are
-- out of range, and nothing was done.
abbrev pub StopsService : Limits → ℕ → ℕ → Streams → Streams → Fault → Type 0
StopsService limits places most before after fault =
    StopsByLogs limits places most before after fault
    ⊎ (fault ≡ BadSettings) × (after ≡ before) × ¬ (IsLawful (settings_alone limits places))
