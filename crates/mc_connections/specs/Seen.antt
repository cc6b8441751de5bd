-- What a client of one worker's connections sees in order. After Herlihy and Wing, Linearizability
-- (TOPLAS 1990): one operation precedes another if it has answered before the other is invoked.
-- Connections are those of memcached's doc/protocol.txt, "Protocol"; that one worker serves several
-- is this project's profile.
use mathlib.Core.Logic.{inl, inr}
use Rattle.std.specs.Prelude.{◌≡◌, ◌⊎◌, ℕ, zero, suc, ◌+◌, ◌<◌, ◌≤◌, Bool, true, List, [], ◌∷◌, ◌++◌, length, Some, slice_get}
use Rattle.lists.specs.Lists.{BeginsWith}
use Rattle.mc_conn.specs.Cited.{ReadsAs}
use Rattle.mc_conn.specs.Held.{lines_of}
use Rattle.mc_conn.specs.Owed.{IsPlaced, Logs, Mark, Owes, answered, demand_of, is_logged, mark_of}
use Rattle.mc_conn.specs.Turn.{Scene}
use Rattle.mc_conn.specs.declared.conn.Role.{Role}
use Rattle.mc_conn.specs.declared.conn.State.{State}
use Rattle.mc_model.specs.declared.command.Command.{Command}
use Rattle.mc_model.specs.declared.reply.Reply.{Reply}
use Rattle.mc_model.specs.declared.request.Request.{Request}
use Rattle.mc_connections.specs.Life.{IsBehind, IsCut, OwesInLogs, OwesInParts, and_then, came_of, next_log, no_log, none_yet, sent_of}
use Rattle.mc_connections.specs.Serving.{IsServedLater, TakesOrStops, connection_at}
use Rattle.mc_connections.specs.Working.{Standing}
use Rattle.mc_connections.specs.declared.connection.Connection.{Connection}
use Rattle.uc_worker.specs.Going.{Continues}
use Rattle.uc_worker.specs.Worker.{IsFull}
use Rattle.uc_worker.specs.declared.worker.Worker.{Worker}

-- the connection is one of the worker's, or has ended there
abbrev pub IsThere : Standing → Connection → Type 0
IsThere now connection =
    ((key : ℕ) × (connection_at now.connections key ≡ Some connection))
    ⊎ ((place : ℕ) × (slice_get now.connections.ended.connections place ≡ Some connection))

-- What a connection was sent so far, by workers of logs that followed one another, as the last of
-- them is now. Its first requests, whatever more may come, were taken in order, and each is
-- answered over the history of the worker that took it. What was sent is a prefix of what is owed
-- for these, or, where a fault has closed the connection, of that followed by the words that report
-- it.
pub record WasSent (workers : List Worker) (connection : Connection) : Type 0 where
  pub requests : List Request
  pub owed : List ℕ
  pub first : (more : List ℕ) (all : List Request) →
      ReadsAs (lines_of connection.conn.role) (came_of connection ++ more) all →
      BeginsWith all requests
  pub owes : OwesInLogs connection.conn.role workers requests owed
  pub sent : BeginsWith owed (sent_of connection) ⊎ IsCut connection owed

-- Of requests that a worker took from a mark on, the one of this index logs a command, which the
-- worker has replayed. The mark at which it was due is the one to which it owes for the requests
-- before it, and what it owes next is the reply.
pub record IsAnsweredAmong (worker : Worker) (role : Role) (mark : Mark) (requests : List Request)
    (owed : List ℕ) (index : ℕ) : Type 0 where
  pub earlier : List Request
  pub request : Request
  pub taken : BeginsWith requests (earlier ++ request ∷ [])
  pub so_many : length earlier ≡ index
  pub before : List ℕ
  pub due : Mark
  pub owes : Owes worker role mark earlier before due
  pub tenant : ℕ
  pub command : Command
  pub quiet : Bool
  pub logs : demand_of role request ≡ Logs tenant command quiet
  pub reply : Reply
  pub to : Mark
  pub placed : IsPlaced worker tenant due command reply to
  pub next : BeginsWith owed (before ++ answered quiet reply)

-- the number under which its command was announced, and the place at which it stands in the log
abbrev pub announced_number : {worker : Worker} {role : Role} {mark : Mark}
    {requests : List Request} {owed : List ℕ} {index : ℕ} →
    IsAnsweredAmong worker role mark requests owed index → ℕ
announced_number answer = answer.due.number

abbrev pub history_place : {worker : Worker} {role : Role} {mark : Mark}
    {requests : List Request} {owed : List ℕ} {index : ℕ} →
    IsAnsweredAmong worker role mark requests owed index → ℕ
history_place answer = answer.placed.place

-- of the requests of these parts the one of an index was answered, as the command of this number
abbrev pub IsAnsweredInParts : {worker : Worker} {role : Role} {requests : List Request}
    {bytes : List ℕ} {to : Mark} → ℕ → ℕ → OwesInParts worker role requests bytes to → Type 0
IsAnsweredInParts number index none_yet = ⊥
IsAnsweredInParts {worker} {role} number index
    (and_then requests more bytes others to from last parts behind owes) =
    IsAnsweredInParts number index parts
    ⊎ (at : ℕ) × (answer : IsAnsweredAmong worker role from more others at)
    × (announced_number answer ≡ number) × (index ≡ length requests + at)

-- the same over logs, of a number of this one of them, counted from 0
abbrev pub IsAnsweredInLogs : {role : Role} {workers : List Worker} {requests : List Request}
    {owed : List ℕ} → ℕ → ℕ → ℕ → OwesInLogs role workers requests owed → Type 0
IsAnsweredInLogs log number index no_log = ⊥
IsAnsweredInLogs zero number index
    (next_log worker workers requests more bytes others to parts owes) =
    IsAnsweredInParts number index parts
IsAnsweredInLogs (suc log) number index
    (next_log worker workers requests more bytes others to parts owes) =
    (later : ℕ) × IsAnsweredInLogs log number later owes × (index ≡ length requests + later)

-- the request of this index is one that the worker of this log took, of all over logs
abbrev pub IsTakenInLogs : {role : Role} {workers : List Worker} {requests : List Request}
    {owed : List ℕ} → ℕ → ℕ → OwesInLogs role workers requests owed → Type 0
IsTakenInLogs log index no_log = ⊥
IsTakenInLogs zero index (next_log worker workers requests more bytes others to parts owes) =
    index < length requests
IsTakenInLogs (suc log) index
    (next_log worker workers requests more bytes others to parts owes) =
    (later : ℕ) × IsTakenInLogs log later owes × (index ≡ length requests + later)

-- Of requests that were taken over logs that followed one another, the one of this index was
-- answered on the last log: after what the workers of the earlier logs owe for the first requests,
-- and what its worker owes in parts for those behind them, that worker took a part of which it is
-- one, no sooner than it had answered the parts before.
pub record IsAnsweredOnLast (past : List Worker) (worker : Worker) (role : Role)
    (requests : List Request) (owed : List ℕ) (index : ℕ) : Type 0 where
  pub first : List Request
  pub front : List ℕ
  pub over : OwesInLogs role past first front
  pub earlier : List Request
  pub before : List ℕ
  pub to : Mark
  pub parts : OwesInParts worker role earlier before to
  pub mark : Mark
  pub behind : IsBehind to mark
  pub part : List Request
  pub bytes : List ℕ
  pub at : ℕ
  pub answer : IsAnsweredAmong worker role mark part bytes at
  pub so_many : index ≡ length first + length earlier + at
  pub taken : BeginsWith requests (first ++ (earlier ++ part))
  pub next : BeginsWith owed (front ++ (before ++ bytes))

-- all that is owed up to the end of its reply
abbrev pub owed_through : {past : List Worker} {worker : Worker} {role : Role}
    {requests : List Request} {owed : List ℕ} {index : ℕ} →
    IsAnsweredOnLast past worker role requests owed index → List ℕ
owed_through seen =
    seen.front
    ++ (seen.before ++ (seen.answer.before ++ answered seen.answer.quiet seen.answer.reply))

-- What is owed over logs that followed one another, split where the last log begins: what the
-- workers of the earlier logs owe for the first requests, and then what its worker owes in parts
-- for the rest.
pub record SplitsAtLast (past : List Worker) (worker : Worker) (role : Role)
    (requests : List Request) (owed : List ℕ) : Type 0 where
  pub earlier : List Request
  pub before : List ℕ
  pub owes : OwesInLogs role past earlier before
  pub rest : List Request
  pub bytes : List ℕ
  pub to : Mark
  pub parts : OwesInParts worker role rest bytes to
  pub are : requests ≡ earlier ++ rest
  pub adds_up : owed ≡ before ++ bytes

-- each of these requests from an index on that is to be logged was answered on the last log, unless
-- that log is full
abbrev pub AreAnsweredFrom : List Worker → Worker → Role → List Request → List ℕ → ℕ → Type 0
AreAnsweredFrom past worker role requests owed from = (index : ℕ) (request : Request) →
    from ≤ index → slice_get requests index ≡ Some request →
    is_logged (demand_of role request) ≡ true →
    IsAnsweredOnLast past worker role requests owed index ⊎ IsFull worker

-- the requests that were taken as a connection was served, and what is owed for them
abbrev pub requests_taken : {before after : Scene} → TakesOrStops before after → List Request
requests_taken (inl takes) = takes.taken.requests
requests_taken (inr (fault, stops)) = stops.breaks.taken.requests

abbrev pub owed_for_them : {before after : Scene} → TakesOrStops before after → List ℕ
owed_for_them (inl takes) = takes.taken.owed
owed_for_them (inr (fault, stops)) = stops.breaks.taken.owed

-- A worker served a connection, whichever it was, and of the requests that it took there it
-- answered the one of this index.
pub record ServesAndAnswers (until : Bool) (before after : Worker) : Type 0 where
  pub old : Connection
  pub new : Connection
  pub state : State
  pub turns : IsServedLater until before after old new state
  pub which : ℕ
  pub answer : IsAnsweredAmong after old.conn.role (mark_of before)
      (requests_taken turns.served.how) (owed_for_them turns.served.how) which

-- A client of two connections of one worker, on one log. By the moment `saw` it was sent the reply
-- to a request on the one, with all that is owed before it. What it then sends on the other is
-- taken in a later serve, from `asked` to `answered`, and a request taken there is answered too.
-- The worker may have gone on in another thread in between.
pub record SeesThenAsks (until : Bool) (past : List Worker)
    (saw asked answered : Standing) : Type 0 where
  pub reader : Connection
  pub there : IsThere saw reader
  pub sent : WasSent (past ++ saw.worker ∷ []) reader
  pub index : ℕ
  pub seen : IsAnsweredOnLast past saw.worker reader.conn.role sent.requests sent.owed index
  pub whole : BeginsWith (sent_of reader) (owed_through seen)
  pub later : Continues saw.worker asked.worker
  pub key : ℕ
  pub old : Connection
  pub was : connection_at asked.connections key ≡ Some old
  pub state : State
  pub new : Connection
  pub is : IsThere answered new
  pub turns : IsServedLater until asked.worker answered.worker old new state
  pub which : ℕ
  pub asks : IsAnsweredAmong answered.worker old.conn.role (mark_of asked.worker)
      (requests_taken turns.served.how) (owed_for_them turns.served.how) which
