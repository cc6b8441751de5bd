-- What a connection was sent for what came, from its first byte to its last. After memcached's
-- doc/protocol.txt, "Protocol": a connection is a stream of request texts, each answered in order.
-- That they are answered over a log which many share is Herlihy's construction (Wait-Free
-- Synchronization, TOPLAS 1991).
use Rattle.std.specs.List.{list_any}
use Rattle.std.specs.Prelude.{◌≡◌, ◌⊎◌, ⊤, ℕ, suc, ◌<◌, ◌≤◌, true, List, [], ◌∷◌, ◌++◌, length, Some, slice_get}
use Rattle.mc_conn.specs.Alone.{first_mark}
use Rattle.mc_conn.specs.Held.{lines_of}
use Rattle.mc_conn.specs.ConnFault.{CellTaken, ConnFault, InputFailed, OutOfMemory, OutputFailed}
use Rattle.mc_conn.specs.declared.conn.Role.{Role}
use Rattle.mc_conn.specs.Owed.{Mark, Owes}
use Rattle.lists.specs.Lists.{BeginsWith}
use Rattle.mc_model.specs.declared.reply.Reply.TheVariants.{Refused}
use Rattle.mc_model.specs.declared.reply.TheConstants.WireNo.{OUT_OF_MEMORY}
use Rattle.mc_model.specs.declared.request.Request.{Request}
use Rattle.mc_connections.specs.declared.connection.Connection.{Connection}
use Rattle.mc_conn.specs.Cited.{ReadsAs, ends_stream, text}
use Rattle.mc_stream.specs.Event.{failures, has_ended, moved}
use Rattle.uc_worker.specs.Worker.{announced_of}
use Rattle.uc_worker.specs.declared.worker.Worker.{Worker}

-- all bytes that came from the client, and all that were sent to it
abbrev pub came_of : Connection → List ℕ
came_of connection = moved connection.received.events

abbrev pub sent_of : Connection → List ℕ
sent_of connection = moved connection.sent.events

-- the second mark isn't before the first
abbrev pub IsBehind : Mark → Mark → Type 0
IsBehind one two = (one.number ≤ two.number) × (one.place ≤ two.place)

-- What is owed for requests of this role that a worker took in parts, each after the one before:
-- between two parts it may have taken requests of other connections.
pub data OwesInParts (worker : Worker) (role : Role) : List Request → List ℕ → Mark → Type 0 where
  none_yet : OwesInParts worker role [] [] first_mark
  and_then : (requests more : List Request) (bytes others : List ℕ) (to from last : Mark) →
      OwesInParts worker role requests bytes to →
      IsBehind to from → Owes worker role from more others last →
      OwesInParts worker role (requests ++ more) (bytes ++ others) last

-- The same over logs that followed one another, each with its own worker: the worker of the first
-- log took the first requests in parts, and those of the other logs took the rest. A log that was
-- served twice counts as two here; that the second time comes later isn't said here.
pub data OwesInLogs (role : Role) : List Worker → List Request → List ℕ → Type 0 where
  no_log : OwesInLogs role [] [] []
  next_log : (worker : Worker) (workers : List Worker) (requests more : List Request)
      (bytes others : List ℕ) (to : Mark) → OwesInParts worker role requests bytes to →
      OwesInLogs role workers more others →
      OwesInLogs role (worker ∷ workers) (requests ++ more) (bytes ++ others)

-- of each part, each number from its first mark on and below its last one is one of the given ones
abbrev pub PartsAreUnder : {worker : Worker} {role : Role} {requests : List Request}
    {bytes : List ℕ} {to : Mark} → (ℕ → Type 0) → OwesInParts worker role requests bytes to → Type 0
PartsAreUnder Own none_yet = ⊤
PartsAreUnder Own (and_then requests more bytes others to from last parts behind owes) =
    PartsAreUnder Own parts
    × ((number : ℕ) → from.number ≤ number → number < last.number → Own number)

-- the same over logs, which are counted from 0
abbrev pub LogsAreUnder : {role : Role} {workers : List Worker} {requests : List Request}
    {owed : List ℕ} → (ℕ → ℕ → Type 0) → OwesInLogs role workers requests owed → Type 0
LogsAreUnder Own no_log = ⊤
LogsAreUnder Own (next_log worker workers requests more bytes others to parts owes) =
    PartsAreUnder (Own 0) parts × LogsAreUnder (λ log. Own (suc log)) owes

-- how often reads of the connection's stream have failed, and how often writes have
abbrev pub FailedSoOften : Connection → ℕ → ℕ → Type 0
FailedSoOften connection reads writes =
    (failures connection.received.events ≡ reads) × (failures connection.sent.events ≡ writes)

-- no fault: all that came, up to its end or to a request that ends the stream, reads as these
-- requests, and all that is owed was sent
pub record EndsWithoutFault (connection : Connection) (requests : List Request)
    (owed : List ℕ) : Type 0 where
  pub unfailed : FailedSoOften connection 0 0
  pub end : (has_ended connection.received.events ≡ true) ⊎ (list_any ends_stream requests ≡ true)
  pub whole : ReadsAs (lines_of connection.conn.role) (came_of connection) requests
  pub sent : sent_of connection ≡ owed

-- What a connection's stream shows of the fault that ended it: one read has failed, or one write.
-- If memory ran out no read has failed; nothing is said about writes then, since those that report
-- it may fail.
abbrev pub HasFault : ConnFault → Connection → Type 0
HasFault OutOfMemory connection = failures connection.received.events ≡ 0
HasFault CellTaken connection = FailedSoOften connection 0 0
HasFault InputFailed connection = FailedSoOften connection 1 0
HasFault OutputFailed connection = FailedSoOften connection 0 1

-- the words that report a fault to the client
abbrev pub words_of : ConnFault → List ℕ
words_of OutOfMemory = text (Refused OUT_OF_MEMORY)
words_of CellTaken = []
words_of InputFailed = []
words_of OutputFailed = []

-- a fault has closed the connection: what was sent is a prefix of what is owed followed by the words
-- that report the fault
pub record IsCut (connection : Connection) (owed : List ℕ) : Type 0 where
  pub closed : connection.conn.is_closed ≡ true
  pub fault : ConnFault
  pub why : HasFault fault connection
  pub sent : BeginsWith (owed ++ words_of fault) (sent_of connection)

-- A connection's whole life, in which these workers served it one after another. Its first
-- requests, whatever more might have come, were taken in order, and each is answered over the
-- history of the worker that took it, at its own place, after its own tenant's commands before that
-- place. What was sent is what is owed for these, or after a fault a prefix of that followed by
-- the words that report the fault.
pub record WasAnswered (workers : List Worker) (connection : Connection) : Type 0 where
  pub requests : List Request
  pub owed : List ℕ
  pub first : (more : List ℕ) (all : List Request) →
      ReadsAs (lines_of connection.conn.role) (came_of connection ++ more) all →
      BeginsWith all requests
  pub owes : OwesInLogs connection.conn.role workers requests owed
  pub ending : EndsWithoutFault connection requests owed ⊎ IsCut connection owed

-- The connection was answered so, by commands of these numbers of each log alone.
pub record WasAnsweredUnder (Own : ℕ → ℕ → Type 0) (workers : List Worker)
    (connection : Connection) : Type 0 where
  pub answered : WasAnswered workers connection
  pub under : LogsAreUnder Own answered.owes

-- the worker of this log had announced no more than that many commands when it began to serve
abbrev pub IsSince : List Worker → ℕ → ℕ → Type 0
IsSince begun log number = (first : Worker) → slice_get begun log ≡ Some first →
    length (announced_of first) ≤ number

-- Connections that have ended, the latest first, were answered by workers that went from the first
-- list to the second, one for one, and no two of them by one command: each number of each log is
-- given to one of them at most, which is told by how many had ended before it, and each connection
-- was answered by commands that are given to it, and that were announced since the log's worker
-- began.
pub record WereAnsweredApart (begun served : List Worker) (ended : List Connection) : Type 0 where
  pub owner : ℕ → ℕ → ℕ
  pub answered : (later earlier : List Connection) (connection : Connection) →
      ended ≡ later ++ connection ∷ earlier → WasAnsweredUnder
      (λ log number. (owner log number ≡ length earlier) × IsSince begun log number)
      served connection
