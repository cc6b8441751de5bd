-- What a turn of a connection does: bytes come, requests are taken, and bytes are sent; this
-- project's profile.
use Rattle.std.specs.Bool.{MatchBool}
use Rattle.std.specs.List.{list_any}
use Rattle.std.specs.Io.KnownBytes.{Consumes, IsAtEnd}
use Rattle.std.specs.Prelude.{◌≡◌, ◌⊎◌, ℕ, ◌+◌, ◌≤◌, ◌||◌, true, false, List, ◌++◌, length}
use Rattle.mc_counters.specs.Tallied.{CountedRequest}
use Rattle.mc_model.specs.declared.request.Request.{Request}
use Rattle.mc_read.specs.Administering.{lines_spoken}
use Rattle.mc_read.specs.Reading.{ends_stream}
use Rattle.mc_stream.specs.Event.{ends, failures, has_ended, moved, waits}
use Rattle.mc_stream.specs.Pushing.{IsUnfailed, Pushes}
use Rattle.mc_stream.specs.Stream.{Streams}
use Rattle.uc_worker.specs.declared.worker.Worker.{Worker}
use Rattle.mc_conn.specs.declared.conn.Conn.{Conn}
use Rattle.mc_conn.specs.Held.{Holding, IsRead}
use Rattle.uc_worker.specs.Going.{Continues}
use Rattle.mc_conn.specs.Owed.{Mark, Owes, mark_of}
use Rattle.mc_conn.specs.Tallying.{AreTallied}

-- all that a turn sees: the connection, the worker, and what the input and the output report
pub record Scene : Type 0 where
  pub conn : Conn
  pub worker : Worker
  pub streams : Streams

abbrev pub scene : Conn → Worker → Streams → Scene
scene conn worker streams = record { conn = conn; worker = worker; streams = streams }

-- what the connection holds of the input
abbrev pub holding_of : Conn → Holding
holding_of conn = record {
  lines = lines_spoken conn.reader.speaker;
  waiting = conn.waiting;
  held = conn.reader.held;
}

-- the bytes that are to be pushed
abbrev pub queue_of : Conn → List ℕ
queue_of conn = conn.queue

-- neither the input nor the output failed
abbrev pub NeitherFails : Streams → Streams → Type 0
NeitherFails before after =
    (failures after.input.events ≡ failures before.input.events)
    × IsUnfailed before.output after.output

-- the end of the input is remembered once it is found, and then nothing more is pulled
abbrev pub RemembersTheEnd : Scene → Scene → Type 0
RemembersTheEnd before after =
    MatchBool after.conn.has_ended
    ((before.conn.has_ended ≡ true) × (after.streams.input ≡ before.streams.input)
    ⊎ (has_ended after.streams.input.events ≡ true) × IsAtEnd after.streams.input.left)
    ((before.conn.has_ended ≡ false)
    × (ends after.streams.input.events ≡ ends before.streams.input.events))

-- What happened from one scene to another: bytes came and requests were taken, and what was sent
-- followed by what is queued is what was queued before followed by what is owed for these requests;
-- each was taken for the connection's role, from the worker's mark before up to this one. The
-- requests that the connection counts more are these, each by what its command asks for and by its
-- reply.
pub record Taken (before after : Scene) (to : Mark) : Type 0 where
  pub came : List ℕ
  pub requests : List Request
  pub owed : List ℕ
  pub sent : List ℕ
  pub pulled : moved after.streams.input.events ≡ moved before.streams.input.events ++ came
  pub consumed : Consumes before.streams.input.left after.streams.input.left came
  pub pushed : Pushes before.streams.output after.streams.output sent
  pub role : after.conn.role ≡ before.conn.role
  pub onward : Continues before.worker after.worker
  pub owes : Owes after.worker before.conn.role (mark_of before.worker) requests owed to
  pub bytes : sent ++ queue_of after.conn ≡ queue_of before.conn ++ owed
  pub waited : waits before.streams.output.events ≤ waits after.streams.output.events
  pub counted : List CountedRequest
  pub counts : AreTallied before.conn.role requests owed counted
  pub past : after.conn.past ≡ before.conn.past ++ counted

-- No fault: what was taken goes up to the worker's mark afterwards, and is what the bytes that came
-- read as. The end of the input is remembered, and so is a request that ends the stream.
pub record Takes (before after : Scene) : Type 0 where
  pub taken : Taken before after (mark_of after.worker)
  pub reads : IsRead (holding_of before.conn) taken.came taken.requests (holding_of after.conn)
  pub unfailed : NeitherFails before.streams after.streams
  pub end : RemembersTheEnd before after
  pub over : after.conn.is_over ≡ (before.conn.is_over || list_any ends_stream taken.requests)
  pub shut : after.conn.is_closed ≡ before.conn.is_closed

-- how much was done: bytes that came, requests that were taken, and bytes that were sent
abbrev pub amount : {before after : Scene} → Takes before after → ℕ
amount takes = length takes.taken.came + length takes.taken.requests + length takes.taken.sent
