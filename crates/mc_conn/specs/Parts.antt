-- The parts of a turn, as the contracts of its functions state them; this project's profile.
use Rattle.std.specs.Bool.{MatchBool}
use Rattle.std.specs.Prelude.{◌≡◌, ◌≢◌, ◌⊎◌, ℕ, ◌+◌, ◌≤◌, ◌<◌, Bool, true, false, List, [], ◌∷◌, ◌++◌, length, Option, None}
use Rattle.mc_counters.specs.Tallied.{CountedRequest}
use Rattle.mc_counters.specs.declared.kinds.Asked.{Asked}
use Rattle.mc_model.specs.declared.command.Command.{Command}
use Rattle.mc_model.specs.declared.fault.Fault.{Fault}
use Rattle.mc_model.specs.declared.fault.Fault.TheVariants.{Memory, Taken}
use Rattle.mc_model.specs.declared.reply.Reply.{Reply}
use Rattle.mc_model.specs.declared.request.Request.{Request}
use Rattle.mc_stream.specs.Event.{waits}
use Rattle.mc_stream.specs.Stream.{Outflow}
use Rattle.uc_worker.specs.declared.worker.Worker.{Worker}
use Rattle.uc_worker.specs.Worker.{announced_of, history_of}
use Rattle.mc_conn.specs.declared.conn.Conn.{Conn}
use Rattle.mc_conn.specs.declared.conn.Role.{Role}
use Rattle.mc_conn.specs.declared.conn.State.{State}
use Rattle.mc_conn.specs.declared.conn.State.TheVariants.{Closed, Idle, Busy, Full}
use Rattle.mc_conn.specs.declared.conn.TheConstants.{QUEUE_BYTES}
use Rattle.mc_conn.specs.ConnFault.{TellsStarved}
use Rattle.mc_conn.specs.Ending.{AwaitsLog, Breaks, BreaksInTime, HoldsOnlyBehind, IsState, LogsInTime, Stops, TakesFewRequests, TakesWithin}
use Rattle.mc_conn.specs.Held.{HoldsNone}
use Rattle.mc_conn.specs.Onward.{own_sighting}
use Rattle.uc_worker.specs.Going.{Continues}
use Rattle.mc_conn.specs.Owed.{Demand, IsAnswered, Logs, Mark, Owes, Says, answered, demand_of, mark_of}
use Rattle.mc_conn.specs.Tallying.{CountsFor}
use Rattle.mc_conn.specs.Turn.{Scene, Takes, amount, holding_of, queue_of}

-- a part of a turn, which may take this many requests at most, whether it did anything, and how many
-- may be taken after it; whether commands are left to the next log is the first argument
pub record Does (until : Bool) (most : ℕ) (before after : Scene) (did : Bool) (left : ℕ) :
    Type 0 where
  pub takes : Takes before after
  pub did_is : MatchBool did (0 < amount takes) (amount takes ≡ 0)
  pub in_time : until ≡ true → LogsInTime takes
  pub within : TakesWithin takes
  pub fewer : length takes.taken.requests + left ≡ most

-- a fault in a part of a turn; whether commands are left to the next log is the first argument
pub record BreaksFor (until : Bool) (before after : Scene) (fault : Fault) : Type 0 where
  pub breaks : Breaks before after fault
  pub in_time : until ≡ true → BreaksInTime breaks

-- a command was answered
pub record AnswersCommand (old new : Worker) (tenant : ℕ) (command : Command)
    (reply : Reply) : Type 0 where
  pub next : Mark
  pub is : IsAnswered new tenant (mark_of old) command reply next
  pub number : length (announced_of new) ≡ next.number
  pub place : next.place ≤ length (history_of new)

-- a request was taken, and what is owed for it was queued
pub record Responds (old new : Worker) (role : Role) (request : Request)
    (before after : List ℕ) : Type 0 where
  pub bytes : List ℕ
  pub queued : after ≡ before ++ bytes
  pub owes : Owes new role (mark_of old) (request ∷ []) bytes (mark_of new)

-- this reply was given to a request: its text was queued, unless the request is quiet, and the
-- request is counted by it and by what its command asks for
pub record GivesReply (asked : Option Asked) (quiet : Bool) (reply : Reply) (before after : List ℕ)
    (old new : List CountedRequest) : Type 0 where
  pub queued : after ≡ before ++ answered quiet reply
  pub past : new ≡ old ++ record { asked = asked; reply = reply } ∷ []

-- a request was taken, and is counted by what is owed for it, which was queued
pub record Counts (role : Role) (request : Request) (before after : List ℕ)
    (old new : List CountedRequest) : Type 0 where
  pub bytes : List ℕ
  pub counted : List CountedRequest
  pub queued : after ≡ before ++ bytes
  pub past : new ≡ old ++ counted
  pub is : CountsFor role request bytes counted

-- nothing was announced, or the tenant's command under the next number
abbrev pub MayAnnounce : Worker → Worker → ℕ → Command → Type 0
MayAnnounce old new tenant command =
    (announced_of new ≡ announced_of old)
    ⊎ (announced_of new
    ≡ announced_of old ++ own_sighting old (length (announced_of old)) tenant command ∷ [])

-- nothing was announced but the command that is to be logged, if one is
abbrev pub MayAnnounceFor : Worker → Worker → Demand → Type 0
MayAnnounceFor old new (Logs tenant command quiet) = MayAnnounce old new tenant command
MayAnnounceFor old new (Says said) = announced_of new ≡ announced_of old

-- commands are left to the next log, and one is waiting for it
abbrev pub IsLeft : Bool → Conn → Worker → Type 0
IsLeft until conn worker = (until ≡ true) × AwaitsLog conn worker

-- at most as many requests got a reply as fewer may be taken afterwards
abbrev pub AnswersWithin : ℕ → ℕ → Conn → Conn → Type 0
AnswersWithin most left before after = length after.past + left ≤ length before.past + most

-- no whole request is held, or one is, and no more may be taken, the queue is too long to take it
-- or it is left to the next log; how many may still be taken is the second argument
abbrev pub IsHeldBehind : Bool → ℕ → Conn → Worker → Type 0
IsHeldBehind until left conn worker =
    HoldsNone (holding_of conn)
    ⊎ (conn.waiting ≢ None) × ((left ≡ 0) ⊎ (QUEUE_BYTES < length (queue_of conn)))
    ⊎ IsLeft until conn worker

-- the faults of taking a request
abbrev pub IsTakeFault : Fault → Type 0
IsTakeFault fault = (fault ≡ Memory) ⊎ (fault ≡ Taken)

-- a part that uses neither the input nor the output: the worker goes on, and the connection's role,
-- and whether its input has ended, stay the same
pub record KeepsStreams (old new : Conn) (before after : Worker) : Type 0 where
  pub role : new.role ≡ old.role
  pub has_ended : new.has_ended ≡ old.has_ended
  pub onward : Continues before after

-- the reader has looked for the next request, and nothing else was done
pub record LooksForNext (old new : Conn) : Type 0 where
  pub role : new.role ≡ old.role
  pub has_ended : new.has_ended ≡ old.has_ended
  pub is_closed : new.is_closed ≡ old.is_closed
  pub queue : queue_of new ≡ queue_of old
  pub over : new.is_over ≡ old.is_over
  pub past : new.past ≡ old.past

-- the role, what is held, and whether the input or the stream has ended are the same
pub record IsSameBesideQueue (old new : Conn) : Type 0 where
  pub role : new.role ≡ old.role
  pub holding : holding_of new ≡ holding_of old
  pub has_ended : new.has_ended ≡ old.has_ended
  pub over : new.is_over ≡ old.is_over
  pub past : new.past ≡ old.past

-- a request met a fault: no reply is queued, and the request's command may be announced
pub record Refuses (old new : Worker) (role : Role) (request : Request) (before after : List ℕ)
    (fault : Fault) : Type 0 where
  pub is : IsTakeFault fault
  pub announced : MayAnnounceFor old new (demand_of role request)
  pub unchanged : after ≡ before

-- nothing more comes, no request is waiting, and nothing is queued
abbrev pub IsAtRest : Conn → Type 0
IsAtRest conn =
    ((conn.has_ended ≡ true) ⊎ (conn.is_over ≡ true)) × (conn.waiting ≡ None) × (queue_of conn ≡ [])

-- the state of a connection after a turn that did something or nothing
abbrev pub StateIs : Bool → Conn → Worker → Bool → State → Type 0
StateIs until conn worker did Closed = IsAtRest conn
StateIs until conn worker did Idle =
    ¬ (IsAtRest conn) × ¬ (IsLeft until conn worker) × (did ≡ false)
StateIs until conn worker did Busy =
    ¬ (IsAtRest conn) × ¬ (IsLeft until conn worker) × (did ≡ true)
StateIs until conn worker did Full = IsLeft until conn worker

-- a turn without a fault, which may leave commands to the next log
pub record GoesRound (until : Bool) (before after : Scene) (state : State) : Type 0 where
  pub takes : Takes before after
  pub state_is : IsState takes state
  pub full : IsLeft until after.conn after.worker → state ≡ Full
  pub only : state ≡ Full → until ≡ true
  pub held : (state ≡ Full) ⊎ HoldsOnlyBehind takes
  pub few : TakesFewRequests takes
  pub in_time : until ≡ true → LogsInTime takes
  pub within : TakesWithin takes
  pub left : (queue_of after.conn ≡ [])
      ⊎ (waits before.streams.output.events < waits after.streams.output.events)

-- a turn that a fault has ended, which may leave commands to the next log
pub record StopsRound (until : Bool) (before after : Scene) (fault : Fault) : Type 0 where
  pub stops : Stops before after fault
  pub in_time : until ≡ true → BreaksInTime stops.breaks

-- what the client gets when a fault closes the connection
abbrev pub TellsOf : Fault → List ℕ → Outflow → Outflow → Type 0
TellsOf fault queue before after =
    (fault ≡ Memory → TellsStarved queue before after) × (fault ≢ Memory → after ≡ before)
