-- The logs of a run of wfmc as runs of the core, the machine of the headline. The log is that of
-- Herlihy's universal construction (Wait-Free Synchronization, TOPLAS 1991), which has one without
-- an end; that it is cut into logs is this project's profile.
use Rattle.std.specs.List.{AllZip}
use Rattle.std.specs.Prelude.{◌≡◌, ◌<◌, ◌≤◌, ℕ, Bool, List, Some, length, slice_get}
use Rattle.mc_conn.specs.Owed.{IsPlaced, Mark}
use Rattle.mc_connections.specs.Seen.{SeesThenAsks, announced_number, history_place}
use Rattle.mc_connections.specs.Working.{Standing, Works}
use Rattle.mc_model.specs.declared.command.Command.{Command}
use Rattle.mc_model.specs.declared.id.Ticket.{Ticket}
use Rattle.mc_model.specs.declared.reply.Reply.{Reply}
use Rattle.mc_model.specs.Legal.{ticket_of}
use Rattle.mc_model.specs.Settings.{Configuration}
use Rattle.mc_model.specs.State.{TableState}
use Rattle.mc_server.specs.Crew.{HaveClosed}
use Rattle.mc_server.specs.Logs.{AreOpenedOver, WereServed}
use Rattle.uc_log.specs.declared.log.Log.{Log}
use Rattle.uc_refinement.specs.Refinement.{DoOneCoreRun, HaveRunTheCore}
use Rattle.uc_worker.specs.Going.{Continues}
use Rattle.uc_worker.specs.Worker.{announced_of, seat_of}
use Rattle.uc_worker.specs.declared.worker.Worker.{Worker}

-- What the workers of a log have done, of each log that is closed, is one run of the core over the
-- tables that the log was opened over: its log is their history, and its replies to each worker's
-- own commands are those that follow from that history.
abbrev pub ClosedLogsAreCoreRuns : Type 0
ClosedLogsAreCoreRuns = (settings : Configuration) (log : Log) (used : ℕ)
    (tables : List TableState) (begun served : List Worker) →
    AreOpenedOver settings log tables begun → AllZip Continues begun served →
    (closes : HaveClosed served used) → HaveRunTheCore settings tables closes.closed

-- and so it is of those of the last log
abbrev pub LastLogsAreCoreRuns : Type 0
LastLogsAreCoreRuns = (settings : Configuration) (most number : ℕ) →
    (were : WereServed settings most number) →
    HaveRunTheCore settings were.serves.tables were.closes.closed

-- What those had done as they came back, before they met, is one run of the core too.
abbrev pub LastLogsComeBackOnCoreRuns : Type 0
LastLogsComeBackOnCoreRuns = (settings : Configuration) (most number : ℕ) →
    (were : WereServed settings most number) →
    DoOneCoreRun settings were.serves.tables were.served

-- The run of a closed log, which has all that its workers have done, has decided the places that
-- were used, and no others: it has no command that their history lacks.
abbrev pub ClosedLogsDecidedNoMore : Type 0
ClosedLogsDecidedNoMore = (settings : Configuration) (log : Log) (used : ℕ)
    (tables : List TableState) (begun served : List Worker) →
    AreOpenedOver settings log tables begun → AllZip Continues begun served →
    (closes : HaveClosed served used) → length closes.run.1.decided ≡ used

-- Of two commands that a worker announced the one that it announced first stands first in the log,
-- if both stand there.
abbrev pub KeepsOwnOrder : List Ticket → Type 0
KeepsOwnOrder log = (number first second place later : ℕ) → first < second →
    slice_get log place ≡ Some (ticket_of number first) →
    slice_get log later ≡ Some (ticket_of number second) → place < later

-- It is so in each run of the core that the workers of a log have done.
abbrev pub RunsKeepOwnOrder : Type 0
RunsKeepOwnOrder = (settings : Configuration) (tables : List TableState)
    (workers : List Worker) (one : DoOneCoreRun settings tables workers) →
    KeepsOwnOrder one.log.decided

-- What a worker had announced before it served connections, by whichever of them, has lower numbers
-- than what it announces after that.
abbrev pub AnnouncesInServedOrder : Type 0
AnnouncesInServedOrder = (until : Bool) (early late : Standing) (first second : ℕ) →
    Works until early late → first < length (announced_of early.worker) →
    length (announced_of late.worker) ≤ second → first < second

-- the worker's command of this number stands at this place of the log
abbrev pub StandsAt : List Ticket → Worker → ℕ → ℕ → Type 0
StandsAt log worker place number =
    slice_get log place ≡ Some (ticket_of (seat_of worker).worker number)

-- In each run of the core that the workers of a log have done, a command whose reply a client was
-- sent on one connection stands before one that the same worker then took on another and answered:
-- both stand where that worker, as it is in the run, has replayed them.
abbrev pub RunsKeepSeenOrder : Type 0
RunsKeepSeenOrder = (settings : Configuration) (tables : List TableState)
    (workers : List Worker) (one : DoOneCoreRun settings tables workers) (until : Bool)
    (past : List Worker) (saw asked answered : Standing)
    (sees : SeesThenAsks until past saw asked answered) (number : ℕ) (worker : Worker) →
    slice_get workers number ≡ Some worker → Continues answered.worker worker →
    StandsAt one.log.decided worker (history_place sees.seen.answer)
    (announced_number sees.seen.answer)
    × StandsAt one.log.decided worker (history_place sees.asks) (announced_number sees.asks)
    × (history_place sees.seen.answer < history_place sees.asks)

-- A reply that is owed for a command which a worker had taken at some time, over its history as it
-- was then, is what the run of its log, once that is closed, gives the worker at the place where the
-- command stands.
abbrev pub OwedRepliesAreGiven : Type 0
OwedRepliesAreGiven = (settings : Configuration) (tables : List TableState)
    (workers : List Worker) (ran : HaveRunTheCore settings tables workers) (number tenant : ℕ)
    (command : Command) (reply : Reply) (early worker : Worker) (from to : Mark)
    (placed : IsPlaced early tenant from command reply to) →
    slice_get workers number ≡ Some worker → (seat_of worker).worker ≡ number →
    Continues early worker →
    (at : ℕ) × (slice_get ran.one.core.given at ≡ Some (number, placed.place, reply))
