-- The logs of a run of wfmc as the one log that they are parts of. Herlihy's universal construction
-- (Wait-Free Synchronization, TOPLAS 1991) has one log without an end; that it is cut into logs is
-- this project's profile.
use Rattle.std.specs.Prelude.{◌≡◌, ◌<◌, ℕ, List, [], ◌∷◌, ◌++◌, Option, Some, length}
use Rattle.mc_connections.specs.InTurn.{InTurn}
use Rattle.mc_model.specs.declared.request.Entry.{Entry}
use Rattle.mc_model.specs.Replay.{EachStands, empty_tables, reply_to}
use Rattle.mc_model.specs.Settings.{Configuration}
use Rattle.mc_model.specs.State.{TableState}
use Rattle.mc_server.specs.Logs.{LogsWere, no_log_yet, one_more_log}
use Rattle.uc_worker.specs.Cited.{entries}
use Rattle.uc_worker.specs.Worker.{history_of}
use Rattle.uc_worker.specs.declared.worker.Worker.{Worker}

-- what stands in the history of workers that have one history
abbrev pub entries_of : List Worker → List (Option Entry)
entries_of [] = []
entries_of (first ∷ others) = entries (history_of first)

-- what stands in these logs, one after another
abbrev pub all_entries : (settings : Configuration) (logs places : ℕ) (who : List InTurn)
    (tables : List TableState) → LogsWere settings logs places who tables → List (Option Entry)
all_entries settings _ _ _ _ (no_log_yet who none) = []
all_entries settings _ _ _ _
    (one_more_log earlier before used whose left after log begun served were opened onward closes) =
    all_entries settings earlier before whose left were ++ entries_of closes.closes.closed

-- There are as many entries as places were used, and the tables that the logs have left are those
-- after all of these entries, from empty tables on: each tenant's after its own commands.
abbrev pub LogsAreOneLog : Type 0
LogsAreOneLog = (settings : Configuration) (logs places : ℕ) (who : List InTurn)
    (tables : List TableState) → 0 < settings.workers →
    (were : LogsWere settings logs places who tables) →
    (length (all_entries settings logs places who tables were) ≡ places)
    × EachStands (empty_tables settings.tenants)
    (all_entries settings logs places who tables were) tables

-- A reply on the next log, which begins with these tables, is the one that follows from all entries
-- before it, those of the earlier logs and those of that log, from empty tables on.
abbrev pub NextRepliesFollowFromAll : Type 0
NextRepliesFollowFromAll = (settings : Configuration) (logs places : ℕ) (who : List InTurn)
    (tables : List TableState) → 0 < settings.workers →
    (were : LogsWere settings logs places who tables) (front : List (Option Entry))
    (entry : Entry) →
    reply_to tables front (Some entry)
    ≡ reply_to (empty_tables settings.tenants)
    (all_entries settings logs places who tables were ++ front) (Some entry)
