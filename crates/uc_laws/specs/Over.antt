-- The headline for a log that is opened over tables: the clauses that speak of tables, each with
-- the table with which a tenant began in place of an empty one. The other clauses are the
-- headline's own. Herlihy's universal construction (Wait-Free Synchronization, TOPLAS 1991) has one
-- log without an end; that a log is opened over tables is this project's profile.
use Rattle.std.specs.Prelude.{◌≡◌, ℕ, ◌+◌, ◌≤◌, List, length, take, Some, slice_get}
use Rattle.mc_model.specs.declared.reply.Reply.{Reply}
use Rattle.mc_model.specs.declared.request.Entry.{Entry}
use Rattle.mc_model.specs.declared.shown.WorkerState.{WorkerState}
use Rattle.mc_model.specs.History.{answer_from}
use Rattle.mc_model.specs.Log.{entries_seen, own}
use Rattle.mc_model.specs.Replay.{EachStands}
use Rattle.mc_model.specs.Settings.{Configuration}
use Rattle.mc_model.specs.State.{TableState}
use Rattle.uc_core.specs.Core.{CoreState, ReplayState, log_of}
use Rattle.uc_core.specs.Headline.{Answered, HasReplica, replica_of}
use Rattle.uc_core.specs.Run.{Given, Runs}
use Rattle.uc_core.specs.declared.event.Event.{Event}
use Rattle.uc_laws.specs.CoreRun.{core_over}

-- true of every run with these settings in which each worker begins with these tables, whatever the
-- tables and the events: of the tables, of the core that the run leads to, and of the replies that
-- it gives
abbrev pub OfEveryRunOverWith : Configuration → (List TableState → CoreState → List Given → Type 0)
    → Type 0
OfEveryRunOverWith settings Holds = (tables : List TableState) (events : List Event)
    (core : CoreState) (given : List Given) → Runs (core_over settings tables) events core given →
    Holds tables core given

-- true of every such run, whatever the settings
abbrev pub OfEveryRunOver : (List TableState → CoreState → List Given → Type 0) → Type 0
OfEveryRunOver Holds = (settings : Configuration) → OfEveryRunOverWith settings Holds

-- what the settings and the events say of a core is true of every run over tables, whatever these
-- are
abbrev pub ByEventsOver : (Configuration → List Event → CoreState → Type 0) → Type 0
ByEventsOver Holds = (settings : Configuration) (tables : List TableState) (events : List Event)
    (core : CoreState) (given : List Given) → Runs (core_over settings tables) events core given →
    Holds settings events core

-- each tenant has a table among these
abbrev pub EachHasATable : List TableState → CoreState → Type 0
EachHasATable tables core = length core.openings ≤ length tables

-- each worker has replayed no more than it has learned, and each of its tables is the one with
-- which the tenant began, after the tenant's commands that the worker has replayed
abbrev pub TablesStandOver : List TableState → CoreState → Type 0
TablesStandOver tables core = (number : ℕ) (worker : WorkerState) (replay : ReplayState) →
    HasReplica core number worker replay →
    (replay.replayed ≤ length worker.learned)
    × EachStands tables (entries_seen (replica_of core worker replay)) replay.tables

-- the reply to a worker's own command at a place is the answer of the table with which its tenant
-- began, after only that tenant's commands at the places before
pub record IsAnswerOver (tables : List TableState) (core : CoreState) (worker place : ℕ)
    (reply : Reply) : Type 0 where
  pub entry : Entry
  pub opening : TableState
  pub stands : slice_get core.shown.decided place ≡ Some entry.ticket
  pub found : slice_get (log_of core) place ≡ Some (Some entry)
  pub mine : entry.ticket.worker ≡ worker
  pub began : slice_get tables entry.tenant ≡ Some opening
  pub replied :
      reply ≡ answer_from opening (own entry.tenant (take place (log_of core))) entry.command

-- each reply that was given is such an answer
abbrev pub RepliesAreAnswersOver : List TableState → CoreState → List Given → Type 0
RepliesAreAnswersOver tables core given = (k worker place : ℕ) (reply : Reply) →
    slice_get given k ≡ Some (worker, place, reply) → IsAnswerOver tables core worker place reply

-- two runs' logs agree for a tenant of each up to its command number j: it began with the same
-- table in both, and the tenants' commands up to that one are the same
pub record LogsAgreeOver (tables other_tables : List TableState) (one other : CoreState)
    (tenant other_tenant j : ℕ) : Type 0 where
  pub opening : slice_get tables tenant ≡ slice_get other_tables other_tenant
  pub commands :
      take (j + 1) (own tenant (log_of one)) ≡ take (j + 1) (own other_tenant (log_of other))

-- runs whose logs agree so for a tenant give equal replies to each of its commands up to which they
-- agree
abbrev pub AnswerAlikeOver : List TableState → CoreState → List Given → List TableState →
    CoreState → List Given → Type 0
AnswerAlikeOver tables one given other_tables other other_given =
    (tenant other_tenant j : ℕ) (reply other_reply : Reply) →
    LogsAgreeOver tables other_tables one other tenant other_tenant j →
    Answered one given tenant j reply → Answered other other_given other_tenant j other_reply →
    reply ≡ other_reply
