-- The tables of all tenants under one log, and what the entry of one more place does to them: this
-- project's profile. A tenant's number is the index of its table. The openings are the tables that
-- the log was opened over.
use Rattle.std.specs.Prelude.{◌≡◌, ℕ, ◌+◌, ◌-◌, ◌^◌, ◌≤◌, ◌==◌, true, if◌then◌else◌, List, length, map, Option, Some, None, slice_get, IfSome}
use Rattle.std.specs.Option.{option_map, option_map_or}
use Rattle.mc_model.specs.declared.command.Command.{Command}
use Rattle.mc_model.specs.declared.request.Entry.{Entry}
use Rattle.mc_model.specs.declared.reply.Reply.{Reply}
use Rattle.mc_model.specs.declared.settings.Limits.{Limits}
use Rattle.mc_model.specs.Effect.{is_refusal}
use Rattle.mc_model.specs.History.{answer_from, state_from}
use Rattle.mc_model.specs.Log.{own, own_command}
use Rattle.mc_model.specs.State.{TableState, empty_table, next_reply, next_state}

-- the tables before any command
abbrev pub empty_tables : List Limits → List TableState
empty_tables openings = map empty_table openings

-- there is a table for each opening: that opening after the tenant's own commands of the log
abbrev pub EachStands : List TableState → List (Option Entry) → List TableState → Type 0
EachStands openings log tables = (tenant : ℕ) →
    slice_get tables tenant
    ≡ option_map (λ opening. state_from opening (own tenant log)) (slice_get openings tenant)

-- in each table, this many more changes can get uniques of 64 bits
abbrev pub HaveRoom : List TableState → ℕ → Type 0
HaveRoom tables places = (tenant : ℕ) (state : TableState) → slice_get tables tenant ≡ Some state →
    state.last_unique + places ≤ 2 ^ 64 - 1

-- a table after a command, or as it is if there is none
abbrev pub with_command : TableState → Option Command → TableState
with_command state command = option_map_or (next_state state) command state

-- each table takes its own tenant's command of an entry; if the entry isn't that tenant's, or there
-- is none, the table stays as it is
abbrev pub TakeEffect : Option Entry → List TableState → List TableState → Type 0
TakeEffect entry old new = (tenant : ℕ) →
    slice_get new tenant
    ≡ option_map (λ state. with_command state (own_command tenant entry)) (slice_get old tenant)

-- the reply to an entry of a known tenant: the answer after that tenant's own commands of the log
abbrev pub reply_to : List TableState → List (Option Entry) → Option Entry → Option Reply
reply_to openings log None = None
reply_to openings log (Some entry) =
    option_map (λ opening. answer_from opening (own entry.tenant log) entry.command)
    (slice_get openings entry.tenant)

-- what a worker answers from its tables: the reply of the tenant's table, if the entry's ticket is
-- the worker's own
abbrev pub reply_from : ℕ → List TableState → Option Entry → Option Reply
reply_from worker tables None = None
reply_from worker tables (Some entry) =
    if entry.ticket.worker == worker
    then option_map (λ (table : TableState). next_reply table entry.command)
    (slice_get tables entry.tenant)
    else None

-- what this worker answers: the reply, if the entry's ticket is its own
abbrev pub answer_to : ℕ → List TableState → List (Option Entry) → Option Entry → Option Reply
answer_to worker openings log None = None
answer_to worker openings log (Some entry) =
    if entry.ticket.worker == worker then reply_to openings log (Some entry) else None

-- the entry would be refused, whoever announced it, or there is no reply to it
abbrev pub IsRefused : List TableState → List (Option Entry) → Option Entry → Type 0
IsRefused openings log entry =
    IfSome (reply_to openings log entry) (λ reply. is_refusal reply ≡ true)

-- there is no entry, or its tenant is unknown
abbrev pub IsNobodys : List TableState → Option Entry → Type 0
IsNobodys openings None = Unit {0}
IsNobodys openings (Some entry) = length openings ≤ entry.tenant
