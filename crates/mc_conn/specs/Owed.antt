-- The bytes that a connection is owed for its requests, one after another, over the history of the
-- worker that took them. After memcached's doc/protocol.txt, "Commands" and "Storage commands":
-- each request is answered, in order, but for those that say noreply. That a command is answered at
-- its place in a log which many share is Herlihy's construction (Wait-Free Synchronization, TOPLAS
-- 1991). What an administrator's requests come to is this project's profile.
use denote.Struct.Props.{props}
use Rattle.std.specs.Prelude.{◌≡◌, ◌⊎◌, ℕ, ◌+◌, ◌<◌, ◌≤◌, Bool, true, false, cond, if◌then◌else◌, List, [], ◌∷◌, ◌++◌, length, take, Option, Some, None, slice_get}
use Rattle.mc_model.specs.declared.command.Command.{Command}
use Rattle.mc_model.specs.declared.command.Command.TheVariants as command
use Rattle.mc_model.specs.declared.id.Ticket.{Ticket}
use Rattle.mc_model.specs.declared.reply.Reply.{Reply}
use Rattle.mc_model.specs.declared.reply.Reply.TheVariants.{Refused}
use Rattle.mc_model.specs.declared.reply.TheConstants.WireNo.{BAD_FORMAT, LINE_TOO_LONG, LOG_FULL, UNKNOWN_COMMAND}
use Rattle.mc_model.specs.declared.request.Request.{Request}
use Rattle.mc_model.specs.declared.request.Request.TheVariants.{Limit, Local, Logged, Quit, TooLong}
use Rattle.mc_model.specs.declared.settings.Limits.{Limits}
use Rattle.mc_model.specs.Name.{tenant_named}
use Rattle.mc_model.specs.Replay.{reply_to}
use Rattle.mc_write.specs.Text.{text}
use Rattle.uc_worker.specs.Cited.{entries}
use Rattle.uc_worker.specs.declared.worker.Worker.{Worker}
use Rattle.uc_worker.specs.Worker.{announced_of, history_of, openings_of, seat_of, tenants_of, IsFull}
use Rattle.mc_conn.specs.declared.conn.Role.{Role}
use Rattle.mc_conn.specs.declared.conn.Role.TheVariants.{Admin, Tenant}
use Rattle.mc_conn.specs.Onward.{own_entry, own_sighting}

-- the text of a reply, or nothing if the request is quiet
abbrev pub answered : Bool → Reply → List ℕ
answered quiet reply = if quiet then [] else text reply

-- How far a worker is: the number of its next command, and its next place.
pub record Mark : Type 0 where
  pub number : ℕ
  pub place : ℕ

abbrev pub mark_of : Worker → Mark
mark_of worker =
    record { number = length (announced_of worker); place = length (history_of worker) }

-- The tenant's command was announced under the next number, stands at a place of the history that
-- isn't before the mark, and the reply is the answer after that tenant's own commands before that
-- place.
pub record IsPlaced (worker : Worker) (tenant : ℕ) (from : Mark) (command : Command) (reply : Reply)
    (to : Mark) : Type 0 where
  pub place : ℕ
  pub not_before : from.place ≤ place
  pub announced : slice_get (announced_of worker) from.number
      ≡ Some (own_sighting worker from.number tenant command)
  pub stands :
      slice_get (history_of worker) place ≡ Some (own_sighting worker from.number tenant command)
  pub reply_is : Some reply
      ≡ reply_to (openings_of worker) (entries (take place (history_of worker)))
      (Some (own_entry worker from.number tenant command))
  pub next : to ≡ record { number = from.number + 1; place = place + 1 }

-- All places are learned, and each command of this worker that stands there was announced before
-- this one: so neither this one nor any later one stands in the log. The reply says that the log is
-- full, and the command wasn't announced, or was announced under the next number.
pub record IsTurnedAway (worker : Worker) (tenant : ℕ) (from : Mark) (command : Command)
    (reply : Reply) (to : Mark) : Type 0 where
  pub full : IsFull worker
  pub before : (place : ℕ) (ticket : Ticket) →
      slice_get (seat_of worker).state.learned place ≡ Some ticket →
      ticket.worker ≡ (seat_of worker).worker → ticket.number < from.number
  pub reply_is : reply ≡ Refused LOG_FULL
  pub next : (to ≡ from)
      ⊎ (slice_get (announced_of worker) from.number
      ≡ Some (own_sighting worker from.number tenant command))
      × (to ≡ record { number = from.number + 1; place = from.place })

abbrev pub IsAnswered : Worker → ℕ → Mark → Command → Reply → Mark → Type 0
IsAnswered worker tenant from command reply to =
    IsPlaced worker tenant from command reply to ⊎ IsTurnedAway worker tenant from command reply to

-- What a request comes to: a command of a tenant is logged, and its reply is owed unless the
-- request is quiet; or a text is owed without the log.
pub data Demand : Type 0 where
  Logs : ℕ → Command → Bool → Demand
  Says : List ℕ → Demand

-- a role fits a log with this many tenants: a tenant's does if that tenant is among them, and an
-- administrator's if they have as many names
abbrev pub IsAmong : Role → ℕ → Type 0
IsAmong (Tenant tenant) count = tenant < count
IsAmong (Admin names) count = length names ≡ count

-- in at most one way
pub IsAmong-prop : (role : Role) (count : ℕ) → IsProp (IsAmong role count)
IsAmong-prop (Tenant tenant) count = hlevel props
IsAmong-prop (Admin names) count = hlevel props

-- a role fits the worker's log
abbrev pub FitsLog : Role → Worker → Type 0
FitsLog role worker = IsAmong role (length (tenants_of worker))

-- Quotas that are to be set come to a command for the tenant of that name, or if there is none to a
-- refusal, which isn't quiet.
abbrev pub setting_of : Option ℕ → Limits → Bool → Demand
setting_of (Some tenant) limits quiet = Logs tenant (command.Limit limits) quiet
setting_of None limits quiet = Says (answered false (Refused BAD_FORMAT))

-- What a request on a connection of this role comes to. A tenant's lines ask for no quotas, and an
-- administrator's for no other command; such a request would be refused.
abbrev pub demand_of : Role → Request → Demand
demand_of (Tenant tenant) (Logged command quiet) = Logs tenant command quiet
demand_of (Tenant tenant) (Limit name limits quiet) =
    Says (answered quiet (Refused UNKNOWN_COMMAND))
demand_of (Admin names) (Limit name limits quiet) =
    setting_of (tenant_named names name) limits quiet
demand_of (Admin names) (Logged command quiet) = Says (answered quiet (Refused UNKNOWN_COMMAND))
demand_of role (Local reply quiet) = Says (answered quiet reply)
demand_of role Quit = Says []
demand_of role TooLong = Says (text (Refused LINE_TOO_LONG))

-- whether a demand is logged
abbrev pub is_logged : Demand → Bool
is_logged (Logs tenant command quiet) = true
is_logged (Says said) = false

-- how many of these requests are logged on a connection of this role
abbrev pub count_logged : Role → List Request → ℕ
count_logged role [] = 0
count_logged role (request ∷ requests) =
    cond (is_logged (demand_of role request)) 1 0 + count_logged role requests

-- what is owed for a demand from a mark on, and then for what comes later
abbrev pub OwesFor : Worker → Mark → Demand → List ℕ → (Mark → List ℕ → Type 0) → Type 0
OwesFor worker from (Logs tenant command quiet) bytes Later =
    (reply : Reply) × (next : Mark) × (rest : List ℕ)
    × IsAnswered worker tenant from command reply next × (bytes ≡ answered quiet reply ++ rest)
    × Later next rest
OwesFor worker from (Says said) bytes Later =
    (rest : List ℕ) × (bytes ≡ said ++ rest) × Later from rest

-- the bytes that are owed for requests of this role that this worker took from the one mark up to
-- the other
abbrev pub Owes : Worker → Role → Mark → List Request → List ℕ → Mark → Type 0
Owes worker role from [] bytes to =
    (bytes ≡ []) × (to.number ≡ from.number) × (from.place ≤ to.place)
Owes worker role from (request ∷ requests) bytes to =
    OwesFor worker from (demand_of role request) bytes
    (λ next rest. Owes worker role next requests rest to)
