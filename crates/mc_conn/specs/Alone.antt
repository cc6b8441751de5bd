-- The bytes that a client is owed if one worker serves it on a log of its own: a function of its
-- requests, in which nothing depends on the run. After memcached's doc/protocol.txt, "Commands" and
-- "Storage commands": each request is answered, but for those that say noreply. How many commands a
-- log takes is this project's profile.
use Rattle.std.specs.Prelude.{◌≡◌, ℕ, nat_lt, if◌then◌else◌, List, [], ◌∷◌, ◌++◌, length}
use Rattle.mc_model.specs.declared.command.Command.{Command}
use Rattle.mc_model.specs.declared.reply.Reply.{Reply}
use Rattle.mc_model.specs.declared.reply.Reply.TheVariants.{Refused}
use Rattle.mc_model.specs.declared.reply.TheConstants.WireNo.{LINE_TOO_LONG, LOG_FULL, UNKNOWN_COMMAND}
use Rattle.mc_model.specs.declared.request.Request.{Request}
use Rattle.mc_model.specs.declared.request.Request.TheVariants.{Limit, Local, Logged, Quit, TooLong}
use Rattle.mc_model.specs.declared.settings.Limits.{Limits}
use Rattle.mc_model.specs.History.{answer, state_after}
use Rattle.mc_write.specs.Text.{text}
use Rattle.uc_worker.specs.declared.worker.Worker.{Worker}
use Rattle.uc_worker.specs.Worker.{openings_of, seat_of}
use Rattle.mc_conn.specs.Owed.{Mark, answered}

-- The reply to a command under these quotas, in a log with this many places that was opened over
-- the table after the commands of the base, once these others were applied in it.
abbrev pub logged_reply : Limits → List Command → ℕ → List Command → Command → Reply
logged_reply limits base places applied command =
    if nat_lt (length applied) places
    then answer limits (base ++ applied) command
    else Refused LOG_FULL

-- the commands that are applied once this one has come: it is among them if a place was left
abbrev pub applied_with : ℕ → List Command → Command → List Command
applied_with places applied command =
    if nat_lt (length applied) places then applied ++ command ∷ [] else applied

-- what is owed for requests from then on; a tenant's lines ask for no quotas
abbrev pub owed_after : Limits → List Command → ℕ → List Command → List Request → List ℕ
owed_after limits base places applied [] = []
owed_after limits base places applied (Logged command quiet ∷ requests) =
    answered quiet (logged_reply limits base places applied command)
    ++ owed_after limits base places (applied_with places applied command) requests
owed_after limits base places applied (Limit name quotas quiet ∷ requests) =
    answered quiet (Refused UNKNOWN_COMMAND) ++ owed_after limits base places applied requests
owed_after limits base places applied (Local reply quiet ∷ requests) =
    answered quiet reply ++ owed_after limits base places applied requests
owed_after limits base places applied (Quit ∷ requests) =
    owed_after limits base places applied requests
owed_after limits base places applied (TooLong ∷ requests) =
    text (Refused LINE_TOO_LONG) ++ owed_after limits base places applied requests

-- the commands among the requests of a tenant's connection
abbrev pub commands_of : List Request → List Command
commands_of [] = []
commands_of (Logged command quiet ∷ requests) = command ∷ commands_of requests
commands_of (Limit name quotas quiet ∷ requests) = commands_of requests
commands_of (Local reply quiet ∷ requests) = commands_of requests
commands_of (Quit ∷ requests) = commands_of requests
commands_of (TooLong ∷ requests) = commands_of requests

-- what is owed for the first requests of a log that was opened over an empty table
abbrev pub owed : Limits → ℕ → List Request → List ℕ
owed limits places requests = owed_after limits [] places [] requests

-- the one worker of a log with this many places, which was opened over its one tenant's table after
-- the commands of the base, under these quotas
pub record IsAloneOver (limits : Limits) (base : List Command) (places : ℕ)
    (worker : Worker) : Type 0 where
  pub workers : (seat_of worker).size.workers ≡ 1
  pub long : (seat_of worker).size.places ≡ places
  pub openings : openings_of worker ≡ state_after limits base ∷ []

-- the same of a log that was opened over an empty table
abbrev pub IsAlone : Limits → ℕ → Worker → Type 0
IsAlone limits places worker = IsAloneOver limits [] places worker

-- a worker's mark before its first command
abbrev pub first_mark : Mark
first_mark = record { number = 0; place = 0 }
