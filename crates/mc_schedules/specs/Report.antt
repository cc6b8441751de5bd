-- What is printed of a run, line by line; this project's profile.
use Rattle.std.specs.Prelude.{ℕ, ◌/◌, ◌%◌, ◌==◌, ◌+◌, ◌&&◌, Bool, nat_lt, if◌then◌else◌, List, [], ◌∷◌, ◌++◌, Some, None, codes, decimal, flat_map}
use Rattle.std.specs.List.{enumerate_from}
use Rattle.std.specs.Option.{option_map_or}
use Rattle.mc_model.specs.declared.id.Ticket.{Ticket}
use Rattle.mc_model.specs.declared.shown.Phase.{Phase}
use Rattle.mc_model.specs.declared.shown.Phase.TheVariants.{Idle, Pending, Looked, Stopped}
use Rattle.mc_model.specs.declared.shown.WorkerState.{WorkerState}
use Rattle.mc_write.specs.Faults.{fault_text}
use Rattle.mc_write.specs.Text.{text}
use Rattle.uc_core.specs.Core.{CoreState}
use Rattle.uc_core.specs.Run.{Given}
use Rattle.uc_core.specs.Showing.{progress_by}
use Rattle.uc_core.specs.declared.machine.Progress.{Progress}
use Rattle.mc_schedules.specs.Doing.{Ending}

-- a hexadecimal digit, in small letters from 10 on
abbrev pub hexadecimal : ℕ → ℕ
hexadecimal digit = if nat_lt digit 10 then 48 + digit else 87 + digit

-- a byte as it is printed: line ends and backslashes as a backslash and a character, each other
-- byte outside visible ASCII and the space as its two hexadecimal digits
abbrev pub escaped : ℕ → List ℕ
escaped byte =
    if byte == 13 then codes "\\r"
    else if byte == 10 then codes "\\n"
    else if byte == 92 then codes "\\\\"
    else if nat_lt 31 byte && nat_lt byte 127 then byte ∷ []
    else codes "\\x" ++ hexadecimal (byte / 16) ∷ hexadecimal (byte % 16) ∷ []

-- a reply: its worker, its place, and its bytes
abbrev pub reply_line : Given → List ℕ
reply_line (worker, place, reply) =
    codes "reply " ++ decimal worker ++ codes " " ++ decimal place
    ++ codes " " ++ flat_map escaped (text reply) ++ codes "\n"

-- the replies in the order in which they were given, unless the report is quiet
abbrev pub replies_text : Bool → List Given → List ℕ
replies_text quiet given = if quiet then [] else flat_map reply_line given

-- the fault that ended the run, if any, with the line whose event met it
abbrev pub ending_text : Ending → List ℕ
ending_text None = []
ending_text (Some met) =
    codes "fault " ++ decimal met.0 ++ codes " " ++ fault_text met.1 ++ codes "\n"

abbrev pub ticket_text : Ticket → List ℕ
ticket_text ticket =
    codes " (" ++ decimal ticket.worker ++ codes "," ++ decimal ticket.number ++ codes ")"

-- the tickets of the decided places
abbrev pub log_text : List Ticket → List ℕ
log_text decided = codes "log" ++ flat_map ticket_text decided ++ codes "\n"

abbrev pub phase_text : Phase → List ℕ
phase_text Idle = codes "idle"
phase_text Pending = codes "pending"
phase_text Looked = codes "looked"
phase_text Stopped = codes "stopped"

-- the progress of a worker
abbrev pub worker_line : ℕ → Progress → List ℕ
worker_line number worker =
    codes "worker " ++ decimal number ++ codes " " ++ phase_text worker.phase
    ++ codes " learned " ++ decimal worker.learned
    ++ codes " replayed " ++ decimal worker.replayed
    ++ codes " proposals " ++ decimal worker.proposals ++ codes "\n"

-- each worker, in the order of their numbers
abbrev pub workers_text : CoreState → List ℕ
workers_text core =
    flat_map
    (λ (one : ℕ × WorkerState). option_map_or (worker_line one.0) (progress_by core one.0) [])
    (enumerate_from 0 core.shown.workers)

-- the whole report
abbrev pub report : Bool → CoreState → List Given → Ending → List ℕ
report quiet core given end =
    replies_text quiet given ++ ending_text end ++ log_text core.shown.decided ++ workers_text core
