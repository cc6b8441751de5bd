-- Worked lists, tried on the definitions: what they read as, what a worker needs, and what is
-- printed.
use Rattle.std.specs.Prelude.{◌≡◌, [], ◌∷◌, Some, None, codes, refl}
use Rattle.std.specs.Fmt.{digits}
use Rattle.mc_model.specs.declared.fault.Fault.TheVariants.{BadEvent, LogFull}
use Rattle.mc_model.specs.declared.reply.Reply.TheVariants.{Stored, Values}
use Rattle.mc_model.specs.declared.shown.Phase.TheVariants.{Idle, Looked, Pending, Stopped}
use Rattle.mc_schedules.specs.Needed.{needed_at}
use Rattle.mc_schedules.specs.Report.{ending_text, log_text, reply_line, worker_line}
use Rattle.mc_schedules.specs.Schedule.{BadLine, reading}
use Rattle.uc_core.specs.declared.event.Event.TheVariants.{Look, Propose, Read, Replay}
use Rattle.uc_core.specs.declared.machine.Progress.{Progress}

-- a line of no known form, one out of its place, and a list without tenants
no_form : reading (codes "core 1 4\ntenant 4 100\njump 0\n") ≡ BadLine 3
no_form = refl

out_of_place : reading (codes "# a comment\ncore 1 4\n\nread 0\n") ≡ BadLine 4
out_of_place = refl

carriage_return : reading (codes "core 1 4\r\ntenant 4 100\n") ≡ BadLine 1
carriage_return = refl

no_tenants : reading (codes "core 1 4\n") ≡ BadLine 0
no_tenants = refl

-- a worker that has learned two of eight places and replayed one
at_work : Progress
at_work = record { phase = Pending; announced = 1; learned = 2; replayed = 1; mark = None; look = None; proposals = 0 }

reads : needed_at 8 0 at_work Pending ≡ Some (Read 0)
unfolding at_work
reads = refl

looks : needed_at 8 0 (record at_work { mark = Some 2 }) Pending ≡ Some (Look 0)
unfolding at_work
looks = refl

all_learned : needed_at 2 0 at_work Pending ≡ Some (Look 0)
unfolding at_work
all_learned = refl

proposes : needed_at 8 0 at_work Looked ≡ Some (Propose 0)
proposes = refl

replays : needed_at 8 0 at_work Idle ≡ Some (Replay 0)
unfolding at_work
replays = refl

rests : needed_at 8 0 (record at_work { replayed = 2 }) Idle ≡ None
unfolding at_work
rests = refl

stopped : needed_at 8 0 at_work Stopped ≡ None
stopped = refl

-- what is printed
stored : reply_line (0, 12, Stored) ≡ codes "reply 0 12 STORED\\r\\n\n"
unfolding digits
stored = refl

found : reply_line (1, 1, Values ((record { key = codes "a"; flags = 0; block = 92 ∷ 7 ∷ 255 ∷ []; unique = None }) ∷ []))
    ≡ codes "reply 1 1 VALUE a 0 3\\r\\n\\\\\\x07\\xff\\r\\nEND\\r\\n\n"
unfolding digits
found = refl

full : ending_text (Some (4, LogFull)) ≡ codes "fault 4 log full\n"
unfolding digits
full = refl

not_enabled : ending_text (Some (3, BadEvent)) ≡ codes "fault 3 event not enabled\n"
unfolding digits
not_enabled = refl

log : log_text ((record { worker = 0; number = 0 }) ∷ (record { worker = 1; number = 10 }) ∷ []) ≡ codes "log (0,0) (1,10)\n"
unfolding digits
log = refl

empty_log : log_text [] ≡ codes "log\n"
empty_log = refl

waits : worker_line 1 at_work ≡ codes "worker 1 pending learned 2 replayed 1 proposals 0\n"
unfolding digits at_work
waits = refl
