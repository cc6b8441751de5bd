-- What each event of the log makes of the worker that takes it: one function per event. A worker
-- announces, helps round-robin, and proposes at the next place, as in Herlihy's universal
-- construction (Wait-Free Synchronization, TOPLAS 1991), whose consensus objects are the places.
-- What is shown of a worker, the mark and the count of proposals are this project's profile.
use Rattle.std.specs.Prelude.{ℕ, ◌+◌, ◌-◌, ◌==◌, ◌&&◌, Bool, if◌then◌else◌, [], ◌∷◌, ◌++◌, length, replicate, ltb, Option, Some, None}
use Rattle.std.specs.Option.{unwrap_or}
use Rattle.mc_model.specs.declared.id.Ticket.{Ticket}
use Rattle.mc_model.specs.declared.shown.LogSize.{LogSize}
use Rattle.mc_model.specs.declared.shown.Phase.{Phase}
use Rattle.mc_model.specs.declared.shown.Phase.TheVariants.{Idle, Pending, Looked, Stopped}
use Rattle.mc_model.specs.declared.shown.ShownState.{ShownState}
use Rattle.mc_model.specs.declared.shown.WorkerState.{WorkerState}
use Rattle.mc_model.specs.Legal.{count, ticket_of}

-- a worker before any event, and a log before any event
abbrev pub new_worker : WorkerState
new_worker =
    record { phase = Idle; announced = 0; learned = []; mark = None; look = None; proposals = 0 }

abbrev pub new_log : LogSize → ShownState
new_log size = record { decided = []; workers = replicate size.workers new_worker }

-- Announce: one more command is pending, without a mark and with no proposals yet.
abbrev pub announce : WorkerState → WorkerState
announce worker =
    record worker { phase = Pending; announced = worker.announced + 1; mark = None; proposals = 0 }

-- the ticket is the one that the worker of this number announced last
abbrev pub is_latest : ℕ → WorkerState → Ticket → Bool
is_latest number worker ticket = ticket.worker == number && ticket.number + 1 == worker.announced

-- Learn: the worker gets to know the ticket of its next place. It is idle if that is its latest
-- ticket, else in the given phase.
abbrev pub learn : ℕ → Phase → Ticket → WorkerState → WorkerState
learn number phase ticket worker = record worker {
  phase = if is_latest number worker ticket then Idle else phase;
  learned = worker.learned ++ ticket ∷ [];
}

-- a pending worker without a mark gets its next place as its mark
abbrev pub marked : Phase → Option ℕ → ℕ → Option ℕ
marked Pending None place = Some place
marked phase mark place = mark

-- Read: the ticket at the next place is learned; an empty place can become the mark.
abbrev pub read : ℕ → Option Ticket → WorkerState → WorkerState
read number (Some ticket) worker = learn number worker.phase ticket worker
read number None worker =
    record worker { mark = marked worker.phase worker.mark (length worker.learned) }

-- Look: of the commands that the worker to help has announced, find the first that isn't learned,
-- if there is one.
abbrev pub look : ℕ → ℕ → WorkerState → WorkerState
look helped announced worker = record worker {
  phase = Looked;
  look = if ltb (count helped worker.learned) announced
      then Some (ticket_of helped (count helped worker.learned))
      else None;
}

-- what a worker that has looked proposes: the ticket that it found, or else its own command
abbrev pub proposal : ℕ → WorkerState → Ticket
proposal number worker = unwrap_or worker.look (ticket_of number (worker.announced - 1))

-- Propose: the ticket of the next place is learned, which is the proposal if the place was empty.
abbrev pub propose : ℕ → Option Ticket → WorkerState → WorkerState
propose number found worker =
    record (learn number Pending (unwrap_or found (proposal number worker)) worker) {
      look = None;
      proposals = worker.proposals + 1;
    }

-- Stop: for good.
abbrev pub stop : WorkerState → WorkerState
stop worker = record worker { phase = Stopped }
