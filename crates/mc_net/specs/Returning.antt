-- What comes back of workers that have served on one log; this project's profile.
use Rattle.std.specs.Prelude.{◌≡◌, List, [], ◌∷◌, false}
use Rattle.mc_connections.specs.Asking.{HaveBeenAsked, WereAnsweredAsAsked}
use Rattle.mc_connections.specs.Working.{IsEmpty, IsUnused, Works, standing}
use Rattle.mc_connections.specs.declared.connections.Connections.{Connections}
use Rattle.mc_net.specs.declared.event_loop.EventLoop.{EventLoop}
use Rattle.mc_net.specs.declared.worker_thread.Returned.{Returned}
use Rattle.uc_worker.specs.Going.{Continues}
use Rattle.uc_worker.specs.declared.worker.Worker.{Worker}

-- the worker that came back
abbrev pub returned_worker : Returned → Worker
returned_worker back = back.worker

-- workers that have come back, each with the connections that have ended at its event loop
abbrev pub returned_of : List Worker → List EventLoop → List Returned
returned_of [] event_loops = []
returned_of (worker ∷ workers) [] = []
returned_of (worker ∷ workers) (event_loop ∷ event_loops) =
    record { worker = worker; ended = event_loop.ready.connections.ended }
    ∷ returned_of workers event_loops

-- A worker came back later on, after it had admitted connections and served them until each had
-- ended; it brought back those that have ended.
pub record HasServed (worker : Worker) (back : Returned) : Type 0 where
  pub onward : Continues worker back.worker
  pub first : Connections
  pub last : Connections
  pub new : IsUnused first
  pub works : Works false (standing worker first) (standing back.worker last)
  pub over : IsEmpty last
  pub ended : last.ended ≡ back.ended

-- each connection that the worker has served was answered, by commands that it has asked for itself
abbrev pub HasAnswered : Worker → Returned → Type 0
HasAnswered worker back =
    WereAnsweredAsAsked (worker ∷ []) (back.worker ∷ []) back.ended.connections

-- each command that the worker has announced meanwhile was asked for by one of them
abbrev pub HasBeenAsked : Worker → Returned → Type 0
HasBeenAsked worker back = HaveBeenAsked (worker ∷ []) (back.worker ∷ []) back.ended.connections
