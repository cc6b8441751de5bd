-- All workers of a log on one run of it: a history of the log, and each worker's subhistory in it
-- (Herlihy and Wing, Linearizability, TOPLAS 1990).
use Rattle.std.specs.Prelude.{◌≡◌, All, List, map}
use Rattle.lists.specs.Lists.{BeginsWith}
use Rattle.mc_model.specs.declared.shown.LogSize.{LogSize}
use Rattle.mc_model.specs.declared.shown.ShownState.{ShownState}
use Rattle.mc_model.specs.Lawful.{IsWorker, LeadOn, ShownEvent}
use Rattle.mc_model.specs.Shown.{new_log}
use Rattle.uc_log.specs.declared.log.Log.{Log}
use Rattle.uc_places.specs.declared.view.Part.{Part}
use Rattle.uc_places.specs.Run.{AreOneRun, HasMade, part_of}
use Rattle.uc_worker.specs.declared.worker.Worker.{Worker}
use Rattle.uc_worker.specs.Worker.{announced_of, seat_of}

-- what a worker's seat knows of it: its number and state, and all its calls since the opening
abbrev pub own_part : Worker → Part
own_part worker = part_of (seat_of worker)

-- One run of the log, from its opening, has all calls of these workers' seats, in order, and no
-- other events of theirs; and it leads to a state that shows each of them as it is.
abbrev pub AreOnOneRun : List Worker → Type 0
AreOnOneRun workers =
    (size : LogSize) × (log : ShownState) × AreOneRun size (map own_part workers) log

-- all workers are of the log
abbrev pub AreOfLog : Log → List Worker → Type 0
AreOfLog log workers = All (λ (worker : Worker). worker.log.now ≡ log) workers

-- these are of the worker's log
abbrev pub AreOfItsLog : Worker → List Worker → Type 0
AreOfItsLog worker others = AreOfLog worker.log.now others

-- the worker has taken no event, and announced and replayed nothing; its seat may have been told
-- something
pub record TakesNoStep (old new : Worker) : Type 0 where
  pub log : new.log ≡ old.log
  pub replica : new.replica ≡ old.replica
  pub announced : announced_of new ≡ announced_of old
  pub part : own_part new ≡ own_part old

-- at some moment of the log's run, between these two, the worker was so and had made these calls
pub record WasSo (size : LogSize) (early late : List ShownEvent) (part : Part) : Type 0 where
  pub run : List ShownEvent
  pub after : BeginsWith run early
  pub before : BeginsWith late run
  pub state : ShownState
  pub lead : LeadOn size (new_log size) run state
  pub sized : part.size ≡ size
  pub shown : IsWorker state part.worker part.state
  pub made : HasMade run part.worker part.calls
