-- What the core shows of a worker: its progress and its tables; this project's profile.
use Rattle.std.specs.Prelude.{ℕ, length, Option, slice_get}
use Rattle.std.specs.Option.{option_and_then, option_map}
use Rattle.mc_model.specs.declared.shown.WorkerState.{WorkerState}
use Rattle.mc_model.specs.State.{TableState}
use Rattle.uc_core.specs.Core.{CoreState, ReplayState}
use Rattle.uc_core.specs.declared.machine.Progress.{Progress}

abbrev pub progress_of : WorkerState → ReplayState → Progress
progress_of worker replay = record {
  phase = worker.phase;
  announced = worker.announced;
  learned = length worker.learned;
  replayed = replay.replayed;
  mark = worker.mark;
  look = worker.look;
  proposals = worker.proposals;
}

-- the progress of the worker with this number, if there is one
abbrev pub progress_by : CoreState → ℕ → Option Progress
progress_by core number =
    option_and_then
    (λ (worker : WorkerState). option_map (progress_of worker) (slice_get core.replays number))
    (slice_get core.shown.workers number)

-- a tenant's table as a worker has replayed it
abbrev pub table_by : CoreState → ℕ → ℕ → Option TableState
table_by core number tenant =
    option_and_then (λ (replay : ReplayState). slice_get replay.tables tenant)
    (slice_get core.replays number)
