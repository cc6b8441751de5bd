-- By computation: where no worker is found, the refusal is that of a bad event.
use Rattle.std.proofs.Common.{Option, slice_get, ap}
use Rattle.mc_model.specs.declared.shown.WorkerState.{WorkerState}
use Rattle.uc_core.specs.Step.{actor, refusal_of}
use Rattle.uc_laws.proofs.workers.only_workers_act.Goals as goal

pub returns : goal.returns
returns c = λ core event none.
    ap (λ (found : Option WorkerState). refusal_of core event found (slice_get core.replays (actor event))) none
