-- What one event loop's connections live through, log after log; this project's profile.
use Rattle.std.specs.Prelude.{Bool, List, [], ◌∷◌, ◌++◌}
use Rattle.mc_connections.specs.Working.{IsUnused, Works, standing}
use Rattle.mc_connections.specs.declared.connections.Connections.{Connections}
use Rattle.uc_worker.specs.declared.worker.Worker.{Worker}

-- The workers that served at an event loop one after another, each on the next log or, where none
-- could follow, once more on the last: as each was when it began there, and when it had served.
pub record InTurn : Type 0 where
  pub begun : List Worker
  pub served : List Worker

-- nobody has served yet
abbrev pub nobody : InTurn
nobody = record { begun = []; served = [] }

-- and then one more did
abbrev pub followed_by : InTurn → Worker → Worker → InTurn
followed_by who before after =
    record { begun = who.begun ++ before ∷ []; served = who.served ++ after ∷ [] }

-- These workers have served the connections, from when there was none: each began with those that
-- the one before it had left.
pub data HaveServedInTurn : InTurn → Connections → Type 0 where
  no_worker : (new : Connections) → IsUnused new → HaveServedInTurn nobody new
  one_on_next_log : (who : InTurn) (first last : Connections) (until : Bool)
      (before after : Worker) → HaveServedInTurn who first →
      Works until (standing before first) (standing after last) →
      HaveServedInTurn (followed_by who before after) last
