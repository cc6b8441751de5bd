-- What becomes of a pass, and of its pending command, while its worker goes on. Announcing and
-- deciding are those of Herlihy's universal construction (Wait-Free Synchronization, TOPLAS 1991);
-- passes and faults are this project's profile.
use Rattle.std.specs.Prelude.{◌≡◌, ◌≢◌, ◌⊎◌, ℕ, ◌+◌, ◌-◌, ◌<◌, [], ◌∷◌, ◌++◌, length, None, Some, slice_get}
use Rattle.mc_model.specs.declared.command.Command.{Command}
use Rattle.mc_model.specs.declared.fault.Fault.{Fault}
use Rattle.mc_model.specs.declared.fault.Fault.TheVariants.{LogFull}
use Rattle.mc_model.specs.declared.shown.Phase.TheVariants.{Idle, Pending}
use Rattle.lists.specs.Lists.{BeginsWith}
use Rattle.mc_model.specs.Lawful.{HasRoom}
use Rattle.uc_log.specs.declared.log.Log.{Log}
use Rattle.uc_log.specs.declared.pass.Pass.{Pass}
use Rattle.uc_log.specs.Passes.{IsOf, learned, next_sighting, next_ticket, own_sightings, seat, size, state}
use Rattle.uc_worker.specs.Steps.{IsSame, Later, Leaves, Rests}

-- more tickets may be learned, and nothing is announced: the pass still belongs to the log, and
-- what it put into the log's cells is unchanged
pub record LearnsOn (log : Log) (old new : Pass) : Type 0 where
  pub of : IsOf log new
  pub own : own_sightings new ≡ own_sightings old
  pub later : Later (seat old) (seat new)

-- the command is still pending, and has its mark if there is room
pub record IsMarked (pass : Pass) : Type 0 where
  pub pending : (state pass).phase ≡ Pending
  pub marked : HasRoom (size pass) (state pass) → (state pass).mark ≢ None

-- the command is still pending, and all places are learned
pub record RunsOut (pass : Pass) : Type 0 where
  pub pending : (state pass).phase ≡ Pending
  pub full : length (learned pass) ≡ (size pass).places

-- the same worker's pass of the log, between two steps: what it had learned stays
pub record Advances (log : Log) (old new : Pass) : Type 0 where
  pub of : IsOf log new
  pub rests : Rests (state new).phase
  pub same : IsSame (seat old) (seat new)
  pub begins : BeginsWith (learned new) (learned old)

-- the same, and nothing was put into the log's cells
pub record LearnsMore (log : Log) (old new : Pass) : Type 0 where
  pub advances : Advances log old new
  pub own : own_sightings new ≡ own_sightings old

-- the tenant's command was put and announced under the next number, and is decided: its ticket is
-- the last one learned
pub record Decides (log : Log) (old new : Pass) (tenant : ℕ) (command : Command) : Type 0 where
  pub idle : (state new).phase ≡ Idle
  pub announced : (state new).announced ≡ (state old).announced + 1
  pub more : length (learned old) < length (learned new)
  pub last : slice_get (learned new) (length (learned new) - 1) ≡ Some (next_ticket old)
  pub put : slice_get (own_sightings new) (state old).announced
      ≡ Some (next_sighting log old tenant command)
  pub own : own_sightings new ≡ own_sightings old ++ next_sighting log old tenant command ∷ []

-- a fault: at most the tenant's command was put, under the next number; if the log was full it is
-- pending, or nothing was learned
pub record LeavesUndecided (log : Log) (old new : Pass) (tenant : ℕ) (command : Command)
    (fault : Fault) : Type 0 where
  pub leaves : Leaves fault (seat old) (seat new)
  pub kept : (own_sightings new ≡ own_sightings old)
      ⊎ (own_sightings new ≡ own_sightings old ++ next_sighting log old tenant command ∷ [])
  pub spends : fault ≡ LogFull → ((state new).phase ≡ Pending) ⊎ (learned new ≡ learned old)
