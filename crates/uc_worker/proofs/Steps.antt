-- What a worker's steps come to between those that its contracts name.
use Rattle.std.specs.Prelude.{◌≡◌, ℕ, ◌+◌, [], ◌∷◌, ◌++◌, length}
use Rattle.mc_model.specs.declared.id.Ticket.{Ticket}
use Rattle.mc_model.specs.declared.shown.Phase.TheVariants.{Pending}
use Rattle.uc_log.specs.declared.log.Log.{Log}
use Rattle.uc_log.specs.declared.pass.Pass.{Pass}
use Rattle.uc_log.specs.Passes.{IsOf, learned, own_sightings, seat, size, state}
use Rattle.uc_places.specs.declared.view.View.{View}
use Rattle.uc_worker.specs.Steps.{IsSame, Later}

-- one more ticket is learned
pub record Learns (old new : View) (ticket : Ticket) : Type 0 where
  pub same : IsSame old new
  pub told : new.told ≡ old.told
  pub announced : new.state.announced ≡ old.state.announced
  pub mark : new.state.mark ≡ old.state.mark
  pub learned : new.state.learned ≡ old.state.learned ++ ticket ∷ []

-- one command is announced, and is pending
pub record Announced (old new : View) : Type 0 where
  pub same : IsSame old new
  pub announced : new.state.announced ≡ old.state.announced + 1
  pub learned : new.state.learned ≡ old.state.learned
  pub phase : new.state.phase ≡ Pending

-- the places before this one, of which `end` is the last one's successor, are learned, and the command
-- is still pending
pub record IsWaiting (log : Log) (old new : Pass) (place end : ℕ) : Type 0 where
  pub of : IsOf log new
  pub pending : (state new).phase ≡ Pending
  pub later : Later (seat old) (seat new)
  pub here : length (learned new) ≡ place
  pub places : end ≡ (size old).places
  pub own : own_sightings new ≡ own_sightings old
