-- How a worker's steps change what its seat knows. Announcing and deciding are those of Herlihy's
-- universal construction (Wait-Free Synchronization, TOPLAS 1991); what is shown of a worker, and
-- what a fault leaves, are this project's profile.
use Rattle.std.specs.Prelude.{◌≡◌, ◌≢◌, ◌⊎◌, ℕ, ◌+◌, ◌-◌, ◌<◌, length, Some, None, slice_get}
use Rattle.mc_model.specs.declared.fault.Fault.{Fault}
use Rattle.mc_model.specs.declared.fault.Fault.TheVariants.{Memory, LogFull, Taken}
use Rattle.mc_model.specs.declared.shown.Phase.{Phase}
use Rattle.mc_model.specs.declared.shown.Phase.TheVariants.{Idle, Pending, Looked, Stopped}
use Rattle.lists.specs.Lists.{BeginsWith}
use Rattle.mc_model.specs.Lawful.{HasRoom}
use Rattle.mc_model.specs.Legal.{ticket_of}
use Rattle.uc_places.specs.declared.view.View.{View}

-- the worker is between two commands, or between two steps of one
abbrev pub Rests : Phase → Type 0
Rests phase = (phase ≢ Looked) × (phase ≢ Stopped)

-- the same worker of a log of the same size
abbrev pub IsSame : View → View → Type 0
IsSame old new = (new.size ≡ old.size) × (new.worker ≡ old.worker)

-- more tickets may be learned, and nothing is announced
pub record Later (old new : View) : Type 0 where
  pub same : IsSame old new
  pub told : new.told ≡ old.told
  pub announced : new.state.announced ≡ old.state.announced
  pub learned : BeginsWith new.state.learned old.state.learned

-- all places are learned, or the next one was empty in the log's state after the seat's last event
abbrev pub HasReadOn : View → Type 0
HasReadOn view =
    (length view.state.learned ≡ view.size.places)
    ⊎ (slice_get view.last.decided (length view.state.learned) ≡ None)

-- exactly this many more places are learned, and others are left
pub record LearnsExactly (more : ℕ) (old new : View) : Type 0 where
  pub count : length new.state.learned ≡ length old.state.learned + more
  pub room : HasRoom new.size new.state

-- the command that was announced last is decided, and its ticket is the last one learned
pub record Decided (old new : View) : Type 0 where
  pub idle : new.state.phase ≡ Idle
  pub more : length old.state.learned < length new.state.learned
  pub last : slice_get new.state.learned (length new.state.learned - 1)
      ≡ Some (ticket_of old.worker (old.state.announced - 1))

-- What a fault leaves. If memory ran out, at most the call's command is announced, and none is
-- pending: by the seat's law it is then among what is learned, and takes effect. If the log is
-- full, all places are learned, and the call's command, if it was announced, isn't among them. If
-- the command's cell holds another value, nothing is announced.
pub record Leaves (fault : Fault) (old new : View) : Type 0 where
  pub which : (fault ≡ Memory) ⊎ (fault ≡ LogFull) ⊎ (fault ≡ Taken)
  pub announced : (new.state.announced ≡ old.state.announced)
      ⊎ (new.state.announced ≡ old.state.announced + 1)
  pub memory : fault ≡ Memory → new.state.phase ≡ Idle
  pub full : fault ≡ LogFull → length new.state.learned ≡ new.size.places
  pub waits : fault ≡ LogFull → new.state.announced ≡ old.state.announced + 1 →
      new.state.phase ≡ Pending
  pub taken : fault ≡ Taken → (new.state.announced ≡ old.state.announced) × (new.state.phase ≡ Idle)
