-- What a worker's queue does with a connection whose turn it is; this project's profile.
use Rattle.std.specs.Prelude.{◌≡◌, ℕ, Bool, false, Option}
use Rattle.mc_conn.specs.declared.conn.State.{State}
use Rattle.mc_conn.specs.declared.conn.State.TheVariants.{Busy, Closed, Full, Idle}
use Rattle.mc_connections.specs.Serving.{SpendsAt, tenant_at}
use Rattle.mc_connections.specs.Waiting.{LetsWait, cost_of}
use Rattle.mc_connections.specs.Working.{ServesAt, Standing}
use Rattle.mc_connections.specs.declared.waiting.Waiting.{Waiting}

-- The connection under this key was served, and it is noted that this has cost what its requests
-- cost that got a reply, and the bytes that its stream gave and took.
pub record HasServedNext (until : Bool) (key : ℕ) (before after : Standing) (now : Waiting) :
    Type 0 where
  pub state : State
  pub serves : ServesAt until key state before after
  pub requests : ℕ
  pub bytes : ℕ
  pub spends : SpendsAt requests bytes key state before.connections after.connections
  pub spent : now.spent ≡ cost_of requests bytes

-- a connection in this state comes to wait behind those of its tenant if it has more to do, or a
-- command that was left to the next log, as one for which a short read isn't the last one; in any
-- other state the queue and what is noted of who waits are as they were
abbrev pub WaitsOn : State → Option ℕ → ℕ → Waiting → Waiting → Type 0
WaitsOn Busy tenant key old new = LetsWait tenant key false old new
WaitsOn Full tenant key old new = LetsWait tenant key false old new
WaitsOn Idle tenant key old new =
    (new.queue ≡ old.queue) × (new.waits.items ≡ old.waits.items)
WaitsOn Closed tenant key old new =
    (new.queue ≡ old.queue) × (new.waits.items ≡ old.waits.items)

-- the connection under this key was served, and waits on in its own tenant's flow if it has more to
-- do
pub record HasLetWait (until : Bool) (key : ℕ) (before after : Standing)
    (old new : Waiting) : Type 0 where
  pub state : State
  pub serves : ServesAt until key state before after
  pub waits : WaitsOn state (tenant_at after.connections key) key old new
