-- Which connections wait, whose turn it is, and what a turn costs; this project's profile.
use Rattle.std.specs.Prelude.{◌≡◌, ◌⊎◌, ℕ, ◌+◌, ◌-◌, ◌*◌, ◌^◌, ◌≤◌, ◌&&◌, Bool, Option, None, Some, length, min, slice_get, slice_set, unwrap_or}
use Rattle.fair_queue.specs.Turns.{Charges, GivesFirst, IsIdle, IsPushed, QueueState, TurnGoesOn, flow_at}
use Rattle.mc_connections.specs.declared.waiting.TheConstants.{BYTES_OF_A_REQUEST, BYTES_OF_A_SERVE, ROUND}
use Rattle.mc_connections.specs.declared.waiting.Waiting.{Waiting}

-- what it costs to serve a connection of which this many requests got a reply, and whose stream
-- moved this many bytes
abbrev pub cost_of : ℕ → ℕ → ℕ
cost_of requests bytes =
    min (BYTES_OF_A_SERVE + requests * BYTES_OF_A_REQUEST + bytes) (2 ^ 64 - 1)

-- of this many flows that of a tenant, or the last one, which is the administrators'
abbrev pub flow_of : ℕ → Option ℕ → ℕ
flow_of flows tenant = min (unwrap_or tenant (flows - 1)) (flows - 1)

-- the connection under this key waits
abbrev pub WaitsInLine : Waiting → ℕ → Type 0
WaitsInLine waiting key = (short : Bool) × (slice_get waiting.waits.items key ≡ Some (Some short))

-- what is noted under this key: `stops_short` if the connection waits
abbrev pub short_at : Waiting → ℕ → Option Bool
short_at waiting key = unwrap_or (slice_get waiting.waits.items key) None

-- what is noted once there is one more event: a short read is the last one only if it is for each
abbrev pub short_with : Option Bool → Bool → Bool
short_with None short = short
short_with (Some earlier) short = earlier && short

-- this is noted under this key, if it is one, and nothing else has changed of who waits
abbrev pub IsNoted : ℕ → Option Bool → Waiting → Waiting → Type 0
IsNoted key noted old new = new.waits.items ≡ slice_set old.waits.items key noted

-- a connection that didn't wait came to wait behind those of its flow; or it waits already, or its
-- key is none, and the queue is as it was
abbrev pub ComesToWait : Option ℕ → ℕ → Waiting → Waiting → Type 0
ComesToWait tenant key old new =
    ¬ (WaitsInLine old key) × WaitsInLine new key
    × IsPushed (flow_of (length old.queue.flows) tenant) key old.queue new.queue
    ⊎ (new.queue ≡ old.queue) × (WaitsInLine old key ⊎ length old.waits.items ≤ key)

-- a connection came to wait, as one for which a short read is the last one or isn't; and nothing is
-- noted of any other
abbrev pub LetsWait : Option ℕ → ℕ → Bool → Waiting → Waiting → Type 0
LetsWait tenant key short old new =
    ComesToWait tenant key old new
    × IsNoted key (Some (short_with (short_at old key) short)) old new

-- What the connection before this one has cost was charged to the flow that had its turn, and the
-- next flow in which one waits gave its first, which doesn't wait any more.
pub record TakesTurn (key : ℕ) (old new : Waiting) : Type 0 where
  pub flow : ℕ
  pub between : QueueState
  pub charged : Charges old.spent old.queue between
  pub given : GivesFirst flow key between new.queue
  pub taken : ¬ (WaitsInLine new key)

-- as much is spent in the round as is spent in each at least, and the turn ends once what the last
-- serve has cost is charged
abbrev pub IsRoundOver : Waiting → Type 0
IsRoundOver waiting = (ROUND ≤ waiting.spent_in_round)
    × ¬ (TurnGoesOn waiting.spent (flow_at waiting.queue waiting.queue.turn))

-- the round is over; or nobody waits, once what the last one has cost is charged, and what is noted
-- of who waits is as it was
abbrev pub EndsRound : Waiting → Waiting → Type 0
EndsRound old new = IsRoundOver old × (new ≡ old)
    ⊎ Charges old.spent old.queue new.queue × IsIdle new.queue × (new.spent ≡ 0)
    × (new.waits.items ≡ old.waits.items)

-- this key stands in the queue, in this flow, behind that many others
abbrev pub IsQueued : Waiting → (flow ahead key : ℕ) → Type 0
IsQueued waiting flow ahead key = slice_get (flow_at waiting.queue flow).ready ahead ≡ Some key

-- The connections that are noted as waiting are those in the queue, and none is there twice.
pub record AreQueued (waiting : Waiting) : Type 0 where
  pub queued : (key : ℕ) → WaitsInLine waiting key →
      (flow : ℕ) × (ahead : ℕ) × IsQueued waiting flow ahead key
  pub waits : (flow ahead key : ℕ) → IsQueued waiting flow ahead key → WaitsInLine waiting key
  pub once : (flow ahead other behind key : ℕ) → IsQueued waiting flow ahead key →
      IsQueued waiting other behind key → (flow ≡ other) × (ahead ≡ behind)
